use mathlib.Core.Bool.{false}
use mathlib.Core.Path.{◌≡◌}
use lib.ListN.{drop}
use Rattle.fmd_lex.specs.Tokens.{skip_from}
use Rattle.fmd_lex.proofs.skip.Given as goal

abbrev pub invariant-loop-i : goal.invariant-loop-i
invariant-loop-i l = skip_from l.comment (drop l.i l.text) l.i ≡ skip_from false (drop l.at l.text) l.at
