use mathlib.Core.Path.{◌≡◌}
use lib.ListN.{drop}
use Rattle.fmd_lex.specs.Tokens.{word_from}
use Rattle.fmd_lex.proofs.word_end.Given as goal

abbrev pub invariant-loop-i : goal.invariant-loop-i
invariant-loop-i l = word_from (drop l.i l.text) l.i ≡ word_from (drop l.at l.text) l.at
