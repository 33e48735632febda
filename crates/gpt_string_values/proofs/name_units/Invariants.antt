use mathlib.Core.Path.{◌≡◌}
use Rattle.gpt_string_values.proofs.Values.{named}
use Rattle.gpt_string_values.proofs.name_units.Given as goal

abbrev pub invariant-loop-i : goal.invariant-loop-i
invariant-loop-i l = l.units ≡ named l.v l.i
