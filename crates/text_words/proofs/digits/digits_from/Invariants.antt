use mathlib.Core.Path.{◌≡◌}
use Prim.Native.Nat.{◌≤◌, ◌+◌}
use lib.ListN.{drop}
use Rattle.text_words.specs.Numerals.{digits_from}
use Rattle.text_words.proofs.digits.digits_from.Given as goal

abbrev pub invariant-loop-b : goal.invariant-loop-b
invariant-loop-b l = (l.end ≡ l.at + l.b-index) × (l.value ≤ l.most)
    × (digits_from l.most l.base l.value (drop l.end l.w) l.end ≡ digits_from l.most l.base 0 (drop l.at l.w) l.at)
