-- Laws of a name's length.
use mathlib.Core.Path.{◌≡◌}
use mathlib.Core.Bool.{true}
use mathlib.Core.List.{List}
use Prim.Native.Nat.{ℕ, ◌≤◌}
use lib.ListN.{length}
use borrow.Author.Tests.{leb-true}
use Rattle.octets.proofs.Bools.{and_l, and_r}
use Rattle.text_words.specs.Names.{is_sized}

pub sized_range : (most : ℕ) (w : List ℕ) → is_sized most w ≡ true → (1 ≤ length w) × (length w ≤ most)
sized_range most w e = (leb-true 1 (length w) (and_l _ _ e), leb-true (length w) most (and_r _ _ e))
