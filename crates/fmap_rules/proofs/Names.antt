-- Laws of names: where the loop over a name's bytes stops.
use mathlib.Core.Path.{◌≡◌}
use mathlib.Core.Bool.{true, false}
use Prim.Native.Nat.{ℕ, ◌≤◌, ◌<◌}
use borrow.Author.Tests.{le-leb, lt-leb}
use Rattle.octets.specs.Tests.{◌and◌}
use Rattle.fmap_rules.specs.Map.{stops}

pub below : (b : ℕ) → b < 33 → stops b ≡ true
unfolding stops ◌and◌
below b h = rw (lt-leb 33 b h)

pub above : (b : ℕ) → 33 ≤ b → 126 < b → stops b ≡ true
unfolding stops ◌and◌
above b l h = rw (le-leb 33 b l, lt-leb b 126 h)

pub goes : (b : ℕ) → 33 ≤ b → b ≤ 126 → stops b ≡ false
unfolding stops ◌and◌
goes b l h = rw (le-leb 33 b l, le-leb b 126 h)
