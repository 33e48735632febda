-- Laws of the CRC over parts, one after the other, and along a loop.
use mathlib.Core.Path.{◌≡◌, refl, ap}
use mathlib.Core.List.{List, [], ◌∷◌, ◌++◌}
use Prim.Native.Nat.{ℕ}
use Rattle.std.specs.List.{fold}
use lib.Bits.{bit_xor}
use Rattle.crc_lanes.specs.Crc.{crc_byte, crc_update, crc32}

-- ---- one part after the other

pub update-append : (c : ℕ) (a b : List ℕ) → crc_update c (a ++ b) ≡ crc_update (crc_update c a) b
unfolding crc_update
update-append c [] b = refl
update-append c (x ∷ a) b = update-append (crc_byte c x) a b

-- three parts by three updates
pub crc-parts : (x y z : List ℕ) {a b c : ℕ} → a ≡ crc_update 0xFFFF_FFFF x → b ≡ crc_update a y → c ≡ crc_update b z
    → bit_xor c 0xFFFF_FFFF ≡ crc32 (x ++ (y ++ z))
unfolding crc32
crc-parts x y z {a} {b} {c} p q r =
    let e : c ≡ crc_update 0xFFFF_FFFF (x ++ (y ++ z)) = cc (update-append 0xFFFF_FFFF x (y ++ z), update-append a y z) in
    ap (λ (n : ℕ). bit_xor n 0xFFFF_FFFF) e

-- ---- along a loop: the byte at i, and the rest decides

-- all bytes, one after the other
pub update-fold : (s : List ℕ) (c : ℕ) → fold crc_byte c s ≡ crc_update c s
unfolding crc_update
update-fold [] c = refl
update-fold (b ∷ s) c = update-fold s (crc_byte c b)
