-- The test of a byte against the signature's bytes by the bits of one number, computed for all 256 bytes.
use mathlib.Core.Path.{◌≡◌, refl, sym}
use mathlib.Core.Bool.{Bool, true, false, not, false≢true}
use Prim.Native.Nat.{ℕ, ◌+◌, ◌/◌, ◌%◌, ◌^◌, ◌<◌, zero-le}
use native.Mathlib.Omega.{arith}
use lib.Dec.{eqb}
use Rattle.octets.specs.Tests.{◌or◌, any}
use Rattle.octets.proofs.Bools.{not_f}
use Rattle.fmap_rules.specs.Map.{signature}
use Rattle.fmap.specs.Lowest.{first_from}
use Rattle.fmap.proofs.Lowest.{first-before}

agree : Bool → Bool → Bool
agree true b = b
agree false b = not b

agree-eq : (a b : Bool) → agree a b ≡ true → a ≡ b
unfolding agree
agree-eq true b e = sym e
agree-eq false true e = absurd (false≢true e)
agree-eq false false e = refl

bit : ℕ → Bool
bit b = eqb (2147557442 / 2 ^ (b % 64) % 2 + 2 / 2 ^ (b / 64) % 2) 2

differ : ℕ → Bool
differ b = not (agree (bit b) (any (eqb b) signature))

none : first_from 256 0 differ ≡ 256
unfolding first_from differ agree bit ◌or◌
none = refl

pub letter-bit : (b : ℕ) → b < 256 → eqb (2147557442 / 2 ^ (b % 64) % 2 + 2 / 2 ^ (b / 64) % 2) 2 ≡ any (eqb b) signature
unfolding bit differ
letter-bit b h = agree-eq _ _ (not_f _ (first-before 256 0 differ b zero-le (omega (arith, none))))
