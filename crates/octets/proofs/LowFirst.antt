-- The bytes of a number as std's methods write and read them.
use mathlib.Core.Path.{◌≡◌, refl, ap, ap₂, ◌∙◌}
use mathlib.Core.List.{List, ◌∷◌}
use Prim.Native.Nat.{ℕ, zero, suc, ◌/◌, ◌%◌, ◌^◌}
use native.Mathlib.Nat.{div-one, pow-suc, div-div-eq-div-mul}
use native.Mathlib.Omega.{arith}
use lib.ListN.{length}
use Rattle.std.specs.Int.{bytes_low_first, byte_at, from_le_bytes}
use Rattle.std.proofs.Common.{w16, w32, w64}
use Rattle.octets.specs.Bytes.{le, unle}
use Rattle.octets.proofs.Filled.{each-is}

byte_at-is : (i n : ℕ) → byte_at i n ≡ n / 256 ^ i % 256
byte_at-is zero n = rw div-one
byte_at-is (suc i) n = refl

le_from : (i k n : ℕ) → bytes_low_first i k n ≡ le k (n / 256 ^ i)
unfolding le
le_from i zero n = refl
le_from i (suc k) n = ap₂ ◌∷◌ (byte_at-is i n) (le_from (suc i) k n ∙ ap (le k) (rw (pow-suc, div-div-eq-div-mul)))

-- to_le_bytes of k bytes
pub le-is : (k n : ℕ) → bytes_low_first 0 k n ≡ le k n
le-is k n = le_from 0 k n ∙ ap (le k) (div-one n)

pub unle-2 : (bytes : List ℕ) → length bytes ≡ 2 → from_le_bytes w16 bytes ≡ unle bytes
unfolding unle
unle-2 bytes l = rw (each-is 2 bytes l) (omega arith)

pub unle-4 : (bytes : List ℕ) → length bytes ≡ 4 → from_le_bytes w32 bytes ≡ unle bytes
unfolding unle
unle-4 bytes l = rw (each-is 4 bytes l) (omega arith)

pub unle-8 : (bytes : List ℕ) → length bytes ≡ 8 → from_le_bytes w64 bytes ≡ unle bytes
unfolding unle
unle-8 bytes l = rw (each-is 8 bytes l) (omega arith)
