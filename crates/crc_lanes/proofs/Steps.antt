-- Laws of bit steps: they are linear over xor, they add up, and n of them touch the n low bits alone.
use mathlib.Core.Path.{◌≡◌, refl, sym, ap, ap₂, ◌∙◌}
use Prim.Native.Nat.{ℕ, zero, suc, ◌+◌, ◌*◌, ◌/◌, ◌%◌, ◌^◌, ◌<◌}
use native.Mathlib.Nat.{zero-add, suc-add, add_comm, mod-lt, mul-div_cancel, mul-mod_left, zero-lt-suc, pow-suc, mul_assoc, mul-one, div-eq_of_lt}
use lib.Pow.{split, pow_pos}
use lib.Bits.{bit_xor, differ, xor_shifted, xor_shr, xor_comm, xor_zero_r}
use Rattle.crc_lanes.specs.Crc.{bit_step, bit_steps, crc_byte}
use Rattle.crc_lanes.proofs.Xor.{odd2, xor-half, xor-odd, xor-medial}

-- ---- linear

polynomial-xor : (a b : ℕ) → differ (a % 2) (b % 2) * 0xEDB8_8320 ≡ bit_xor (a % 2 * 0xEDB8_8320) (b % 2 * 0xEDB8_8320)
polynomial-xor = odd2 (λ (x y : ℕ). differ x y * 0xEDB8_8320 ≡ bit_xor (x * 0xEDB8_8320) (y * 0xEDB8_8320)) refl refl refl refl

pub step-xor : (a b : ℕ) → bit_step (bit_xor a b) ≡ bit_xor (bit_step a) (bit_step b)
unfolding bit_step
step-xor a b =
    ap₂ (λ (x y : ℕ). bit_xor x (y * 0xEDB8_8320)) (xor-half a b) (xor-odd a b)
    ∙ ap (bit_xor (bit_xor (a / 2) (b / 2))) (polynomial-xor a b)
    ∙ xor-medial (a / 2) (b / 2) (a % 2 * 0xEDB8_8320) (b % 2 * 0xEDB8_8320)

pub steps-xor : (n a b : ℕ) → bit_steps n (bit_xor a b) ≡ bit_xor (bit_steps n a) (bit_steps n b)
unfolding bit_steps
steps-xor zero a b = refl
steps-xor (suc n) a b = ap (bit_steps n) (step-xor a b) ∙ steps-xor n (bit_step a) (bit_step b)

pub steps-zero : (n : ℕ) → bit_steps n 0 ≡ 0
unfolding bit_steps bit_step
steps-zero zero = refl
steps-zero (suc n) = steps-zero n

-- ---- they add up

pub no_steps : (x : ℕ) → bit_steps 0 x ≡ x
unfolding bit_steps
no_steps x = refl

pub steps-add : (n m x : ℕ) → bit_steps (n + m) x ≡ bit_steps m (bit_steps n x)
unfolding bit_steps
steps-add zero m x = ap (λ (k : ℕ). bit_steps k x) (zero-add m)
steps-add (suc n) m x = ap (λ (k : ℕ). bit_steps k x) (suc-add n m) ∙ steps-add n m (bit_step x)

pub steps-comm : (n m x : ℕ) → bit_steps n (bit_steps m x) ≡ bit_steps m (bit_steps n x)
steps-comm n m x = sym (steps-add m n x) ∙ ap (λ (k : ℕ). bit_steps k x) (add_comm m n) ∙ steps-add n m x

-- ---- n steps: the n low bits alone take part, and the others move down

step-even : (a : ℕ) → bit_step (a * 2) ≡ a
unfolding bit_step
step-even a =
    ap₂ (λ (x y : ℕ). bit_xor x (y * 0xEDB8_8320)) (mul-div_cancel a (zero-lt-suc 1)) (mul-mod_left a 2)
    ∙ xor_zero_r a

pub steps-shifted : (n a : ℕ) → bit_steps n (a * 2 ^ n) ≡ a
unfolding bit_steps
steps-shifted zero a = mul-one a
steps-shifted (suc n) a =
    ap (λ (x : ℕ). bit_steps n (bit_step x)) (ap (λ (x : ℕ). a * x) (pow-suc 2 n) ∙ sym (mul_assoc a (2 ^ n) 2))
    ∙ ap (bit_steps n) (step-even (a * 2 ^ n))
    ∙ steps-shifted n a

pub steps-split : (n x : ℕ) → bit_steps n x ≡ bit_xor (bit_steps n (x % 2 ^ n)) (x / 2 ^ n)
steps-split n x =
    ap (bit_steps n) (sym (split x n) ∙ sym (xor_shifted (x / 2 ^ n) n (x % 2 ^ n) (mod-lt x (pow_pos n))))
    ∙ steps-xor n (x / 2 ^ n * 2 ^ n) (x % 2 ^ n)
    ∙ ap (λ (y : ℕ). bit_xor y (bit_steps n (x % 2 ^ n))) (steps-shifted n (x / 2 ^ n))
    ∙ xor_comm (x / 2 ^ n) (bit_steps n (x % 2 ^ n))

-- the step of a byte, by what 8 bit steps make of the low byte
pub byte_split : (c b : ℕ) → b < 256 → crc_byte c b ≡ bit_xor (bit_steps 8 (bit_xor c b % 256)) (c / 256)
unfolding crc_byte
byte_split c b h =
    steps-split 8 (bit_xor c b)
    ∙ ap (bit_xor (bit_steps 8 (bit_xor c b % 256)))
    (xor_shr c b 8 ∙ ap (bit_xor (c / 256)) (div-eq_of_lt h) ∙ xor_zero_r (c / 256))
