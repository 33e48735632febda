-- What the entries that the tables have for a word's digits add up to.
use mathlib.Core.Path.{◌≡◌, refl, sym, ap, ap₂, ◌∙◌, subst}
use mathlib.Core.List.{List}
use Prim.Native.Nat.{ℕ, zero, suc, ◌+◌, ◌*◌, ◌/◌, ◌%◌, ◌^◌, ◌≤◌, ◌<◌}
use native.Mathlib.Nat.{add_comm, zero-mul, suc-mul, mod-lt, div-lt_iff_lt-mul, mul-add, div-div-eq-div-mul, zero-add, suc-add, one-mul, mul_assoc, pow-succ'}
use native.Mathlib.Numerals.{add-one}
use native.Mathlib.Omega.{arith}
use lib.Arith.{lt-one}
use lib.Pow.{pow_pos, pow-add}
use lib.ListN.{get_or, drop}
use lib.Seq.{get_or-drop}
use Rattle.crc_lanes.proofs.Xor.{xor_assoc}
use Rattle.std.proofs.lemmas.Nat.{xor_block}
use lib.Bits.{bit_xor, xor_comm, xor_zero_l}
use Rattle.crc_lanes.specs.Crc.{bit_steps}
use Rattle.crc_lanes.specs.Tables.{Digits, sum_of}
use Rattle.crc_lanes.proofs.Steps.{steps-xor, steps-split, steps-add, steps-zero}

steps-three : (b m p y : ℕ) → bit_steps (b + m + p) y ≡ bit_steps m (bit_steps p (bit_steps b y))
steps-three b m p y =
    let e : b + m + p ≡ b + p + m = omega arith in
    ap (λ (k : ℕ). bit_steps k y) e ∙ steps-add (b + p) m y ∙ ap (bit_steps m) (steps-add b p y)

module _ (b m r : ℕ) (t : List ℕ) (h : Digits b r (b + m) t) where
  sum_is : (n x : ℕ) → n ≤ r → x < 2 ^ (n * b) → sum_of (2 ^ b) t n x ≡ bit_steps m (bit_steps (n * b) x)
  unfolding sum_of Digits
  sum_is zero x l f =
      let z : x ≡ 0 = lt-one (subst (λ (k : ℕ). x < 2 ^ k) (zero-mul b) f) in
      sym (ap (λ (k : ℕ). bit_steps m (bit_steps (0 * b) k)) z ∙ ap (bit_steps m) (steps-zero (0 * b)) ∙ steps-zero m)
  sum_is (suc n) x l f =
      let e : suc n * b ≡ b + n * b = suc-mul n b ∙ add_comm (n * b) b in
      let g : x < 2 ^ (n * b) * 2 ^ b = subst (λ (k : ℕ). x < k) (ap (λ (k : ℕ). 2 ^ k) (suc-mul n b) ∙ pow-add 2 (n * b) b) f in
      ap₂ bit_xor
      (h n (x % 2 ^ b) l (mod-lt x (pow_pos b)) ∙ steps-three b m (n * b) (x % 2 ^ b))
      (sum_is n (x / 2 ^ b) (omega arith) ((div-lt_iff_lt-mul (pow_pos b)).1 g))
      ∙ sym (steps-xor m (bit_steps (n * b) (bit_steps b (x % 2 ^ b))) (bit_steps (n * b) (x / 2 ^ b)))
      ∙ ap (bit_steps m)
      (sym (steps-xor (n * b) (bit_steps b (x % 2 ^ b)) (x / 2 ^ b))
      ∙ ap (bit_steps (n * b)) (sym (steps-split b x))
      ∙ sym (steps-add b (n * b) x)
      ∙ ap (λ (k : ℕ). bit_steps k x) (sym e))

  pub sum-steps : (n x : ℕ) → n ≤ r → x < 2 ^ (n * b) → sum_of (2 ^ b) t n x ≡ bit_steps (n * b + m) x
  sum-steps n x l f = sum_is n x l f ∙ sym (steps-add (n * b) m x)

-- ---- the sum as the code makes it, from the highest digit: of j digits, those above the d low ones of b bits

module _ (b : ℕ) (t : List ℕ) (x d j : ℕ) where
  above : x / 2 ^ (b * d) / 2 ^ b ≡ x / 2 ^ (b * (d + 1))
  above =
      let e : b * (d + 1) ≡ b * d + b = omega (arith, mul-add b d 1) in
      rw (div-div-eq-div-mul, ← pow-add 2 (b * d) b, e)

  pub sum_turn : (s : ℕ) {e : ℕ} → s ≡ sum_of (2 ^ b) t j (x / 2 ^ (b * (d + 1))) → e ≡ get_or t (j * 2 ^ b + x / 2 ^ (b * d) % 2 ^ b) 0
      → bit_xor s e ≡ sum_of (2 ^ b) t (j + 1) (x / 2 ^ (b * d))
  unfolding sum_of
  sum_turn s {e} p q = rw (add-one, p, q, above) (xor_comm (sum_of (2 ^ b) t j (x / 2 ^ (b * (d + 1)))) (get_or t (j * 2 ^ b + x / 2 ^ (b * d) % 2 ^ b) 0))

pub sum_none : (w : ℕ) (t : List ℕ) (x : ℕ) → 0 ≡ sum_of w t 0 x
unfolding sum_of
sum_none w t x = refl

-- ---- digits of 8 bits: the low n ones by the later tables, the m above them by the first

pub sum_parts : (t : List ℕ) (n m x y : ℕ) → x < 256 ^ n
    → sum_of 256 t (n + m) (x + 256 ^ n * y) ≡ bit_xor (sum_of 256 (drop (m * 256) t) n x) (sum_of 256 t m y)
unfolding sum_of
sum_parts t zero m x y h =
    let z : x ≡ 0 = omega arith in
    rw (z, zero-add, one-mul, zero-add) (sym (xor_zero_l _))
sum_parts t (suc n) m x y h =
    let p : 256 ^ suc n * y ≡ 256 * (256 ^ n * y) = ap (λ (k : ℕ). k * y) (pow-succ' 256 n) ∙ mul_assoc 256 (256 ^ n) y in
    let q : 256 ^ suc n ≡ 256 * 256 ^ n = pow-succ' 256 n in
    let digit : (x + 256 ^ suc n * y) % 256 ≡ x % 256 = omega (arith, p) in
    let left : (x + 256 ^ suc n * y) / 256 ≡ x / 256 + 256 ^ n * y = omega (arith, p) in
    let place : (n + m) * 256 + x % 256 ≡ m * 256 + (n * 256 + x % 256) = omega arith in
    let few : x / 256 < 256 ^ n = omega (arith, q) in
    rw (suc-add, digit, left, place, sum_parts t n m (x / 256) y few, ← get_or-drop (m * 256) t (n * 256 + x % 256) 0) (sym (xor_assoc (get_or (drop (m * 256) t) (n * 256 + x % 256) 0) (sum_of 256 (drop (m * 256) t) n (x / 256)) (sum_of 256 t m y)))

-- a state of 32 bits is added to the low half of a word
pub xor_low : (c low high : ℕ) → c < 2 ^ 32 → low < 2 ^ 32 → bit_xor c low + 4294967296 * high ≡ bit_xor c (low + 4294967296 * high)
xor_low c low high h k =
    let p : 0 * 2 ^ 32 + c ≡ c = omega arith in
    let q : high * 2 ^ 32 + low ≡ low + 4294967296 * high = omega arith in
    let e : bit_xor 0 high * 2 ^ 32 + bit_xor c low ≡ bit_xor c low + 4294967296 * high = rw xor_zero_l (omega arith) in
    sym e ∙ sym (xor_block 32 0 high c low h k) ∙ ap₂ bit_xor p q
