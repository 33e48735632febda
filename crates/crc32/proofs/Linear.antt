-- The rule of the tables, by one test that antt computes. Bit steps are linear over xor, so in each table it is enough that the entry at 0 is 0 and that
-- each other entry is the xor of the one that its highest bit has and the one at the rest. What a power of two has comes from the next power by one bit step.
use mathlib.Core.Path.{◌≡◌, refl, sym, ap, ap₂, ◌∙◌, subst}
use mathlib.Core.Logic.{◌⊎◌, inl, inr}
use mathlib.Core.List.{List, [], ◌∷◌}
use mathlib.Core.Bool.{Bool, true, false, false≢true}
use Prim.Native.Nat.{ℕ, zero, suc, ◌+◌, ◌*◌, ◌-◌, ◌^◌, ◌≤◌, ◌<◌}
use native.Mathlib.Nat.{zero-add, one-mul, zero-mul, suc-mul, pow-suc, add-zero, le_of_suc-le-suc, not-suc-le-zero}
use native.Mathlib.Omega.{arith}
use lib.Arith.{lt-one}
use lib.Dec.{eqb, ltb}
use lib.ListN.{length, get_or, take, drop, length-drop}
use lib.Seq.{get_or-take, get_or-drop, length-take-le}
use lib.Bits.{bit_xor, xor_shifted}
use borrow.Author.Tests.{eqb-true, ltb-true, ltb-false}
use Rattle.octets.specs.Tests.{◌and◌}
use Rattle.octets.proofs.Bools.{and_l, and_r, bool_cases}
use Rattle.crc_lanes.specs.Crc.{bit_steps}
use Rattle.crc_lanes.specs.Tables.{Digits}
use Rattle.crc_lanes.proofs.Steps.{steps-xor, steps-zero, steps-add, steps-comm, steps-shifted}

-- ---- the test

-- each number of the second list is p xor the one of the first
abbrev pub shifted : ℕ → List ℕ → List ℕ → Bool
shifted p [] ys = true
shifted p (x ∷ xs) [] = false
shifted p (x ∷ xs) (y ∷ ys) = eqb y (bit_xor p x) and shifted p xs ys

-- the first 2 ^ j entries are what n bit steps make of their index, if q is what they make of 2 ^ j
abbrev pub table : List ℕ → ℕ → ℕ → Bool
table u zero q = eqb (get_or u 0 0) 0
table u (suc j) q = let p = bit_steps 1 q in shifted p (take (2 ^ j) u) (drop (2 ^ j) u) and table u j p

-- r tables for digits of b bits, one after the other; q is what the first table's steps make of 2 ^ b
abbrev pub tables : ℕ → ℕ → List ℕ → ℕ → Bool
tables b zero u q = true
tables b (suc r) u q = table u b q and tables b r (drop (2 ^ b) u) (bit_steps b q)

-- ---- the test shows the rule

shifted_at : (p : ℕ) (xs ys : List ℕ) → shifted p xs ys ≡ true → (k : ℕ) → k < length xs → get_or ys k 0 ≡ bit_xor p (get_or xs k 0)
shifted_at p [] ys t k h = absurd (not-suc-le-zero h)
shifted_at p (x ∷ xs) [] t k h = absurd (false≢true t)
shifted_at p (x ∷ xs) (y ∷ ys) t zero h = eqb-true y (bit_xor p x) (and_l _ _ t)
shifted_at p (x ∷ xs) (y ∷ ys) t (suc k) h = shifted_at p xs ys (and_r _ _ t) k (le_of_suc-le-suc h)

highest-bit : (j i : ℕ) → i < 2 ^ j → bit_xor (2 ^ j) i ≡ 2 ^ j + i
highest-bit j i h =
    ap (λ (m : ℕ). bit_xor m i) (sym (one-mul (2 ^ j))) ∙ xor_shifted 1 j i h ∙ ap (λ (m : ℕ). m + i) (one-mul (2 ^ j))

-- of a power of two, from the next one
lower : (n j q : ℕ) → q ≡ bit_steps n (2 ^ suc j) → bit_steps 1 q ≡ bit_steps n (2 ^ j)
lower n j q e =
    ap (bit_steps 1) e ∙ steps-comm 1 n (2 ^ suc j) ∙ ap (bit_steps n) (ap (bit_steps 1) (pow-suc 2 j) ∙ steps-shifted 1 (2 ^ j))

module _ (n : ℕ) (u : List ℕ) where
  upper-at : (j p : ℕ) → p ≡ bit_steps n (2 ^ j) → 2 ^ j ≤ length u → ((k : ℕ) → k < 2 ^ j → get_or u k 0 ≡ bit_steps n k)
      → shifted p (take (2 ^ j) u) (drop (2 ^ j) u) ≡ true → (i : ℕ) → i < 2 ^ j → get_or u (2 ^ j + i) 0 ≡ bit_steps n (2 ^ j + i)
  upper-at j p e l low t i h =
      sym (get_or-drop (2 ^ j) u i 0)
      ∙ shifted_at p (take (2 ^ j) u) (drop (2 ^ j) u) t i (subst (λ (m : ℕ). i < m) (sym (length-take-le (2 ^ j) u l)) h)
      ∙ ap₂ bit_xor e (get_or-take (2 ^ j) u i 0 h ∙ low i h)
      ∙ sym (steps-xor n (2 ^ j) i)
      ∙ ap (bit_steps n) (highest-bit j i h)

  both_halves : (j p : ℕ) → p ≡ bit_steps n (2 ^ j) → 2 ^ j ≤ length u → ((k : ℕ) → k < 2 ^ j → get_or u k 0 ≡ bit_steps n k)
      → shifted p (take (2 ^ j) u) (drop (2 ^ j) u) ≡ true
      → (k : ℕ) → k < 2 ^ j + 2 ^ j → (ltb k (2 ^ j) ≡ true) ⊎ (ltb k (2 ^ j) ≡ false) → get_or u k 0 ≡ bit_steps n k
  both_halves j p e l low t k h (inl y) = low k (ltb-true k (2 ^ j) y)
  both_halves j p e l low t k h (inr y) =
      let g : 2 ^ j ≤ k = ltb-false k (2 ^ j) y in
      let s : 2 ^ j + (k - 2 ^ j) ≡ k = omega arith in
      ap (λ (i : ℕ). get_or u i 0) (sym s) ∙ upper-at j p e l low t (k - 2 ^ j) (omega arith) ∙ ap (bit_steps n) s

  table_at : (j q : ℕ) → q ≡ bit_steps n (2 ^ j) → 2 ^ j ≤ length u → table u j q ≡ true → (k : ℕ) → k < 2 ^ j → get_or u k 0 ≡ bit_steps n k
  table_at zero q e l t k h =
      let z : k ≡ 0 = lt-one h in
      ap (λ (i : ℕ). get_or u i 0) z ∙ eqb-true (get_or u 0 0) 0 t ∙ sym (ap (bit_steps n) z ∙ steps-zero n)
  table_at (suc j) q e l t k h =
      let m : 2 ^ j ≤ length u = omega (arith, pow-suc 2 j) in
      let d : bit_steps 1 q ≡ bit_steps n (2 ^ j) = lower n j q e in
      both_halves j (bit_steps 1 q) d m (table_at j (bit_steps 1 q) d m (and_r _ _ t)) (and_l _ _ t) k (omega (arith, pow-suc 2 j))
      (bool_cases (ltb k (2 ^ j)))

module _ (b : ℕ) where
  all-at : (r n q : ℕ) (u : List ℕ) → q ≡ bit_steps n (2 ^ b) → r * 2 ^ b ≤ length u → tables b r u q ≡ true → Digits b r n u
  unfolding Digits
  all-at zero n q u s l t j k hj hk = absurd (not-suc-le-zero hj)
  all-at (suc r) n q u s l t zero k hj hk =
      let m : 2 ^ b ≤ length u = omega (arith, suc-mul r (2 ^ b)) in
      ap (λ (i : ℕ). get_or u i 0) (ap (λ (i : ℕ). i + k) (zero-mul (2 ^ b)) ∙ zero-add k)
      ∙ table_at n u b q s m (and_l _ _ t) k hk
      ∙ ap (λ (i : ℕ). bit_steps i k) (sym (ap (λ (i : ℕ). n + i) (zero-mul b) ∙ add-zero n))
  all-at (suc r) n q u s l t (suc j) k hj hk =
      let e : suc j * 2 ^ b + k ≡ 2 ^ b + (j * 2 ^ b + k) = omega (arith, suc-mul j (2 ^ b)) in
      let g : n + b + j * b ≡ n + suc j * b = omega (arith, suc-mul j b) in
      let m : r * 2 ^ b ≤ length (drop (2 ^ b) u) = omega (arith, suc-mul r (2 ^ b), length-drop (2 ^ b) u) in
      ap (λ (i : ℕ). get_or u i 0) e
      ∙ sym (get_or-drop (2 ^ b) u (j * 2 ^ b + k) 0)
      ∙ all-at r (n + b) (bit_steps b q) (drop (2 ^ b) u) (ap (bit_steps b) s ∙ sym (steps-add n b (2 ^ b))) m (and_r _ _ t) j k
      (le_of_suc-le-suc hj) hk
      ∙ ap (λ (i : ℕ). bit_steps i k) g

pub tables-are : (b r n : ℕ) (u : List ℕ) → r * 2 ^ b ≤ length u → tables b r u (bit_steps n (2 ^ b)) ≡ true → Digits b r n u
tables-are b r n u l t = all-at b r n (bit_steps n (2 ^ b)) u refl l t
