-- Laws of the zero test and of comparison: as facts of lists, and along a loop by any number of bytes a step.
use mathlib.Core.Path.{◌≡◌, refl, sym, ap, ap₂, ◌∙◌}
use mathlib.Core.Bool.{Bool, true, false, ◌&&◌, false≢true}
use mathlib.Core.List.{List, [], ◌∷◌, ◌++◌}
use Prim.Native.Nat.{ℕ, zero, suc, ◌+◌, ◌*◌, ◌≤◌, ◌<◌}
use native.Mathlib.Nat.{suc-mul, zero-mul}
use native.Mathlib.Omega.{arith}
use lib.Dec.{eqb, eqb-suc-zero, eqb-zero-suc}
use lib.ListN.{length, get_or, take, drop, take-append-drop}
use lib.Seq.{drop-drop}
use borrow.Author.Tests.{eqb-true, eq-eqb}
use Rattle.std.specs.Cmp.Lexicographic.{pointwise}
use Rattle.std.specs.List.{fold}
use Rattle.std.specs.Simd.{first_chunks}
use Rattle.std.specs.Int.RustNames.{bit_or}
use Rattle.std.specs.Int.Bits.{or_zero_l}
use Rattle.std.proofs.lemmas.Nat.{le_or_l}
use Rattle.octets.specs.Tests.{◌and◌, all}
use Rattle.octets.specs.Bytes.{part, field, zeros, is_zero, same}
use Rattle.octets.proofs.Bools.{and_l, and_r, and_i}
use Rattle.octets.proofs.Numbers.{unle-inj}
use Rattle.octets.proofs.Parts.{length_part, get_d_part}

-- ---- comparison

pub same_true : (xs ys : List ℕ) → same xs ys ≡ true → xs ≡ ys
unfolding same
same_true [] [] e = refl
same_true [] (y ∷ ys) e = absurd (false≢true e)
same_true (x ∷ xs) [] e = absurd (false≢true e)
same_true (x ∷ xs) (y ∷ ys) e = ap₂ ◌∷◌ (eqb-true x y (and_l _ _ e)) (same_true xs ys (and_r _ _ e))

pub same_refl : (xs : List ℕ) → same xs xs ≡ true
unfolding same
same_refl [] = refl
same_refl (x ∷ xs) = and_i _ _ (eq-eqb x x refl) (same_refl xs)

pub same_false : (xs ys : List ℕ) → (xs ≡ ys → ⊥) → same xs ys ≡ false
same_false xs ys f = go (same xs ys) refl
  where
    go : (t : Bool) → same xs ys ≡ t → t ≡ false
    go true e = absurd (f (same_true xs ys e))
    go false e = refl

pub same_length : (xs ys : List ℕ) → (length xs ≡ length ys → ⊥) → same xs ys ≡ false
same_length xs ys f = same_false xs ys (λ e. f (ap length e))

pub same-append : (xs us vs : List ℕ) → same (xs ++ us) (xs ++ vs) ≡ same us vs
unfolding same ◌and◌
same-append [] us vs = refl
same-append (x ∷ xs) us vs = rw (eq-eqb x x refl) (same-append xs us vs)

-- what `==` of two slices computes
pub same-pointwise : (xs ys : List ℕ) → pointwise eqb xs ys ≡ same xs ys
unfolding same ◌and◌
same-pointwise [] [] = refl
same-pointwise [] (y ∷ ys) = refl
same-pointwise (x ∷ xs) [] = refl
same-pointwise (x ∷ xs) (y ∷ ys) = elim (eqb x y) as (λ b. (b && pointwise eqb xs ys) ≡ (b and same xs ys)) [
  | true ↦ same-pointwise xs ys
  | false ↦ refl
]

-- fields of one width are equal exactly where their bytes are
module _ (i n : ℕ) (xs ys : List ℕ) (h : i + n ≤ length xs) (k : i + n ≤ length ys)
    (f : (j : ℕ) → j < length xs → get_or xs j 0 < 256) (g : (j : ℕ) → j < length ys → get_or ys j 0 < 256) where
  pub field-same : field i n xs ≡ field i n ys → part i n xs ≡ part i n ys
  field-same e =
      let a = length_part xs i n h in
      let b = length_part ys i n k in
      unle-inj (part i n xs) (part i n ys) (a ∙ sym b)
      (λ j l. rw (get_d_part xs i n j (omega (arith, l, a))) (f (i + j) (omega (arith, l, a))))
      (λ j l. rw (get_d_part ys i n j (omega (arith, l, b))) (g (i + j) (omega (arith, l, b))))
      e

-- ---- the zero test

positive : (m : ℕ) → 0 < m → eqb m 0 ≡ false
positive zero h = absurd (omega arith)
positive (suc m) h = eqb-suc-zero m

or_zero : (a x : ℕ) → eqb (bit_or a x) 0 ≡ (eqb a 0 and eqb 0 x)
unfolding ◌and◌
or_zero zero zero = refl
or_zero zero (suc x) = rw or_zero_l (eqb-suc-zero x ∙ sym (eqb-zero-suc x))
or_zero (suc a) x = positive _ (omega (arith, le_or_l (suc a) x)) ∙ sym (ap (λ (b : Bool). b and eqb 0 x) (eqb-suc-zero a))

and_assoc : (p q r : Bool) → ((p and q) and r) ≡ (p and (q and r))
unfolding ◌and◌
and_assoc true q r = refl
and_assoc false q r = refl

-- the bytes joined by `|`
pub zero_fold : (a : ℕ) (xs : List ℕ) → eqb (fold bit_or a xs) 0 ≡ (eqb a 0 and is_zero xs)
unfolding ◌and◌
zero_fold zero [] = refl
zero_fold (suc a) [] = rw (eqb-suc-zero a)
zero_fold a (x ∷ xs) = zero_fold (bit_or a x) xs ∙ rw or_zero (and_assoc (eqb a 0) (eqb 0 x) (is_zero xs))

pub zero-zeros : (k : ℕ) → is_zero (zeros k) ≡ true
unfolding zeros ◌and◌
zero-zeros zero = refl
zero-zeros (suc k) = zero-zeros k

zero_append : (xs ys : List ℕ) → is_zero (xs ++ ys) ≡ (is_zero xs and is_zero ys)
unfolding ◌and◌
zero_append [] ys = refl
zero_append (x ∷ xs) ys = ap (λ (b : Bool). eqb 0 x and b) (zero_append xs ys) ∙ sym (and_assoc (eqb 0 x) (is_zero xs) (is_zero ys))

-- over blocks, and what is left behind them
pub zero_blocks : (w k : ℕ) (s : List ℕ) → (all is_zero (first_chunks w k s) and is_zero (drop (k * w) s)) ≡ is_zero s
unfolding ◌and◌
zero_blocks w zero s = rw (zero-mul w) refl
zero_blocks w (suc k) s =
    let d : suc k * w ≡ w + k * w = omega (arith, suc-mul k w) in
    rw (d, ← drop-drop (k * w) w s)
    (and_assoc (is_zero (take w s)) _ _
    ∙ ap (λ (b : Bool). is_zero (take w s) and b) (zero_blocks w k (drop w s))
    ∙ sym (zero_append (take w s) (drop w s))
    ∙ ap is_zero (take-append-drop w s))
