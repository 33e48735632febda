-- Laws of numerals.
use Prim.Native.Nat.{ℕ, suc, ◌+◌, ◌-◌, ◌*◌, ◌/◌, ◌≤◌, ◌<◌}
use mathlib.Core.Path.{◌≡◌, refl, sym, ap, ◌∙◌, subst}
use mathlib.Core.List.{List, [], ◌∷◌}
use mathlib.Core.Bool.{Bool, true, false, cond}
use native.Mathlib.Nat.{le-mul_of_pos_right, le-div_iff_mul-le, div-lt_iff_lt-mul}
use native.Mathlib.Numerals.{add-one}
use native.Mathlib.Omega.{arith}
use lib.ListN.{length, take, drop, get_or, length-drop, drop_of_length-le}
use lib.Seq.{drop-cons, take_all, get_or-drop}
use lib.Dec.{ltb, leb, eqb}
use borrow.Author.Tests.{eq-eqb, ne_eqb, lt-ltb, le-ltb, le-leb, lt-leb, leb-true}
use Rattle.octets.proofs.Bools.{choice}
use Rattle.text_words.specs.Classes.{digit_of, digit_in}
use Rattle.text_words.proofs.Classes.{digit-some, digit-nothing, digit-is_some, digit-is_none}
use Rattle.std.specs.Option.{is_some}
use Rattle.std.specs.Prelude.{Ok, Err, Option, Some, None}
use Rattle.text_words.specs.Numerals.{Begun, numeral, up_to, digits_from, some_digits, after_zero, numeral_of}
use Rattle.text_words.specs.declared.digits.Numeral.{Numeral}
use Rattle.text_words.specs.declared.digits.NoNumeral.TheVariants.{Over, Missing}

-- ---- the limit, divided once

pub under-limit : (most base n : ℕ) → 1 ≤ base → n ≤ most / base → n * base ≤ most
under-limit most base n h e = (le-div_iff_mul-le {k = base} {x = n} {y = most} h).0 e

pub over-limit : (most base n : ℕ) → 1 ≤ base → most / base < n → most < n * base
over-limit most base n h e = (div-lt_iff_lt-mul {k = base} {x = most} {y = n} h).0 e

-- ---- digits

pub up-to : (most n e : ℕ) → n ≤ most → numeral n e ≡ up_to most n e
unfolding up_to
up-to most n e h = rw (le-leb n most h)

over : (most n e : ℕ) → most < n → Err Over ≡ up_to most n e
unfolding up_to
over most n e h = rw (lt-leb n most h)

cond_both : {A : Type 0} (t : Bool) (v a b : A) → v ≡ a → v ≡ b → v ≡ cond t a b
cond_both true v a b p q = p
cond_both false v a b p q = q

-- a value over the limit stays so under more digits
pub digits-over : (most base n : ℕ) (xs : List ℕ) (at : ℕ) → 1 ≤ base → most < n → Err Over ≡ digits_from most base n xs at
unfolding digits_from
digits-over most base n [] at b h = over most n at h
digits-over most base n (x ∷ xs) at b h =
    cond_both (ltb (digit_of x) base) _ _ _
    (digits-over most base (n * base + digit_of x) xs (suc at) b (omega (arith, le-mul_of_pos_right {m = base} n b))) (over most n at h)

module _ (w : List ℕ) (i : ℕ) (most base : ℕ) where
  pub digits-end : (n : ℕ) → length w ≤ i → up_to most n i ≡ digits_from most base n (drop i w) i
  unfolding digits_from
  digits-end n h = rw (drop_of_length-le w {i = i} h)

  pub digits-in : (n : ℕ) → i < length w → digit_of (get_or w i 0) < base
      → digits_from most base (n * base + digit_of (get_or w i 0)) (drop (i + 1) w) (i + 1) ≡ digits_from most base n (drop i w) i
  unfolding digits_from
  digits-in n h e = rw (add-one, drop-cons w i 0 h, lt-ltb (digit_of (get_or w i 0)) base e)

  pub digits-out : (n : ℕ) → i < length w → base ≤ digit_of (get_or w i 0) → up_to most n i ≡ digits_from most base n (drop i w) i
  unfolding digits_from
  digits-out n h e = rw (drop-cons w i 0 h, le-ltb (digit_of (get_or w i 0)) base e)

  pub some_in : i < length w → digit_of (get_or w i 0) < base → digits_from most base 0 (drop i w) i ≡ some_digits most base (drop i w) i
  unfolding some_digits
  some_in h e = rw (drop-cons w i 0 h, lt-ltb (digit_of (get_or w i 0)) base e)

  pub some_out : i < length w → base ≤ digit_of (get_or w i 0) → Err Missing ≡ some_digits most base (drop i w) i
  unfolding some_digits
  some_out h e = rw (drop-cons w i 0 h, le-ltb (digit_of (get_or w i 0)) base e)

  pub some_end : length w ≤ i → Err Missing ≡ some_digits most base (drop i w) i
  unfolding some_digits
  some_end h = rw (drop_of_length-le w {i = i} h)

-- ---- a turn of the loop over the bytes from `at` on: the one at i, which is w's at end

module _ (w : List ℕ) (at i end most base n : ℕ) (e : end ≡ at + i) where
  abbrev rest : List ℕ
  rest = take (length w - at) (drop at w)

  here : i < length rest → (end < length w) × (get_or rest i 0 ≡ get_or w end 0)
  here h =
      let a : rest ≡ drop at w = take_all (length w - at) (drop at w) (simp length-drop (omega arith)) in
      let l : i < length w - at = rw (a, length-drop) at h in
      (omega arith, rw (a, e) (get_or-drop at w i 0))

  pub turn_in : {r : Option ℕ} {d : ℕ} → i < length rest → r ≡ digit_in base (get_or rest i 0) → r ≡ Some d
      → (digit_of (get_or w end 0) ≡ d) × (digits_from most base (n * base + d) (drop (end + 1) w) (end + 1) ≡ digits_from most base n (drop end w) end)
  turn_in h f g =
      let p = here h in
      let q = digit-some base _ f g in
      let v : digit_of (get_or w end 0) ≡ _ = sym (ap digit_of p.1) ∙ q.1 in
      (v, rw (← v) (digits-in w end most base n p.0 (rw p.1 at q.0)))

  pub turn_out : {r : Option ℕ} → i < length rest → r ≡ digit_in base (get_or rest i 0) → r ≡ None → up_to most n end ≡ digits_from most base n (drop end w) end
  turn_out h f g = let p = here h in digits-out w end most base n p.0 (rw p.1 at (digit-nothing base _ f g))

  pub turn_none : length rest ≤ i → length w ≤ end
  turn_none h =
      let a : rest ≡ drop at w = take_all (length w - at) (drop at w) (simp length-drop (omega arith)) in
      let l : length w - at ≤ i = rw (a, length-drop) at h in
      omega arith

-- the byte at `at`, the first of those from there on
module _ (w : List ℕ) (at most base : ℕ) where
  abbrev from : List ℕ
  from = take (length w - at) (drop at w)

  first : 0 < length from → (at < length w) × (get_or from 0 0 ≡ get_or w at 0)
  first h = here w at 0 at most base 0 (omega arith) h

  pub first_in : {r : Option ℕ} → 0 < length from → r ≡ digit_in base (get_or from 0 0) → is_some r ≡ true
      → digits_from most base 0 (drop at w) at ≡ some_digits most base (drop at w) at
  first_in h f g = let p = first h in some_in w at most base p.0 (rw p.1 at (digit-is_some base _ f g))

  pub first_out : {r : Option ℕ} → 0 < length from → r ≡ digit_in base (get_or from 0 0) → is_some r ≡ false
      → Err Missing ≡ some_digits most base (drop at w) at
  first_out h f g = let p = first h in some_out w at most base p.0 (rw p.1 at (digit-is_none base _ f g))

  pub first_none : length from ≤ 0 → Err Missing ≡ some_digits most base (drop at w) at
  first_none h = some_end w at most base (turn_none w at 0 at most base 0 (omega arith) h)

-- ---- a word by its first bytes

pub num-none : (most : ℕ) (w : List ℕ) → length w ≡ 0 → Err Missing ≡ numeral_of most w
unfolding numeral_of
num-none most [] h = refl
num-none most (x ∷ xs) h = absurd (omega arith)

pub num-plain : (most : ℕ) (w : List ℕ) → (length w ≡ 0 → ⊥) → (get_or w 0 0 ≡ 48 → ⊥) → some_digits most 10 (drop 0 w) 0 ≡ numeral_of most w
unfolding numeral_of
num-plain most [] h e = absurd (h refl)
num-plain most (x ∷ xs) h e = rw (ne_eqb x 48 e)

pub num-zero : (most : ℕ) (w : List ℕ) → length w ≡ 1 → get_or w 0 0 ≡ 48 → numeral 0 1 ≡ numeral_of most w
unfolding numeral_of after_zero
num-zero most [] h e = absurd (omega arith)
num-zero most (x ∷ []) h e = rw (eq-eqb x 48 e)
num-zero most (x ∷ y ∷ ys) h e = absurd (omega arith)

pub num-hex : (most : ℕ) (w : List ℕ) → 1 < length w → get_or w 0 0 ≡ 48 → get_or w 1 0 ≡ 120 → some_digits most 16 (drop 2 w) 2 ≡ numeral_of most w
unfolding numeral_of after_zero
num-hex most [] h e f = absurd (omega arith)
num-hex most (x ∷ []) h e f = absurd (omega arith)
num-hex most (x ∷ y ∷ ys) h e f = rw (eq-eqb x 48 e, eq-eqb y 120 f)

pub num-before : (most : ℕ) (w : List ℕ) → 1 < length w → get_or w 0 0 ≡ 48 → (get_or w 1 0 ≡ 120 → ⊥) → numeral 0 1 ≡ numeral_of most w
unfolding numeral_of after_zero
num-before most [] h e f = absurd (omega arith)
num-before most (x ∷ []) h e f = absurd (omega arith)
num-before most (x ∷ y ∷ ys) h e f = rw (eq-eqb x 48 e, ne_eqb y 120 f)

-- ---- a numeral is at most `most`, and ends in the word

abbrev pub NumeralIn : ℕ → ℕ → Begun → Type 0
NumeralIn most l (Ok v) = (v.value ≤ most) × (v.end ≤ l)
NumeralIn most l (Err e) = Unit {0}

module _ (most l : ℕ) where
  up-to-in : (n e : ℕ) → e ≤ l → NumeralIn most l (up_to most n e)
  unfolding up_to
  up-to-in n e h = choice (NumeralIn most l) (leb n most) (numeral n e) (Err Over) (λ t. (leb-true n most t, h)) (λ t. tt)

  digits-from-in : (base n : ℕ) (xs : List ℕ) (at : ℕ) → at + length xs ≤ l → NumeralIn most l (digits_from most base n xs at)
  unfolding digits_from
  digits-from-in base n [] at h = up-to-in n at (omega arith)
  digits-from-in base n (x ∷ xs) at h =
      choice (NumeralIn most l) (ltb (digit_of x) base) _ _
      (λ t. digits-from-in base (n * base + digit_of x) xs (suc at) (omega arith)) (λ t. up-to-in n at (omega arith))

  some-digits-in : (base : ℕ) (xs : List ℕ) (at : ℕ) → at + length xs ≤ l → NumeralIn most l (some_digits most base xs at)
  unfolding some_digits
  some-digits-in base [] at h = tt
  some-digits-in base (x ∷ xs) at h = choice (NumeralIn most l) (ltb (digit_of x) base) _ (Err Missing) (λ t. digits-from-in base 0 (x ∷ xs) at h) (λ t. tt)

  after-zero-in : (xs : List ℕ) → 1 + length xs ≤ l → NumeralIn most l (after_zero most xs)
  unfolding after_zero
  after-zero-in [] h = (omega arith, omega arith)
  after-zero-in (x ∷ xs) h =
      choice (NumeralIn most l) (eqb x 120) _ (numeral 0 1) (λ t. some-digits-in 16 xs 2 (omega arith)) (λ t. (omega arith, omega arith))

pub numeral-in : (most : ℕ) (w : List ℕ) → NumeralIn most (length w) (numeral_of most w)
unfolding numeral_of
numeral-in most [] = tt
numeral-in most (x ∷ xs) =
    choice (NumeralIn most (length (x ∷ xs))) (eqb x 48) _ _
    (λ t. after-zero-in most (length (x ∷ xs)) xs (omega arith)) (λ t. some-digits-in most (length (x ∷ xs)) 10 (x ∷ xs) 0 (omega arith))

-- for a caller that has matched the answer
pub value-in : (most : ℕ) (w : List ℕ) {r : Begun} {v : Numeral} → r ≡ numeral_of most w → r ≡ Ok v → (v.value ≤ most) × (v.end ≤ length w)
value-in most w p q = subst (NumeralIn most (length w)) (sym p ∙ q) (numeral-in most w)

pub digits-in-word : (most base : ℕ) (w : List ℕ) {r : Begun} {v : Numeral} → r ≡ some_digits most base w 0 → r ≡ Ok v → v.end ≤ length w
digits-in-word most base w p q = (subst (NumeralIn most (length w)) (sym p ∙ q) (some-digits-in most (length w) base w 0 (omega arith))).1
