-- Laws of tests over lists: at an index, from every index, and along a loop.
use mathlib.Core.Path.{◌≡◌, refl, sym, ap, ap₂, ◌∙◌}
use mathlib.Core.Logic.{◌⊎◌, inl, inr}
use mathlib.Core.Bool.{Bool, true, false, false≢true}
use mathlib.Core.List.{List, [], ◌∷◌, ◌++◌, map, reverse_aux, reverse}
use Prim.Native.Nat.{ℕ, zero, suc, ◌+◌, ◌≤◌, ◌<◌, suc-le-suc}
use native.Mathlib.Nat.{le_of_suc-le-suc, not-suc-le-zero, zero-lt-suc, add-zero, add-suc, suc-add}
use native.Mathlib.Numerals.{add-one}
use native.Mathlib.Omega.{arith}
use lib.ListN.{length, get_or, take, drop, drop_of_length-le}
use lib.Seq.{drop-cons}
use Rattle.octets.specs.Tests.{◌and◌, ◌or◌, all, any, pairs, find_ix}
use Rattle.octets.proofs.Bools.{and_l, and_r, and_i, or_cases, or-il, or-ir, or-false-l, or-false-r, or-false-i, or-skip, bool_cases}

module _ {A : Type 0} where
  pub all-get : (p : A → Bool) (xs : List A) (d : A) → all p xs ≡ true → (i : ℕ) → i < length xs → p (get_or xs i d) ≡ true
  all-get p [] d e i h = absurd (not-suc-le-zero h)
  all-get p (x ∷ xs) d e zero h = and_l _ _ e
  all-get p (x ∷ xs) d e (suc i) h = all-get p xs d (and_r _ _ e) i (le_of_suc-le-suc h)

  pub all-make : (p : A → Bool) (xs : List A) (d : A) → ((i : ℕ) → i < length xs → p (get_or xs i d) ≡ true) → all p xs ≡ true
  all-make p [] d f = refl
  all-make p (x ∷ xs) d f = and_i _ _ (f zero (zero-lt-suc _)) (all-make p xs d (λ i h. f (suc i) (suc-le-suc h)))

  pub any-get : (p : A → Bool) (xs : List A) (d : A) → any p xs ≡ true → (i : ℕ) × (i < length xs) × (p (get_or xs i d) ≡ true)
  any-get p [] d e = absurd (false≢true e)
  any-get p (x ∷ xs) d e = go (or_cases (p x) (any p xs) e) (any-get p xs d)
    where
      go : (p x ≡ true) ⊎ (any p xs ≡ true) → (any p xs ≡ true → (i : ℕ) × (i < length xs) × (p (get_or xs i d) ≡ true))
          → (i : ℕ) × (i < suc (length xs)) × (p (get_or (x ∷ xs) i d) ≡ true)
      go (inl q) ih = (zero, zero-lt-suc _, q)
      go (inr q) ih = let r = ih q in (suc r.0, suc-le-suc r.1, r.2)

  pub any-make : (p : A → Bool) (xs : List A) (d : A) (i : ℕ) → i < length xs → p (get_or xs i d) ≡ true → any p xs ≡ true
  any-make p [] d i h e = absurd (not-suc-le-zero h)
  any-make p (x ∷ xs) d zero h e = or-il _ _ e
  any-make p (x ∷ xs) d (suc i) h e = or-ir _ _ (any-make p xs d i (le_of_suc-le-suc h) e)

  pub any_none : (p : A → Bool) (xs : List A) (d : A) → any p xs ≡ false → (i : ℕ) → i < length xs → p (get_or xs i d) ≡ false
  any_none p [] d e i h = absurd (not-suc-le-zero h)
  any_none p (x ∷ xs) d e zero h = or-false-l _ _ e
  any_none p (x ∷ xs) d e (suc i) h = any_none p xs d (or-false-r _ _ e) i (le_of_suc-le-suc h)

  pub any_false : (p : A → Bool) (xs : List A) (d : A) → ((i : ℕ) → i < length xs → p (get_or xs i d) ≡ false) → any p xs ≡ false
  any_false p [] d f = refl
  any_false p (x ∷ xs) d f = or-false-i _ _ (f zero (zero-lt-suc _)) (any_false p xs d (λ i h. f (suc i) (suc-le-suc h)))

  pub pairs-get : (r : A → A → Bool) (xs : List A) (d : A) → pairs r xs ≡ true
      → (i j : ℕ) → i < j → j < length xs → r (get_or xs i d) (get_or xs j d) ≡ true
  pairs-get r [] d e i j h k = absurd (not-suc-le-zero k)
  pairs-get r (x ∷ xs) d e i zero h k = absurd (not-suc-le-zero h)
  pairs-get r (x ∷ xs) d e zero (suc j) h k = all-get (r x) xs d (and_l _ _ e) j (le_of_suc-le-suc k)
  pairs-get r (x ∷ xs) d e (suc i) (suc j) h k = pairs-get r xs d (and_r _ _ e) i j (le_of_suc-le-suc h) (le_of_suc-le-suc k)

  pub pairs-make : (r : A → A → Bool) (xs : List A) (d : A)
      → ((i j : ℕ) → i < j → j < length xs → r (get_or xs i d) (get_or xs j d) ≡ true) → pairs r xs ≡ true
  pairs-make r [] d f = refl
  pairs-make r (x ∷ xs) d f =
      and_i _ _ (all-make (r x) xs d (λ j h. f zero (suc j) (zero-lt-suc _) (suc-le-suc h)))
      (pairs-make r xs d (λ i j h k. f (suc i) (suc j) (suc-le-suc h) (suc-le-suc k)))

  pub find_ix-get : (p : A → Bool) (xs : List A) (d : A) → any p xs ≡ true → (find_ix p xs < length xs) × (p (get_or xs (find_ix p xs) d) ≡ true)
  find_ix-get p [] d e = absurd (false≢true e)
  find_ix-get p (x ∷ xs) d e = go (bool_cases (p x)) (find_ix-get p xs d)
    where
      go : (p x ≡ true) ⊎ (p x ≡ false) → (any p xs ≡ true → (find_ix p xs < length xs) × (p (get_or xs (find_ix p xs) d) ≡ true))
          → (find_ix p (x ∷ xs) < suc (length xs)) × (p (get_or (x ∷ xs) (find_ix p (x ∷ xs)) d) ≡ true)
      go (inl q) ih = rw (q, find_ix) (zero-lt-suc _, q)
      go (inr q) ih = rw (q, find_ix) (let r = ih (or-skip _ _ q e) in (suc-le-suc r.0, r.1))

  pub find_ix-before : (p : A → Bool) (xs : List A) (d : A) (j : ℕ) → j < find_ix p xs → p (get_or xs j d) ≡ false
  find_ix-before p [] d j h = absurd (not-suc-le-zero h)
  find_ix-before p (x ∷ xs) d j h = go (bool_cases (p x)) j h (find_ix-before p xs d)
    where
      go : (p x ≡ true) ⊎ (p x ≡ false) → (j : ℕ) → j < find_ix p (x ∷ xs) → ((j : ℕ) → j < find_ix p xs → p (get_or xs j d) ≡ false)
          → p (get_or (x ∷ xs) j d) ≡ false
      go (inl q) j h ih = absurd (not-suc-le-zero (rw (q, find_ix) at h))
      go (inr q) zero h ih = q
      go (inr q) (suc j) h ih = ih j (le_of_suc-le-suc (rw (q, find_ix) at h))

  -- ---- `all` of lists made from lists that pass

  pub all_append : (p : A → Bool) (xs ys : List A) → all p xs ≡ true → all p ys ≡ true → all p (xs ++ ys) ≡ true
  all_append p [] ys e f = f
  all_append p (x ∷ xs) ys e f = and_i _ _ (and_l _ _ e) (all_append p xs ys (and_r _ _ e) f)

  pub all_take : (p : A → Bool) (k : ℕ) (xs : List A) → all p xs ≡ true → all p (take k xs) ≡ true
  all_take p zero xs e = refl
  all_take p (suc k) [] e = refl
  all_take p (suc k) (x ∷ xs) e = and_i _ _ (and_l _ _ e) (all_take p k xs (and_r _ _ e))

  pub all_drop : (p : A → Bool) (k : ℕ) (xs : List A) → all p xs ≡ true → all p (drop k xs) ≡ true
  all_drop p zero xs e = e
  all_drop p (suc k) [] e = refl
  all_drop p (suc k) (x ∷ xs) e = all_drop p k xs (and_r _ _ e)

  all-reverse-on : (p : A → Bool) (xs ys : List A) → all p xs ≡ true → all p ys ≡ true → all p (reverse_aux xs ys) ≡ true
  all-reverse-on p [] ys e f = f
  all-reverse-on p (x ∷ xs) ys e f = all-reverse-on p xs (x ∷ ys) (and_r _ _ e) (and_i _ _ (and_l _ _ e) f)

  pub all-reverse : (p : A → Bool) (xs : List A) → all p xs ≡ true → all p (reverse xs) ≡ true
  all-reverse p xs e = all-reverse-on p xs [] e refl

  -- ---- a loop against `all`, `any` and `pairs`: the rest decides. On: the element at i is passed over; stop: it decides; done: nothing is left

  pub all-on : (p : A → Bool) (xs : List A) (d : A) (i : ℕ) → i < length xs → p (get_or xs i d) ≡ true → all p (drop i xs) ≡ all p (drop (i + 1) xs)
  unfolding ◌and◌
  all-on p xs d i h e = rw (drop-cons xs i d, e, add-one)

  pub all-stop : (p : A → Bool) (xs : List A) (d : A) (i : ℕ) → i < length xs → p (get_or xs i d) ≡ false → all p (drop i xs) ≡ false
  unfolding ◌and◌
  all-stop p xs d i h e = rw (drop-cons xs i d, e)

  pub all_done : (p : A → Bool) (xs : List A) (i : ℕ) → length xs ≤ i → all p (drop i xs) ≡ true
  all_done p xs i h = rw (drop_of_length-le xs {i = i} h)

  pub any-on : (p : A → Bool) (xs : List A) (d : A) (i : ℕ) → i < length xs → p (get_or xs i d) ≡ false → any p (drop i xs) ≡ any p (drop (i + 1) xs)
  unfolding ◌or◌
  any-on p xs d i h e = rw (drop-cons xs i d, e, add-one)

  pub any-stop : (p : A → Bool) (xs : List A) (d : A) (i : ℕ) → i < length xs → p (get_or xs i d) ≡ true → any p (drop i xs) ≡ true
  unfolding ◌or◌
  any-stop p xs d i h e = rw (drop-cons xs i d, e)

  pub any-done : (p : A → Bool) (xs : List A) (i : ℕ) → length xs ≤ i → any p (drop i xs) ≡ false
  any-done p xs i h = rw (drop_of_length-le xs {i = i} h)

  pub pairs-on : (r : A → A → Bool) (xs : List A) (d : A) (i : ℕ) → i < length xs → all (r (get_or xs i d)) (drop (i + 1) xs) ≡ true
      → pairs r (drop i xs) ≡ pairs r (drop (i + 1) xs)
  unfolding ◌and◌
  pairs-on r xs d i h e = rw (drop-cons xs i d, ← add-one i, e, add-one)

  pub pairs-stop : (r : A → A → Bool) (xs : List A) (d : A) (i : ℕ) → i < length xs → all (r (get_or xs i d)) (drop (i + 1) xs) ≡ false
      → pairs r (drop i xs) ≡ false
  unfolding ◌and◌
  pairs-stop r xs d i h e = rw (drop-cons xs i d, ← add-one i, e)

  pub pairs-done : (r : A → A → Bool) (xs : List A) (i : ℕ) → length xs ≤ i → pairs r (drop i xs) ≡ true
  pairs-done r xs i h = rw (drop_of_length-le xs {i = i} h)

  pub pairs-first : (r : A → A → Bool) (x : A) (xs : List A) → all (r x) xs ≡ false → pairs r (x ∷ xs) ≡ false
  unfolding ◌and◌
  pairs-first r x xs e = rw e

  pub pairs-past : (r : A → A → Bool) (x : A) (xs : List A) → all (r x) xs ≡ true → pairs r (x ∷ xs) ≡ pairs r xs
  unfolding ◌and◌
  pairs-past r x xs e = rw e

  -- and against `find_ix`: what a loop has counted and what the rest finds make the whole

  pub find_ix-on : (p : A → Bool) (xs : List A) (d : A) (i : ℕ) → i < length xs → p (get_or xs i d) ≡ false
      → i + find_ix p (drop i xs) ≡ i + 1 + find_ix p (drop (i + 1) xs)
  find_ix-on p xs d i h e = rw (drop-cons xs i d, find_ix, e, add-one) (add-suc i _ ∙ sym (suc-add i _))

  pub find_ix-stop : (p : A → Bool) (xs : List A) (d : A) (i : ℕ) → i < length xs → p (get_or xs i d) ≡ true → i + find_ix p (drop i xs) ≡ i
  find_ix-stop p xs d i h e = rw (drop-cons xs i d, find_ix, e) (add-zero i)

  pub find_ix-done : (p : A → Bool) (xs : List A) (i : ℕ) → length xs ≤ i → i + find_ix p (drop i xs) ≡ i
  find_ix-done p xs i h = rw (drop_of_length-le xs {i = i} h) (add-zero i)

module _ {A B : Type 0} where
  pub get_d_map : (f : A → B) (xs : List A) (i : ℕ) (y : B) (d : A) → i < length xs → get_or (map f xs) i y ≡ f (get_or xs i d)
  get_d_map f [] i y d h = absurd (not-suc-le-zero h)
  get_d_map f (x ∷ xs) zero y d h = refl
  get_d_map f (x ∷ xs) (suc i) y d h = get_d_map f xs i y d (le_of_suc-le-suc h)

  -- two lists that f maps element by element to the same
  pub map_same : (f : A → B) (xs ys : List A) (d : A) → length xs ≡ length ys
      → ((i : ℕ) → i < length xs → f (get_or xs i d) ≡ f (get_or ys i d)) → map f xs ≡ map f ys
  map_same f [] [] d l e = refl
  map_same f [] (y ∷ ys) d l e = absurd (omega arith)
  map_same f (x ∷ xs) [] d l e = absurd (omega arith)
  map_same f (x ∷ xs) (y ∷ ys) d l e = ap₂ ◌∷◌ (e 0 (zero-lt-suc _)) (map_same f xs ys d (omega arith) (λ i h. e (suc i) (suc-le-suc h)))

-- a test over a list is one over its results
module _ {A : Type 0} where
  pub any-map : (p : A → Bool) (xs : List A) → any p xs ≡ any (λ b. b) (map p xs)
  any-map p [] = refl
  any-map p (x ∷ xs) = ap (λ (b : Bool). p x or b) (any-map p xs)

  pub find_ix-map : (p : A → Bool) (xs : List A) → find_ix p xs ≡ find_ix (λ b. b) (map p xs)
  find_ix-map p [] = refl
  find_ix-map p (x ∷ xs) = ap (λ (k : ℕ). elim (p x) [ true ↦ zero | false ↦ suc k ]) (find_ix-map p xs)
