-- What `std` says of a chain of iterators, in the project's tests over lists.
use Rattle.std.proofs.Common.{◌≡◌, ◌⊎◌, ℕ, zero, suc, ◌≤◌, Bool, true, false, cond, ltb, Some, None, unwrap_or, position, List, [], ◌∷◌, map, length, refl, sym, ap, ap₂, ◌∙◌, inl, inr, arith}
use lib.ListN.{length-map}
use Rattle.std.specs.List.{list_any, list_all, position_or_len}
use Rattle.std.proofs.lemmas.Bool.{cases_lt}
use Rattle.std.proofs.lemmas.Bool.Decides.{nat_tests}
use borrow.Author.Tests.{lt-ltb, le-ltb}
use Rattle.octets.specs.Tests.{◌and◌, ◌or◌, all, any, pairs, find_ix}
use Rattle.octets.proofs.Bools.{bool_cases}

ltb-suc : (m n : ℕ) → ltb (suc m) (suc n) ≡ ltb m n
ltb-suc m n = grind (arith, nat_tests)

module _ {A : Type 0} (p : A → Bool) where
  pub any_list : (xs : List A) → list_any p xs ≡ any p xs
  unfolding ◌or◌
  any_list [] = refl
  any_list (x ∷ xs) = go (bool_cases (p x)) (any_list xs)
    where
      go : (p x ≡ true) ⊎ (p x ≡ false) → list_any p xs ≡ any p xs → list_any p (x ∷ xs) ≡ any p (x ∷ xs)
      go (inl h) ih = rw h
      go (inr h) ih = rw h ih

  pub all_list : (xs : List A) → list_all p xs ≡ all p xs
  unfolding ◌and◌
  all_list [] = refl
  all_list (x ∷ xs) = go (bool_cases (p x)) (all_list xs)
    where
      go : (p x ≡ true) ⊎ (p x ≡ false) → list_all p xs ≡ all p xs → list_all p (x ∷ xs) ≡ all p (x ∷ xs)
      go (inl h) ih = rw h ih
      go (inr h) ih = rw h

  pub place_list : (xs : List A) → position_or_len p xs ≡ find_ix p xs
  place_list [] = refl
  place_list (x ∷ xs) = go (bool_cases (p x)) (place_list xs)
    where
      go : (p x ≡ true) ⊎ (p x ≡ false) → position_or_len p xs ≡ find_ix p xs → position_or_len p (x ∷ xs) ≡ find_ix p (x ∷ xs)
      go (inl h) ih = rw (h, find_ix)
      go (inr h) ih = rw (h, find_ix) (omega (arith, ih))

  pub place_within : (xs : List A) → find_ix p xs ≤ length xs
  place_within [] = omega arith
  place_within (x ∷ xs) = go (bool_cases (p x)) (place_within xs)
    where
      go : (p x ≡ true) ⊎ (p x ≡ false) → find_ix p xs ≤ length xs → find_ix p (x ∷ xs) ≤ length (x ∷ xs)
      go (inl h) ih = rw (h, find_ix) (omega arith)
      go (inr h) ih = rw (h, find_ix) (omega arith)

  pub place_or : (xs : List A) → unwrap_or (position p xs) (length xs) ≡ find_ix p xs
  place_or xs = go (position_or_len p xs) (place_list xs) (place_within xs)
    where
      go : (k : ℕ) → k ≡ find_ix p xs → find_ix p xs ≤ length xs → unwrap_or (cond (ltb k (length xs)) (Some k) None) (length xs) ≡ find_ix p xs
      go k e h = elim (cases_lt k (length xs)) [ inl l ↦ rw (lt-ltb k (length xs) l) e | inr l ↦ rw (le-ltb k (length xs) l) (omega (arith, e)) ]

  pub place_any : (xs : List A) → ltb (find_ix p xs) (length xs) ≡ any p xs
  unfolding ◌or◌
  place_any [] = refl
  place_any (x ∷ xs) = go (bool_cases (p x)) (place_any xs)
    where
      go : (p x ≡ true) ⊎ (p x ≡ false) → ltb (find_ix p xs) (length xs) ≡ any p xs
          → ltb (find_ix p (x ∷ xs)) (length (x ∷ xs)) ≡ any p (x ∷ xs)
      go (inl h) ih = rw (h, find_ix) (lt-ltb 0 (suc (length xs)) (omega arith))
      go (inr h) ih = rw (h, find_ix) (ltb-suc (find_ix p xs) (length xs) ∙ ih)

  pub position_any : (xs : List A) → position p xs ≡ cond (any p xs) (Some (find_ix p xs)) None
  position_any xs =
      ap (λ (k : ℕ). cond (ltb k (length xs)) (Some k) None) (place_list xs)
      ∙ ap (λ (b : Bool). cond b (Some (find_ix p xs)) None) (place_any xs)

-- a test p of what f makes of each element
module _ {A B : Type 0} (f : A → B) (p : B → Bool) where
  pub any_made : (xs : List A) → list_any (λ x. p (f x)) xs ≡ any p (map f xs)
  any_made xs = any_list (λ x. p (f x)) xs ∙ made xs
    where
      made : (xs : List A) → any (λ x. p (f x)) xs ≡ any p (map f xs)
      made [] = refl
      made (x ∷ xs) = ap (λ (b : Bool). p (f x) or b) (made xs)

  all_of : (xs : List A) → all (λ x. p (f x)) xs ≡ all p (map f xs)
  all_of [] = refl
  all_of (x ∷ xs) = ap (λ (b : Bool). p (f x) and b) (all_of xs)

  pub all_made : (xs : List A) → list_all (λ x. p (f x)) xs ≡ all p (map f xs)
  all_made xs = all_list (λ x. p (f x)) xs ∙ all_of xs

  pub place_made : (xs : List A) → position_or_len (λ x. p (f x)) xs ≡ find_ix p (map f xs)
  place_made xs = place_list (λ x. p (f x)) xs ∙ made xs
    where
      made : (xs : List A) → find_ix (λ x. p (f x)) xs ≡ find_ix p (map f xs)
      made [] = refl
      made (x ∷ xs) = ap (λ (k : ℕ). elim (p (f x)) [ true ↦ zero | false ↦ suc k ]) (made xs)

  pub position_made : (xs : List A) → position (λ x. p (f x)) xs ≡ position p (map f xs)
  position_made xs =
      ap₂ (λ (k n : ℕ). cond (ltb k n) (Some k) None) (place_made xs ∙ sym (place_list p (map f xs))) (sym (length-map xs f))

pub pairs_made : {A B : Type 0} (f : A → B) (r : B → B → Bool) (xs : List A) → pairs (λ x y. r (f x) (f y)) xs ≡ pairs r (map f xs)
pairs_made f r [] = refl
pairs_made f r (x ∷ xs) = ap₂ ◌and◌ (all_of f (r (f x)) xs) (pairs_made f r xs)
