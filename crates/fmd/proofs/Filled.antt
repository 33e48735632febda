-- A list whose first places are filled one element at a time.
use mathlib.Core.Path.{◌≡◌, refl, ap}
use mathlib.Core.List.{List, [], ◌∷◌, ◌++◌, map}
use Prim.Native.Nat.{ℕ, zero, suc, ◌≤◌, ◌<◌}
use native.Mathlib.Nat.{not-suc-le-zero, le_of_suc-le-suc}
use lib.ListN.{length, get_or, set, take, drop}

module _ {A B : Type 0} (f : A → B) where
  -- ys with the first i elements of xs, under f, in its first places
  abbrev pub filled_to : List A → List B → ℕ → List B
  filled_to xs ys i = map f (take i xs) ++ drop (length (map f (take i xs))) ys

  pub filled-length : (xs : List A) (ys : List B) (i : ℕ) → i ≤ length ys → length (filled_to xs ys i) ≡ length ys
  filled-length xs ys zero h = refl
  filled-length [] ys (suc i) h = refl
  filled-length (x ∷ xs) [] (suc i) h = absurd (not-suc-le-zero h)
  filled-length (x ∷ xs) (y ∷ ys) (suc i) h = ap suc (filled-length xs ys i (le_of_suc-le-suc h))

  pub filled_on : (xs : List A) (ys : List B) (i : ℕ) (d : A) → i < length xs → i < length ys
      → set (filled_to xs ys i) i (f (get_or xs i d)) ≡ filled_to xs ys (suc i)
  filled_on [] ys i d h k = absurd (not-suc-le-zero h)
  filled_on (x ∷ xs) [] i d h k = absurd (not-suc-le-zero k)
  filled_on (x ∷ xs) (y ∷ ys) zero d h k = refl
  filled_on (x ∷ xs) (y ∷ ys) (suc i) d h k =
      ap {B = List B} (λ r. f x ∷ r) (filled_on xs ys i d (le_of_suc-le-suc h) (le_of_suc-le-suc k))

-- what would stand past the end does not matter within
pub get_or-within : {A : Type 0} (xs : List A) (i : ℕ) (d e : A) → i < length xs → get_or xs i d ≡ get_or xs i e
get_or-within [] i d e h = absurd (not-suc-le-zero h)
get_or-within (x ∷ xs) zero d e h = refl
get_or-within (x ∷ xs) (suc i) d e h = get_or-within xs i d e (le_of_suc-le-suc h)
