-- Tests as Bool, and tests over lists. Definitions only.
use Rattle.std.specs.Prelude.{Bool, true, false, List, [], ◌∷◌, ℕ, zero, suc}

-- conjunction and disjunction; shut, so that `_` at a use of a law is found from the two sides
infixl 35 ◌and◌
infixl 30 ◌or◌
unfoldable pub ◌and◌ : Bool → Bool → Bool
true and b = b
false and b = false

unfoldable pub ◌or◌ : Bool → Bool → Bool
true or b = true
false or b = b

module _ {A : Type 0} where
  -- every element passes
  abbrev pub all : (A → Bool) → List A → Bool
  all p [] = true
  all p (x ∷ xs) = p x and all p xs

  -- some element passes
  abbrev pub any : (A → Bool) → List A → Bool
  any p [] = false
  any p (x ∷ xs) = p x or any p xs

  -- each two of the list pass, the earlier first
  abbrev pub pairs : (A → A → Bool) → List A → Bool
  pairs r [] = true
  pairs r (x ∷ xs) = all (r x) xs and pairs r xs

  -- the index of the first element that passes, or the length
  abbrev pub find_ix : (A → Bool) → List A → ℕ
  find_ix p [] = zero
  find_ix p (x ∷ xs) = elim (p x) [ true ↦ zero | false ↦ suc (find_ix p xs) ]
