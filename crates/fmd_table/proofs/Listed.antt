-- Laws of a list that is given by index.
use mathlib.Core.Path.{◌≡◌, refl, ap, ◌∙◌}
use mathlib.Core.Logic.{◌⊎◌, inl, inr}
use mathlib.Core.List.{List, [], ◌∷◌, ◌++◌}
use Prim.Native.Nat.{ℕ, zero, suc, ◌+◌, ◌<◌}
use native.Mathlib.Nat.{eq-or-lt_of_le}
use native.Mathlib.Numerals.{add-one}
use native.Mathlib.Omega.{arith}
use lib.ListN.{length, get_or, set, length-append, get_or-append}
use lib.Seq.{get_or_at, get_or-set_same, get_or-set_other}
use Rattle.fmd_table.specs.Table.{listed}

module _ {A : Type 0} where
  pub length-listed : (f : ℕ → A) (n : ℕ) → length (listed f n) ≡ n
  unfolding listed
  length-listed f zero = refl
  length-listed f (suc n) = length-append (listed f n) (f n ∷ []) ∙ omega (arith, length-listed f n)

  pub nothing-listed : (f : ℕ → A) → listed f 0 ≡ []
  unfolding listed
  nothing-listed f = refl

  pub listed_more : (f : ℕ → A) (n : ℕ) → listed f (suc n) ≡ listed f n ++ (f n ∷ [])
  unfolding listed
  listed_more f n = refl

  pub listed_same : (f g : ℕ → A) (n : ℕ) → ((k : ℕ) → k < n → f k ≡ g k) → listed f n ≡ listed g n
  unfolding listed
  listed_same f g zero e = refl
  listed_same f g (suc n) e = rw (listed_same f g n (λ k h. e k (omega arith)), e n (omega arith))

  pub get_or-listed : (f : ℕ → A) (n k : ℕ) (d : A) → k < n → get_or (listed f n) k d ≡ f k
  unfolding listed
  get_or-listed f zero k d h = absurd (omega arith)
  get_or-listed f (suc n) k d h = cases (eq-or-lt_of_le {n = k} {m = n} (omega arith)) (get_or-listed f n k d)
    where
      cases : (k ≡ n) ⊎ (k < n) → (k < n → get_or (listed f n) k d ≡ f k) → get_or (listed f n ++ (f n ∷ [])) k d ≡ f k
      cases (inl p) r = rw p (get_or_at (listed f n) (f n) [] d n (length-listed f n))
      cases (inr p) r = get_or-append (listed f n) (f n ∷ []) d k (omega (arith, length-listed f n)) ∙ r p

-- element k written, after those below it: f says what is listed of an element, d stands past the end
pub set-listed : {A B : Type 0} (f : A → B) (d : A) (xs : List A) (k : ℕ) (v : A) → k < length xs
    → listed (λ j. f (get_or (set xs k v) j d)) (k + 1) ≡ listed (λ j. f (get_or xs j d)) k ++ (f v ∷ [])
unfolding listed
set-listed {A} f d xs k v room =
    rw (
      add-one k,
      listed_same (λ j. f (get_or (set xs k v) j d)) (λ j. f (get_or xs j d)) k (λ j h. ap f (get_or-set_other xs k j v d (λ e. omega arith))),
    )
    (ap (λ (w : A). listed (λ j. f (get_or xs j d)) k ++ (f w ∷ [])) (get_or-set_same xs k v d room))
