-- The rows by the numbers of the new areas that bear the old ones' names: by these laws the moves are judged as the areas are (proofs/Moves).
use mathlib.Core.Path.{◌≡◌, refl, sym, ap, ap₂, ◌∙◌}
use mathlib.Core.Logic.{◌⊎◌, inl, inr}
use mathlib.Core.Bool.{Bool, true, false, not}
use mathlib.Core.List.{List, [], ◌∷◌, map}
use Prim.Native.Nat.{ℕ, suc, ◌/◌, ◌≤◌, ◌<◌}
use native.Mathlib.Omega.{arith}
use lib.Dec.{eqb}
use lib.ListN.{length, get_or, length-map}
use borrow.Author.Tests.{eq-eqb, ne_eqb}
use Rattle.octets.specs.Tests.{any, find_ix}
use Rattle.octets.proofs.Bools.{and-t, or-false-l, or-false-r, bool_cases}
use Rattle.octets.proofs.Tests.{find_ix-get, get_d_map}
use Rattle.fmap_rules.specs.declared.Extent.{Extent}
use Rattle.fmap_rules.specs.declared.Area.{Area}
use Rattle.fmap_rules.specs.Map.{area_of, areas_in, blank_area, named, fmap_name, disjoint}
use Rattle.fmap_rules.proofs.Areas.{length-areas}
use Rattle.fmap_carry.specs.Carry.{preserved, with_name, target, missing, other_size, clear_by, clear, on_map}

-- ---- the numbers looked up

-- for each old area the number of the new one with its name; their count where there is none
pub record Matched (olds news : List Area) (matches : List ℕ) : Type 0 where
  pub long : length olds ≤ length matches
  pub each : (i : ℕ) → i < length olds → get_or matches i 0 ≡ find_ix (named (get_or olds i blank_area).name) news

module _ (news olds : List Area) where
  abbrev pub numbers : List ℕ
  numbers = map (λ (a : Area). find_ix (named a.name) news) olds

  pub matched : Matched olds news numbers
  matched =
      let f : Area → ℕ = (λ a. find_ix (named a.name) news) in
      record { long = omega (arith, length-map olds f); each = λ i h. get_d_map f olds i 0 blank_area h }

-- n counts the old areas
module _ (olds news : List Area) (matches : List ℕ) (m : Matched olds news matches) (n : ℕ) (l : length olds ≡ n) where
  pub target_at : (i : ℕ) (x : Extent) → i < n → x ≡ (get_or news (get_or matches i 0) blank_area).place
      → x ≡ target news (get_or olds i blank_area)
  unfolding with_name
  target_at i x h e = e ∙ ap (λ (k : ℕ). (get_or news k blank_area).place) (m.each i (omega (arith, l, h)))

-- ---- the tests

find_none : {A : Type 0} (p : A → Bool) (xs : List A) → any p xs ≡ false → find_ix p xs ≡ length xs
find_none p [] e = refl
find_none p (x ∷ xs) e =
    rw (or-false-l _ _ e, find_ix) (ap suc (find_none p xs (or-false-r _ _ e)))

pub find-count : {A : Type 0} (p : A → Bool) (xs : List A) (d : A) → eqb (find_ix p xs) (length xs) ≡ not (any p xs)
find-count {A} p xs d = go (bool_cases (any p xs))
  where
    go : (any p xs ≡ true) ⊎ (any p xs ≡ false) → eqb (find_ix p xs) (length xs) ≡ not (any p xs)
    go (inl q) =
        let w = (find_ix-get p xs d q).0 in
        let f : find_ix p xs ≡ length xs → ⊥ = (λ e. omega (arith, e, w)) in
        ne_eqb (find_ix p xs) (length xs) f ∙ ap not (sym q)
    go (inr q) = eq-eqb (find_ix p xs) (length xs) (find_none p xs q) ∙ ap not (sym q)

pub target-by : (news : List Area) (a : Area) (k : ℕ) (y : Extent) → k ≡ find_ix (named a.name) news → y ≡ (get_or news k blank_area).place
    → y ≡ target news a
unfolding with_name
target-by news a k y q r = r ∙ ap (λ (i : ℕ). (get_or news i blank_area).place) q

module _ (news : List Area) (a : Area) (e : preserved a ≡ true) (k : ℕ) (q : k ≡ find_ix (named a.name) news) where
  -- n counts the new areas
  pub missing-by : (n : ℕ) → length news ≡ n → eqb k n ≡ missing news a
  unfolding missing
  missing-by n l = and-t e (ap₂ eqb q (sym l) ∙ find-count (named a.name) news blank_area)

  pub other-size-by : (x y : Extent) → x ≡ a.place → y ≡ (get_or news k blank_area).place → not (eqb x.size y.size) ≡ other_size news a
  unfolding other_size
  other-size-by x y p r = and-t e (ap₂ (λ (u v : Extent). not (eqb u.size v.size)) p (target-by news a k y q r))

  pub on-map-by : (x f : Extent) {t : Bool} → x ≡ (get_or news k blank_area).place → f ≡ (with_name news fmap_name).place → t ≡ disjoint x f
      → not t ≡ on_map news a
  unfolding on_map
  on-map-by x f {t} r p d = and-t e (ap not (d ∙ ap₂ disjoint (target-by news a k x q r) p))

clear-by : (news : List Area) (a b : Area) (x y : Extent) → x ≡ target news a → y ≡ target news b → clear_by a x b y ≡ clear news a b
unfolding clear
clear-by news a b x y p q = ap₂ (λ (u v : Extent). clear_by a u b v) p q

module _ (olds news : List Area) (matches : List ℕ) (m : Matched olds news matches) (n : ℕ) (l : length olds ≡ n) (i j : ℕ) (h : i < n) (k : j < n) where
  pub clear_at : (a b : Area) (x y : Extent) → a ≡ get_or olds i blank_area → b ≡ get_or olds j blank_area
      → x ≡ (get_or news (get_or matches i 0) blank_area).place → y ≡ (get_or news (get_or matches j 0) blank_area).place
      → clear news (get_or olds i blank_area) b ≡ clear_by a x b y
  clear_at a b x y p q r t =
      ap (λ (o : Area). clear news o b) (sym p)
      ∙ sym (clear-by news a b x y (target_at olds news matches m n l i x h r ∙ ap (target news) (sym p))
      (target_at olds news matches m n l j y k t ∙ ap (target news) (sym q)))

-- ---- the same where the areas stand in bytes

module _ (xs : List ℕ) (a : Area) (e : preserved a ≡ true) (k : ℕ) (q : k ≡ find_ix (named a.name) (areas_in xs)) where
  pub missing-in : eqb k (length xs / 42) ≡ missing (areas_in xs) a
  missing-in = missing-by (areas_in xs) a e k q _ (length-areas xs)

  pub other-size-in : (x y : Extent) → x ≡ a.place → y ≡ (get_or (areas_in xs) k blank_area).place → not (eqb x.size y.size) ≡ other_size (areas_in xs) a
  other-size-in = other-size-by (areas_in xs) a e k q

  pub on-map-in : (x f : Extent) {t : Bool} → x ≡ (get_or (areas_in xs) k blank_area).place → f ≡ (with_name (areas_in xs) fmap_name).place → t ≡ disjoint x f
      → not t ≡ on_map (areas_in xs) a
  on-map-in = on-map-by (areas_in xs) a e k q

module _ (xs : List ℕ) (news : List Area) (matches : List ℕ) (m : Matched (areas_in xs) news matches) (i j : ℕ) (h : i < length xs / 42)
    (k : j < length xs / 42) where
  pub clear-in : (a b : List ℕ) (x y : Extent) → area_of a ≡ get_or (areas_in xs) i blank_area → area_of b ≡ get_or (areas_in xs) j blank_area
      → x ≡ (get_or news (get_or matches i 0) blank_area).place → y ≡ (get_or news (get_or matches j 0) blank_area).place
      → clear news (get_or (areas_in xs) i blank_area) (area_of b) ≡ clear_by (area_of a) x (area_of b) y
  clear-in a b = clear_at (areas_in xs) news matches m _ (length-areas xs) i j h k (area_of a) (area_of b)
