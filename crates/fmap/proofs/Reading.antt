-- What the areas of a good map give: as bytes, as values, by number and by name.
use mathlib.Core.Path.{◌≡◌, sym, ap, ◌∙◌}
use mathlib.Core.Bool.{Bool, true, false}
use mathlib.Core.Logic.{◌⊎◌, inl, inr}
use lib.Dec.{ltb}
use Rattle.std.specs.Prelude.{Some, None, position}
use Rattle.octets.proofs.Bools.{bool_cases}
use Rattle.octets.proofs.Chains.{place_list}
use mathlib.Core.List.{List}
use Prim.Native.Nat.{ℕ, ◌+◌, ◌-◌, ◌≤◌, ◌<◌}
use native.Mathlib.Omega.{arith}
use lib.ListN.{length, get_or, take, drop, get_or-eq_default}
use borrow.Author.Tests.{lt-ltb, le-ltb, ltb-true, ltb-false}
use Rattle.octets.specs.Tests.{find_ix}
use Rattle.octets.specs.Bytes.{part, same}
use Rattle.octets.proofs.Parts.{part-part}
use Rattle.fmap_rules.specs.declared.Area.{Area}
use Rattle.fmap_rules.specs.Map.{area_of, blank_area, name_length}
use Rattle.fmap.specs.Find.{accepted}
use Rattle.fmap.specs.Areas.{area_in, called}

-- area k of a list, where there is one
pub area-none : (areas : List Area) (k : ℕ) → length areas ≤ k → record { answer = accepted false; area = blank_area } ≡ area_in areas k
area-none areas k h = rw (le-ltb k (length areas) h, get_or-eq_default areas blank_area h)

pub area-there : (areas : List Area) (k : ℕ) (a : Area) → k < length areas → a ≡ get_or areas k blank_area
    → record { answer = accepted true; area = a } ≡ area_in areas k
area-there areas k a h e = rw (lt-ltb k (length areas) h, e)

-- the number of an area with a name, where there is one
module _ (p : Area → Bool) (areas : List Area) where
  pub place-none : position p areas ≡ None → length areas ≤ find_ix p areas
  place-none e = go (bool_cases (ltb (find_ix p areas) (length areas)))
    where
      go : (ltb (find_ix p areas) (length areas) ≡ true) ⊎ (ltb (find_ix p areas) (length areas) ≡ false) → length areas ≤ find_ix p areas
      go (inl t) = let q : Some (find_ix p areas) ≡ None = rw (place_list p areas, t) at e in cc
      go (inr t) = ltb-false _ _ t

  pub place-some : (k : ℕ) → position p areas ≡ Some k → (find_ix p areas ≡ k) × (k < length areas)
  place-some k e = go (bool_cases (ltb (find_ix p areas) (length areas)))
    where
      go : (ltb (find_ix p areas) (length areas) ≡ true) ⊎ (ltb (find_ix p areas) (length areas) ≡ false) → (find_ix p areas ≡ k) × (k < length areas)
      go (inl t) =
          let q : Some (find_ix p areas) ≡ Some k = rw (place_list p areas, t) at e in
          let i : find_ix p areas ≡ k = cc in
          (i, omega (arith, i, ltb-true _ _ t))
      go (inr t) = let q : None ≡ Some k = rw (place_list p areas, t) at e in cc

-- a name's own bytes, as a lent part
pub name-slice : (a : List ℕ) (n : ℕ) → n ≤ 32 → take (8 + n - 8) (drop 8 a) ≡ part 0 n (part 8 32 a)
unfolding part
name-slice a n h = let e : 8 + n - 8 ≡ n = omega arith in rw e (sym (part-part 0 n 8 32 a (omega arith)))

pub called-by : (a name : List ℕ) (n : ℕ) → n ≡ name_length (part 8 32 a) → n ≤ 32 → same (take (8 + n - 8) (drop 8 a)) name ≡ called name (area_of a)
unfolding called area_of
called-by a name n e h = ap (λ (l : List ℕ). same l name) (name-slice a n h ∙ ap (λ (k : ℕ). part 0 k (part 8 32 a)) e)
