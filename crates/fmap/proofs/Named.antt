-- What is found by a name: no area by one of more than 31 bytes, and the area's number.
use mathlib.Core.Path.{◌≡◌, refl, sym, ap}
use mathlib.Core.Logic.{◌⊎◌, inl, inr}
use mathlib.Core.Bool.{Bool, true, false, cond}
use mathlib.Core.List.{List, [], ◌∷◌}
use mathlib.Core.Option.{Option, none, some}
use Prim.Native.Nat.{ℕ, suc, ◌≤◌, ◌<◌}
use native.Mathlib.Nat.{le_of_suc-le-suc, not-suc-le-zero}
use native.Mathlib.Omega.{arith}
use lib.ListN.{length, get_or, drop, length-take}
use lib.Dec.{ltb}
use borrow.Author.Tests.{ltb-true, leb-true}
use Rattle.octets.specs.Tests.{find_ix}
use Rattle.octets.specs.Bytes.{part, rest}
use Rattle.octets.proofs.Bools.{and_l, and_r, bool_cases}
use Rattle.octets.proofs.Equal.{same_true}
use Rattle.fmap_rules.specs.declared.ImagePosition.{ImagePosition}
use Rattle.fmap_rules.specs.declared.Area.{Area}
use Rattle.fmap_rules.specs.Map.{areas_of, blank_area, name_length, legal_name}
use Rattle.fmap_rules.proofs.Good.{good-areas, legal}
use Rattle.fmap.specs.Find.{Reply, accepted, refused, find_map}
use Rattle.fmap.specs.Areas.{called, area_in, area_by, area_numbered, area_named, index_by, index_named}
use Rattle.fmap.specs.Claims.{LongNameIsNothing, IndexIsNamed}
use Rattle.fmap.proofs.Finding.{found-good}

-- where the first is in range, the test holds there
pub first_passes : (p : Area → Bool) (areas : List Area) → find_ix p areas < length areas → p (get_or areas (find_ix p areas) blank_area) ≡ true
first_passes p [] h = absurd (not-suc-le-zero h)
first_passes p (a ∷ areas) h = go (bool_cases (p a)) h (first_passes p areas)
  where
    go : (p a ≡ true) ⊎ (p a ≡ false) → find_ix p (a ∷ areas) < suc (length areas)
        → (find_ix p areas < length areas → p (get_or areas (find_ix p areas) blank_area) ≡ true)
        → p (get_or (a ∷ areas) (find_ix p (a ∷ areas)) blank_area) ≡ true
    go (inl q) h ih = rw (q, find_ix) q
    go (inr q) h ih = rw (q, find_ix) (ih (le_of_suc-le-suc (rw (q, find_ix) at h)))

short : (name : List ℕ) (a : Area) → legal_name a.name ≡ true → called name a ≡ true → length name ≤ 31
unfolding legal_name called part
short name a g e =
    let k : name_length a.name ≤ 31 = leb-true _ _ (and_l _ _ (and_r _ _ g)) in
    let q = ap length (same_true (part 0 (name_length a.name) a.name) name e) in
    let l = length-take (name_length a.name) (drop 0 a.name) in
    omega arith

module _ (image name : List ℕ) where
  by-find : (g : Reply ImagePosition) → find_map image ≡ g → (area_by image (find_ix (called name)) g).answer ≡ accepted true → length name ≤ 31
  by-find (accepted p) f e =
      let areas = areas_of (rest p.0 image) in
      let t : ltb (find_ix (called name) areas) (length areas) ≡ true = cc in
      let i : find_ix (called name) areas < length areas = ltb-true _ _ t in
      let a = legal (length image) p.0 areas (good-areas image p.0 (found-good image p f)) (find_ix (called name) areas) i in
      short name (get_or areas (find_ix (called name) areas) blank_area) a (first_passes (called name) areas i)
  by-find (refused k) f e = let z : ◌≡◌ {A = ℕ} 0 1 = cc in absurd (omega arith)

pub long-name-is-nothing : LongNameIsNothing
unfolding area_named
long-name-is-nothing image name e = by-find image name (find_map image) refl e

pub picked : (i n k : ℕ) → ◌≡◌ {A = Reply (Option ℕ)} (accepted (cond (ltb i n) (some i) none)) (accepted (some k)) → (ltb i n ≡ true) × (i ≡ k)
picked i n k e = go (bool_cases (ltb i n)) e
  where
    go : (ltb i n ≡ true) ⊎ (ltb i n ≡ false) → ◌≡◌ {A = Reply (Option ℕ)} (accepted (cond (ltb i n) (some i) none)) (accepted (some k)) → (ltb i n ≡ true)
        × (i ≡ k)
    go (inl t) e = let q : ◌≡◌ {A = Reply (Option ℕ)} (accepted (some i)) (accepted (some k)) = rw t at e in (t, (cc))
    go (inr t) e =
        let q : ◌≡◌ {A = Reply (Option ℕ)} (accepted none) (accepted (some k)) = rw t at e in
        let z : ◌≡◌ {A = ℕ} 0 1 = cc in
        absurd (omega arith)

module _ (image name : List ℕ) (k : ℕ) where
  by_index : (g : Reply ImagePosition) → index_by image (find_ix (called name)) g ≡ accepted (some k)
      → ((area_by image (find_ix (called name)) g).answer ≡ accepted true) × (area_by image (λ areas. k) g ≡ area_by image (find_ix (called name)) g)
  by_index (accepted p) e =
      let areas = areas_of (rest p.0 image) in
      let x = picked (find_ix (called name) areas) (length areas) k e in
      (ap (λ (b : Bool). accepted b) x.0, ap (area_in areas) (sym x.1))
  by_index (refused m) e = let z : ◌≡◌ {A = ℕ} 0 1 = cc in absurd (omega arith)

pub index-is-named : IndexIsNamed
unfolding index_named area_named area_numbered
index-is-named image name k e = by_index image name k (find_map image) e
