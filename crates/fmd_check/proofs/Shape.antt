-- The list of areas: its length, and the area of each section.
use mathlib.Core.Path.{◌≡◌, refl, ap, ◌∙◌}
use mathlib.Core.List.{List}
use Prim.Native.Nat.{ℕ, zero, suc, ◌+◌, ◌<◌}
use native.Mathlib.Nat.{not-suc-le-zero, le_of_suc-le-suc, add-zero, add-suc, suc-add, zero-add}
use lib.ListN.{length, get_or}
use Rattle.fmap_rules.specs.Map.{blank_area}
use Rattle.fmd_table.specs.declared.Section.{Section}
use Rattle.fmd_table.specs.declared.Placed.{Placed}
use Rattle.fmd_check.specs.Areas.{area_at, areas_from, layout_areas}

module _ (s : List ℕ) (l : List Section) (ps : List Placed) where
  length_from : (n k : ℕ) → length (areas_from s l ps n k) ≡ n
  unfolding areas_from
  length_from zero k = refl
  length_from (suc n) k = ap suc (length_from n (suc k))

  from_at : (n k i : ℕ) → i < n → get_or (areas_from s l ps n k) i blank_area ≡ area_at s l ps (k + i)
  unfolding areas_from
  from_at zero k i h = absurd (not-suc-le-zero h)
  from_at (suc n) k zero h = rw add-zero
  from_at (suc n) k (suc i) h = from_at n (suc k) i (le_of_suc-le-suc h) ∙ rw (suc-add, add-suc)

  pub length-areas : length (layout_areas s l ps) ≡ length ps
  unfolding layout_areas
  length-areas = length_from (length ps) 0

  pub area-at : (k : ℕ) → k < length ps → get_or (layout_areas s l ps) k blank_area ≡ area_at s l ps k
  unfolding layout_areas
  area-at k h = from_at (length ps) 0 k h ∙ rw zero-add
