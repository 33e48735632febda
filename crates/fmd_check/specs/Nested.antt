-- The areas of a layout, said in positions and bytes and not by how they are made. Definitions only.
use Rattle.std.specs.Prelude.{◌≡◌, ◌⊎◌, true, false, List, ℕ, ◌+◌, ◌≤◌, ◌<◌, length, get_or}
use Rattle.fmap_rules.specs.Map.{blank_area}
use Rattle.fmap_rules.specs.declared.Area.{Area}
use Rattle.fmd_parse.specs.Trees.{blank_section}
use Rattle.fmd_table.specs.Table.{blank_placed}
use Rattle.fmd_table.specs.declared.Section.{Section}
use Rattle.fmd_table.specs.declared.Placed.{Placed}

-- where area k begins, and the first position behind it
abbrev pub start_at : List Area → ℕ → ℕ
start_at areas k = (get_or areas k blank_area).place.start.0

abbrev pub end_at : List Area → ℕ → ℕ
end_at areas k = start_at areas k + (get_or areas k blank_area).place.size

-- area j lies in area k
abbrev pub LiesIn : List Area → ℕ → ℕ → Type 0
LiesIn areas j k = (start_at areas k ≤ start_at areas j) × (end_at areas j ≤ end_at areas k)

-- (L14), (L15) the areas of the sections l of an image of z bytes
pub record Nested (z : ℕ) (l : List Section) (areas : List Area) : Type 0 where
  pub count : length areas ≡ length l
  -- sizes are at least 1, and every section ends in the image
  pub some : (k : ℕ) → k < length areas → start_at areas k < end_at areas k
  pub within : (k : ℕ) → k < length areas → end_at areas k ≤ z
  -- every section lies in its parent
  pub child : (k : ℕ) → k < length areas → (get_or l k blank_section).parent < k → LiesIn areas k (get_or l k blank_section).parent
  -- any two are disjoint or one lies in the other
  pub apart :
      (j k : ℕ) → j < length areas → k < length areas
      → ((end_at areas j ≤ start_at areas k) ⊎ (end_at areas k ≤ start_at areas j)) ⊎ (LiesIn areas j k ⊎ LiesIn areas k j)

-- what area k says of section k of the list l, whose offset and size are those of ps
pub record AreaStands (s : List ℕ) (l : List Section) (ps : List Placed) (areas : List Area) (k : ℕ) : Type 0 where
  -- L15: A section's position in the image is its offset plus its parent's position.
  pub top : (get_or l k blank_section).level ≡ 1 → start_at areas k ≡ (get_or ps k blank_placed).offset.0
  pub below :
      (get_or l k blank_section).parent < k → start_at areas k ≡ (get_or ps k blank_placed).offset.0 + start_at areas (get_or l k blank_section).parent
  pub ends : end_at areas k ≡ start_at areas k + (get_or ps k blank_placed).size
  -- L17: .. flags 8 or 0
  pub preserved : (get_or l k blank_section).preserve ≡ true → (get_or areas k blank_area).flags ≡ 8
  pub plain : (get_or l k blank_section).preserve ≡ false → (get_or areas k blank_area).flags ≡ 0
  -- (M4) the bytes of its name in the text, then zeros, 32 in all
  pub wide : length (get_or areas k blank_area).name ≡ 32
  pub letters :
      (j : ℕ) → j < (get_or l k blank_section).length → get_or (get_or areas k blank_area).name j 0 ≡ get_or s ((get_or l k blank_section).place + j) 0
  pub zeros_after : (j : ℕ) → (get_or l k blank_section).length ≤ j → get_or (get_or areas k blank_area).name j 0 ≡ 0
