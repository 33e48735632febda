-- The sections of a layout as areas of a map, in the text's order.
use Rattle.std.specs.Prelude.{Bool, cond, List, [], ◌∷◌, ◌++◌, ℕ, zero, suc, ◌+◌, ◌-◌, length, get_or}
use Rattle.octets.specs.Bytes.{part, zeros}
use Rattle.fmap_rules.specs.Map.{position}
use Rattle.fmap_rules.specs.declared.Area.{Area}
use Rattle.fmd_table.specs.Table.{blank_placed}
use Rattle.fmd_parse.specs.Trees.{blank_section}
use Rattle.fmd_table.specs.declared.Section.{Section}
use Rattle.fmd_table.specs.declared.Placed.{Placed}

-- L15: A section's position in the image is its offset plus its parent's position. Section k, of a level; level 0 is the image.
unfoldable pub position_in : ℕ → List Placed → ℕ → ℕ
position_in zero ps k = 0
position_in (suc lv) ps k = (get_or ps k blank_placed).offset.0 + position_in lv ps (get_or ps k blank_placed).parent

-- (M4) a name of n bytes at a place of the text, then zeros
unfoldable pub stored_name : List ℕ → ℕ → ℕ → List ℕ
stored_name s place n = part place n s ++ zeros (32 - n)

-- L17: .. flags 8 or 0
abbrev pub flags_of : Bool → ℕ
flags_of preserve = cond preserve 8 0

-- the area of the section h, with the offset and size p, that lies at a position
unfoldable pub area_from : List ℕ → Section → Placed → ℕ → Area
area_from s h p at =
    record { place = record { start = position at; size = p.size }; name = stored_name s h.place h.length; flags = flags_of h.preserve }

-- the area of section k
unfoldable pub area_at : List ℕ → List Section → List Placed → ℕ → Area
area_at s l ps k = area_from s (get_or l k blank_section) (get_or ps k blank_placed) (position_in (get_or ps k blank_placed).level ps k)

-- L17: The map lists sections in text order. The n areas from section k on.
unfoldable pub areas_from : List ℕ → List Section → List Placed → ℕ → ℕ → List Area
areas_from s l ps zero k = []
areas_from s l ps (suc n) k = area_at s l ps k ∷ areas_from s l ps n (suc k)

unfoldable pub layout_areas : List ℕ → List Section → List Placed → List Area
layout_areas s l ps = areas_from s l ps (length ps) 0
