-- The bytes of a map, and what makes a written one good. Definitions only.
use Rattle.std.specs.Prelude.{◌≡◌, true, List, [], ◌∷◌, ◌++◌, map, ℕ, ◌≤◌, ◌<◌, ◌^◌, length, get_or}
use Rattle.octets.specs.Bytes.{le, part, field, flat}
use Rattle.fmap_rules.specs.declared.Area.{Area}
use Rattle.fmap_rules.specs.Map.{signature, legal_name, blank_area, good_areas}

-- (M2) the 42 bytes of an area
unfoldable pub area_bytes : Area → List ℕ
area_bytes a = le 4 a.place.start.0 ++ (le 4 a.place.size ++ (a.name ++ le 2 a.flags))

-- (M1) the bytes of a map: version 1.minor, of an image of len bytes
unfoldable pub map_bytes : ℕ → List ℕ → ℕ → ℕ → List Area → List ℕ
map_bytes len name base minor areas =
    signature ++ ((1 ∷ minor ∷ []) ++ (le 8 base ++ (le 4 len ++ (name ++ (le 2 (length areas) ++ flat (map area_bytes areas))))))

-- an area's numbers fit their fields
pub record Stored (a : Area) : Type 0 where
  pub start : a.place.start.0 < 256 ^ 4
  pub size : a.place.size < 256 ^ 4
  pub name : length a.name ≡ 32
  pub flags : a.flags < 256 ^ 2

-- what makes a map good where it is written
pub record Writable (len at : ℕ) (name : List ℕ) (minor : ℕ) (areas : List Area) : Type 0 where
  pub len_fits : len < 256 ^ 4
  pub version : minor ≤ 1
  pub some : 1 ≤ length areas
  pub few : length areas ≤ 128
  pub name_fits : length name ≡ 32
  pub legal : legal_name name ≡ true
  pub stored : (i : ℕ) → i < length areas → Stored (get_or areas i blank_area)
  pub good : good_areas len at areas ≡ true

-- (M1) the header of a map, by byte positions; m is the image's bytes from the map's position on
pub record Headed (m : List ℕ) (len : ℕ) (name : List ℕ) (base minor : ℕ) : Type 0 where
  pub major_is : field 8 1 m ≡ 1
  pub minor_is : field 9 1 m ≡ minor
  pub base_is : field 10 8 m ≡ base
  pub size_is : field 18 4 m ≡ len
  pub name_is : part 22 32 m ≡ name
