-- The flash map: its fields, and what a good map at a position is. Definitions only.
use Rattle.std.specs.Prelude.{Bool, true, false, not, List, [], ◌∷◌, ◌++◌, map, ℕ, ◌+◌, ◌*◌, ◌/◌, length, eqb, leb, ltb}
use Rattle.std.proofs.Math.Option.{Option, none, some}
use Rattle.octets.specs.Ascii.{ascii}
use Rattle.octets.specs.Tests.{◌and◌, ◌or◌, any, pairs, find_ix}
use Rattle.octets.specs.Rows.{Row, row, refusal}
use Rattle.octets.specs.Bytes.{part, rest, field, zeros, is_zero, same, chunks}
use Rattle.fmap_rules.specs.declared.ImagePosition.{ImagePosition}
use Rattle.fmap_rules.specs.declared.Extent.{Extent}
use Rattle.fmap_rules.specs.declared.Area.{Area}

-- (Q7) a byte's position in the image, as its own type
abbrev pub position : ℕ → ImagePosition
position n = record { 0 = n }

-- ---- M1: Header, 56 bytes: "__FMAP__", major, minor, base (8), size (4), name (32), area count (2).
-- m is the image's bytes from the map's position on

abbrev pub signature : List ℕ
signature = ascii "__FMAP__"

unfoldable pub signed : List ℕ → Bool
signed m = same (part 0 8 m) signature

abbrev pub major_of : List ℕ → ℕ
major_of m = field 8 1 m

abbrev pub minor_of : List ℕ → ℕ
minor_of m = field 9 1 m

abbrev pub base_of : List ℕ → ℕ
base_of m = field 10 8 m

abbrev pub size_of : List ℕ → ℕ
size_of m = field 18 4 m

abbrev pub name_of : List ℕ → List ℕ
name_of m = part 22 32 m

abbrev pub count_of : List ℕ → ℕ
count_of m = field 54 2 m

-- ---- M2: Area, 42 bytes: offset (4), size (4), name (32), flags (2; STATIC 1, COMPRESSED 2, RO 4, PRESERVE 8).

unfoldable pub area_of : List ℕ → Area
area_of b = record { place = record { start = position (field 0 4 b); size = field 4 4 b }; name = part 8 32 b; flags = field 40 2 b }

-- the areas that bytes hold
unfoldable pub areas_in : List ℕ → List Area
areas_in xs = map area_of (chunks 42 (length xs / 42) xs)

unfoldable pub areas_of : List ℕ → List Area
areas_of m = areas_in (part 56 (42 * count_of m) m)

-- no area
abbrev pub blank_area : Area
blank_area = record { place = record { start = position 0; size = 0 }; name = zeros 32; flags = 0 }

abbrev pub map_size : ℕ → ℕ
map_size count = 56 + 42 * count

-- ---- M4: Every name is 1 to 31 bytes of 21 to 7E hex, then zeros.

abbrev pub graphic : ℕ → Bool
graphic b = leb 33 b and leb b 126

-- no byte of a name
unfoldable pub stops : ℕ → Bool
stops b = not (graphic b)

-- how many of the first bytes are a name's
unfoldable pub name_length : List ℕ → ℕ
name_length n = find_ix stops n

unfoldable pub legal_name : List ℕ → Bool
legal_name n = leb 1 (name_length n) and (leb (name_length n) 31 and is_zero (rest (name_length n) n))

-- "FMAP" as a map holds it
abbrev pub fmap_name : List ℕ
fmap_name = ascii "FMAP" ++ zeros 28

-- ---- M7: Any two areas are disjoint, equal or one in the other.

-- one past the last byte
abbrev pub end_of : Extent → ℕ
end_of x = x.start.0 + x.size

unfoldable pub disjoint : Extent → Extent → Bool
disjoint x y = leb (end_of x) y.start.0 or leb (end_of y) x.start.0

-- x lies in y; equal extents lie in each other
unfoldable pub inside : Extent → Extent → Bool
inside x y = leb y.start.0 x.start.0 and leb (end_of x) (end_of y)

unfoldable pub disjoint_or_nested : Extent → Extent → Bool
disjoint_or_nested x y = disjoint x y or (inside x y or inside y x)

-- ---- the rules of a map; the first row that holds is the rule that a map breaks, and its number is the rule's

-- M3: A good map at a position: major 1, minor 0 or 1, size equal to the image length, count 1 to 128, all bytes in the image.
-- (M1), (M4) m is the bytes from the position on of an image of len bytes
abbrev pub header_rows : ℕ → List ℕ → List Row
header_rows len m =
    row (not (signed m)) 1
    ∷ row (ltb (length m) 56) 2
    ∷ row (not (eqb (major_of m) 1)) 3
    ∷ row (ltb 1 (minor_of m)) 4
    ∷ row (not (eqb (size_of m) len)) 5
    ∷ row (eqb (count_of m) 0) 6
    ∷ row (ltb 128 (count_of m)) 7
    ∷ row (ltb (length m) (map_size (count_of m))) 8
    ∷ row (not (legal_name (name_of m))) 9
    ∷ []

-- M6: Each area has size at least 1 and ends in the image.
unfoldable pub empty : Area → Bool
empty a = eqb a.place.size 0

unfoldable pub ends_past : ℕ → Area → Bool
ends_past len a = ltb len (end_of a.place)

-- (M4)
unfoldable pub misnamed : Area → Bool
misnamed a = not (legal_name a.name)

-- the area has these 32 bytes as its name
unfoldable pub named : List ℕ → Area → Bool
named n a = same n a.name

-- M8: The area FMAP starts at that position and holds the whole map.
unfoldable pub holds_map : ℕ → ℕ → Area → Bool
holds_map at count a = named fmap_name a and (eqb a.place.start.0 at and leb (map_size count) a.place.size)

-- M5: Area names differ.
unfoldable pub other_name : Area → Area → Bool
other_name a b = not (named a.name b)

-- (M7)
unfoldable pub good_places : Area → Area → Bool
good_places a b = disjoint_or_nested a.place b.place

-- M9: Flags are not judged.
abbrev pub area_rows : ℕ → ℕ → List Area → List Row
area_rows len at areas =
    row (any empty areas) 10
    ∷ row (any (ends_past len) areas) 11
    ∷ row (any misnamed areas) 12
    ∷ row (not (any (holds_map at (length areas)) areas)) 13
    ∷ row (not (pairs other_name areas)) 14
    ∷ row (not (pairs good_places areas)) 15
    ∷ []

abbrev pub map_rows : List ℕ → ℕ → List Row
map_rows image at = header_rows (length image) (rest at image) ++ area_rows (length image) at (areas_of (rest at image))

abbrev pub is_none : Option ℕ → Bool
is_none none = true
is_none (some k) = false

-- no row holds
unfoldable pub none_holds : List Row → Bool
none_holds rows = is_none (refusal rows)

-- (M3) a good map at a position
unfoldable pub good_map : List ℕ → ℕ → Bool
good_map image at = none_holds (map_rows image at)

unfoldable pub good_map_header : ℕ → List ℕ → Bool
good_map_header len m = none_holds (header_rows len m)

unfoldable pub good_areas : ℕ → ℕ → List Area → Bool
good_areas len at areas = none_holds (area_rows len at areas)
