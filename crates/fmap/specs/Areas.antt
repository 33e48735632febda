-- The areas of the map that is found. Definitions only.
use Rattle.std.specs.Prelude.{Bool, true, false, cond, List, ℕ, length, get_or, ltb, Result, Ok, Err, Option as Maybe, Some, None}
use Rattle.std.proofs.Math.Option.{Option, none, some}
use Rattle.octets.specs.Tests.{find_ix}
use Rattle.octets.specs.Bytes.{part, rest, same}
use Rattle.fmap_rules.specs.declared.ImagePosition.{ImagePosition}
use Rattle.fmap_rules.specs.declared.Area.{Area}
use Rattle.fmap_rules.specs.Map.{areas_of, blank_area, name_length}
use Rattle.fmap.specs.Find.{Reply, accepted, refused, number_of, find_map}
use Rattle.fmap.specs.declared.NoMap.{NoMap}

-- (W15) the number and the value of each answer; accepted false or none: no such area, to which the rules give no number
abbrev pub count_reply : Result ℕ NoMap → Reply ℕ
count_reply (Ok n) = accepted n
count_reply (Err e) = refused (number_of e)

abbrev pub lookup_reply : Result (Maybe Area) NoMap → Reply Bool
lookup_reply (Ok (Some a)) = accepted true
lookup_reply (Ok None) = accepted false
lookup_reply (Err e) = refused (number_of e)

abbrev pub index_reply : Result (Maybe ℕ) NoMap → Reply (Option ℕ)
index_reply (Ok (Some k)) = accepted (some k)
index_reply (Ok None) = accepted none
index_reply (Err e) = refused (number_of e)

-- an outcome whole: the answer, and the area, blank where there is none
pub record Looked : Type 0 where
  pub answer : Reply Bool
  pub area : Area

abbrev pub looked_area : Result (Maybe Area) NoMap → Area
looked_area (Ok (Some a)) = a
looked_area (Ok None) = blank_area
looked_area (Err e) = blank_area

abbrev pub looked : Result (Maybe Area) NoMap → Looked
looked r = record { answer = lookup_reply r; area = looked_area r }

-- area k of a list, from 0
abbrev pub area_in : List Area → ℕ → Looked
area_in areas k = record { answer = accepted (ltb k (length areas)); area = get_or areas k blank_area }

-- k, where a list has an area k
abbrev pub index_in : List Area → ℕ → Option ℕ
index_in areas k = cond (ltb k (length areas)) (some k) none

-- the bytes of the area's name before the zeros are these
unfoldable pub called : List ℕ → Area → Bool
called name a = same (part 0 (name_length a.name) a.name) name

-- the refusals of finding first, then what the map's areas give
abbrev pub count_by : List ℕ → Reply ImagePosition → Reply ℕ
count_by image (accepted p) = accepted (length (areas_of (rest p.0 image)))
count_by image (refused k) = refused k

abbrev pub area_by : List ℕ → (List Area → ℕ) → Reply ImagePosition → Looked
area_by image k (accepted p) = area_in (areas_of (rest p.0 image)) (k (areas_of (rest p.0 image)))
area_by image k (refused n) = record { answer = refused n; area = blank_area }

abbrev pub index_by : List ℕ → (List Area → ℕ) → Reply ImagePosition → Reply (Option ℕ)
index_by image k (accepted p) = accepted (index_in (areas_of (rest p.0 image)) (k (areas_of (rest p.0 image))))
index_by image k (refused n) = refused n

unfoldable pub count_areas : List ℕ → Reply ℕ
count_areas image = count_by image (find_map image)

-- area k of the map
unfoldable pub area_numbered : List ℕ → ℕ → Looked
area_numbered image k = area_by image (λ areas. k) (find_map image)

-- the area of the map with that name
unfoldable pub area_named : List ℕ → List ℕ → Looked
area_named image name = area_by image (find_ix (called name)) (find_map image)

-- its number
unfoldable pub index_named : List ℕ → List ℕ → Reply (Option ℕ)
index_named image name = index_by image (find_ix (called name)) (find_map image)
