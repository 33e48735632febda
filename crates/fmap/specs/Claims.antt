-- What is claimed besides the equations of the calls: the statements of the theorems. Users rely on these.
use Rattle.std.specs.Prelude.{◌≡◌, ◌↔◌, true, false, List, ℕ, ◌+◌, ◌*◌, ◌≤◌, ◌<◌, ◌^◌, length, get_or}
use Rattle.std.proofs.Math.Option.{none, some}
use Rattle.octets.specs.Bytes.{part, rest, field, put}
use Rattle.fmap_rules.specs.declared.ImagePosition.{ImagePosition}
use Rattle.fmap_rules.specs.declared.Area.{Area}
use Rattle.fmap_rules.specs.Map.{position, areas_of, good_map}
use Rattle.fmap_rules.specs.Written.{area_bytes, map_bytes, Writable}
use Rattle.fmap_carry.specs.Claims.{Arrived}
use Rattle.fmap.specs.Find.{accepted, find_map}
use Rattle.fmap.specs.Areas.{area_numbered, area_named, index_named}
use Rattle.fmap.specs.Carry.{carry_at, carry_images}
use Rattle.fmap.specs.InBytes.{record_of, count_in, MapAt, CalledAt, MayCarry, CarriedBytes}
use Rattle.fmap.specs.Written.{Holds}

-- ---- maps

-- a map that is good has what the bytes of one must have
abbrev pub GoodIsMap : Type 0
GoodIsMap = (image : List ℕ) (at : ℕ) → good_map image at ≡ true → MapAt image at

-- (M9) and nothing else is asked of a map: flags are not judged
abbrev pub MapIsGood : Type 0
MapIsGood = (image : List ℕ) (at : ℕ) → MapAt image at → good_map image at ≡ true

-- (Q4), (M10) a position is found exactly when the image's length is in range, a good map stands there, and no lower position has one
pub record Lowest (image : List ℕ) (p : ImagePosition) : Type 0 where
  pub low : 98 ≤ length image
  pub high : length image ≤ 16777216
  pub good : good_map image p.0 ≡ true
  pub none_lower : (j : ℕ) → j < p.0 → good_map image j ≡ false

abbrev pub FindsLowest : Type 0
FindsLowest = (image : List ℕ) (p : ImagePosition) → (find_map image ≡ accepted p) ↔ Lowest image p

-- ---- areas

-- in the map that is found, k is the number of a name exactly when record k has it
abbrev pub NamedByBytes : Type 0
NamedByBytes =
    (image name : List ℕ) (p : ImagePosition) (k : ℕ) → find_map image ≡ accepted p
    → (index_named image name ≡ accepted (some k)) ↔ ((k < count_in image p.0) × CalledAt image (record_of p.0 k) name)

-- no area is found by a name of more than 31 bytes
abbrev pub LongNameIsNothing : Type 0
LongNameIsNothing = (image name : List ℕ) → (area_named image name).answer ≡ accepted true → length name ≤ 31

-- the number that is found by a name is that of the area that is found by it
abbrev pub IndexIsNamed : Type 0
IndexIsNamed =
    (image name : List ℕ) (k : ℕ) → index_named image name ≡ accepted (some k)
    → ((area_named image name).answer ≡ accepted true) × (area_numbered image k ≡ area_named image name)

-- (M2) the 42 bytes of area k of the map that is found are record k of the map, as the image has it
abbrev pub AreaBytesAreTheMaps : Type 0
AreaBytesAreTheMaps =
    (image : List ℕ) → ((i : ℕ) → get_or image i 0 < 256) → (p : ImagePosition) (k : ℕ)
    → find_map image ≡ accepted p → (area_numbered image k).answer ≡ accepted true
    → area_bytes (area_numbered image k).area ≡ part (p.0 + (56 + 42 * k)) 42 image

-- ---- carrying

-- a carry by two positions is accepted exactly when the images' bytes allow it
abbrev pub AcceptedByBytes : Type 0
AcceptedByBytes = (old : List ℕ) (at : ℕ) (new : List ℕ) (bt : ℕ) → ((carry_at old at new bt).answer ≡ none) ↔ MayCarry old at new bt

-- (M13) and a carry with the search exactly when it is by the maps that are found
abbrev pub ImagesAcceptedByBytes : Type 0
ImagesAcceptedByBytes =
    (old new : List ℕ)
    → ((carry_images old new).answer ≡ none)
    ↔ ((p : ImagePosition) × (q : ImagePosition) × (find_map old ≡ accepted p) × (find_map new ≡ accepted q) × MayCarry old p.0 new q.0)

-- and then the bytes stand where the records say
abbrev pub CarriesBytes : Type 0
CarriesBytes =
    (old : List ℕ) (at : ℕ) (new : List ℕ) (bt : ℕ) (image : List ℕ) → carry_at old at new bt ≡ record { answer = none; image = image }
    → CarriedBytes old at new bt image

-- M11, M12, (M13) by the maps found, each preserved area arrives byte for byte, and every other byte stays
pub record CarriedOver (old new image : List ℕ) : Type 0 where
  pub from : ImagePosition
  pub to : ImagePosition
  pub old_found : find_map old ≡ accepted from
  pub new_found : find_map new ≡ accepted to
  pub arrived : Arrived old (areas_of (rest from.0 old)) new (areas_of (rest to.0 new)) image

abbrev pub CarryArrives : Type 0
CarryArrives = (old new image : List ℕ) → carry_images old new ≡ record { answer = none; image = image } → CarriedOver old new image

-- (M12), (R24) an accepted carry leaves the new map in its place, byte for byte and good; a search finds it unless a lower good map exists,
-- which the bytes of a carried area may hold
pub record MapKept (new : List ℕ) (bt : ℕ) (image : List ℕ) : Type 0 where
  pub bytes : part bt (56 + 42 * field (bt + 54) 2 new) image ≡ part bt (56 + 42 * field (bt + 54) 2 new) new
  pub good : good_map image bt ≡ true
  pub found : ((j : ℕ) → j < bt → good_map image j ≡ false) → find_map image ≡ accepted (position bt)

abbrev pub CarryKeepsMap : Type 0
CarryKeepsMap =
    (old : List ℕ) (at : ℕ) (new : List ℕ) (bt : ℕ) (image : List ℕ) → carry_at old at new bt ≡ record { answer = none; image = image } → MapKept new bt image

-- (R1) a carry that is refused changes no byte
abbrev pub RefusedCarryStays : Type 0
RefusedCarryStays =
    (old : List ℕ) (at : ℕ) (new : List ℕ) (bt n : ℕ) → (carry_at old at new bt).answer ≡ some n → (carry_at old at new bt).image ≡ new

abbrev pub RefusedImagesStay : Type 0
RefusedImagesStay = (old new : List ℕ) (n : ℕ) → (carry_images old new).answer ≡ some n → (carry_images old new).image ≡ new

-- ---- a map that was written

-- L19: A search finds it unless a lower good map exists.
abbrev pub WrittenIsFound : Type 0
WrittenIsFound =
    (image : List ℕ) (at : ℕ) (name : List ℕ) (base minor : ℕ) (areas : List Area) → Writable (length image) at name minor areas
    → 98 ≤ length image → length image ≤ 16777216
    → ((j : ℕ) → j < at → good_map (put at (map_bytes (length image) name base minor areas) image) j ≡ false)
    → find_map (put at (map_bytes (length image) name base minor areas) image) ≡ accepted (position at)

-- an image into which a good map is written holds it
abbrev pub MapHolds : Type 0
MapHolds =
    (image : List ℕ) (at : ℕ) (name : List ℕ) (base minor : ℕ) (areas : List Area) → Writable (length image) at name minor areas
    → base < 256 ^ 8 → 98 ≤ length image → length image ≤ 16777216
    → Holds at name base minor areas image (put at (map_bytes (length image) name base minor areas) image)
