-- What is claimed of the bytes of a map: the statements of theorems (proofs/Records, proofs/Written).
use Rattle.std.specs.Prelude.{◌≡◌, true, List, ℕ, ◌<◌, ◌^◌, length, get_or}
use Rattle.octets.specs.Bytes.{rest, put}
use Rattle.fmap_rules.specs.Map.{area_of, areas_of, good_map}
use Rattle.fmap_rules.specs.Written.{area_bytes, map_bytes, Writable, Headed}
use Rattle.fmap_rules.specs.declared.Area.{Area}

-- (M2) the bytes of an area that bytes hold are these bytes
abbrev pub AreaIsItsBytes : Type 0
AreaIsItsBytes = (b : List ℕ) → length b ≡ 42 → ((i : ℕ) → i < 42 → get_or b i 0 < 256) → area_bytes (area_of b) ≡ b

-- (L18) a map written at the start of its area FMAP is good there, and its areas are those written
pub record WrittenThere (image : List ℕ) (at : ℕ) (areas : List Area) : Type 0 where
  pub good : good_map image at ≡ true
  pub same_areas : areas_of (rest at image) ≡ areas

abbrev pub WrittenIsGood : Type 0
WrittenIsGood =
    (image : List ℕ) (at : ℕ) (name : List ℕ) (base minor : ℕ) (areas : List Area) → Writable (length image) at name minor areas
    → WrittenThere (put at (map_bytes (length image) name base minor areas) image) at areas

-- (M1) and its header has what was given
abbrev pub WrittenHeader : Type 0
WrittenHeader =
    (image : List ℕ) (at : ℕ) (name : List ℕ) (base minor : ℕ) (areas : List Area) → Writable (length image) at name minor areas → base < 256 ^ 8
    → Headed (rest at (put at (map_bytes (length image) name base minor areas) image)) (length image) name base minor
