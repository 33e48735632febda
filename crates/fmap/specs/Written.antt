-- What an image holds after a map was written into it, whatever was listed in the map. Definitions only.
use Rattle.std.specs.Prelude.{◌≡◌, ◌⊎◌, true, false, List, ℕ, ◌+◌, ◌≤◌, ◌<◌, length, get_or}
use Rattle.octets.specs.Bytes.{rest}
use Rattle.fmap_rules.specs.declared.Area.{Area}
use Rattle.fmap_rules.specs.Map.{position, map_size, areas_of, good_map}
use Rattle.fmap_rules.specs.Written.{Headed}
use Rattle.fmap.specs.Find.{accepted, find_map}

-- new has the map of these areas at a position, version 1.minor, and is image elsewhere
pub record Holds (at : ℕ) (name : List ℕ) (base minor : ℕ) (areas : List Area) (image new : List ℕ) : Type 0 where
  pub same_length : length new ≡ length image
  -- (L18) a good map stands at the position, (L17) with these areas in their order, and its header
  pub there : good_map new at ≡ true
  pub lists : areas_of (rest at new) ≡ areas
  pub headed : Headed (rest at new) (length image) name base minor
  -- (L18) which needs 56 + 42 × count bytes; no other byte changes
  pub elsewhere : (k : ℕ) → (k < at) ⊎ (at + map_size (length areas) ≤ k) → get_or new k 0 ≡ get_or image k 0
  -- L19: A search finds it unless a lower good map exists.
  pub found : ((j : ℕ) → j < at → good_map new j ≡ false) → find_map new ≡ accepted (position at)
