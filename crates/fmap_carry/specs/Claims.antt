-- What is claimed of an accepted carry: what it leaves (proofs/Accepted).
use Rattle.std.specs.Prelude.{◌≡◌, ◌⊎◌, true, List, ℕ, ◌≤◌, ◌<◌, length, get_or}
use Rattle.octets.specs.Bytes.{part}
use Rattle.fmap_rules.specs.declared.Area.{Area}
use Rattle.fmap_rules.specs.Map.{blank_area, end_of}
use Rattle.fmap_carry.specs.Carry.{preserved, target}

-- M11, (M12) the bytes of each preserved area stand in the same-named area of the image; every byte in none of these is that of the new image
pub record Arrived (old : List ℕ) (olds : List Area) (new : List ℕ) (news : List Area) (image : List ℕ) : Type 0 where
  pub same_length : length image ≡ length new
  pub arrive : (i : ℕ) → i < length olds → preserved (get_or olds i blank_area) ≡ true
      → part (target news (get_or olds i blank_area)).start.0 (target news (get_or olds i blank_area)).size image
      ≡ part (get_or olds i blank_area).place.start.0 (get_or olds i blank_area).place.size old
  pub stay : (p : ℕ)
      → ((i : ℕ) → i < length olds → preserved (get_or olds i blank_area) ≡ true
      → (p < (target news (get_or olds i blank_area)).start.0) ⊎ (end_of (target news (get_or olds i blank_area)) ≤ p))
      → get_or image p 0 ≡ get_or new p 0
