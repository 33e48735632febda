-- For the proofs of the code, not to be believed: what of two maps lets areas be carried. Definitions only.
use Rattle.std.specs.Prelude.{◌≡◌, Bool, true, List, ℕ, ◌≤◌, ◌<◌, length, get_or, leb}
use Rattle.fmap_rules.specs.declared.Area.{Area}
use Rattle.fmap_rules.specs.Map.{blank_area, end_of}
use Rattle.fmap_carry.specs.Carry.{preserved, target}

-- an area that is carried lies in the old image, and where it goes lies in the new one and has its size
pub record Fit (old_length new_length : ℕ) (news : List Area) (a : Area) : Type 0 where
  pub from : end_of a.place ≤ old_length
  pub to : end_of (target news a) ≤ new_length
  pub size : a.place.size ≡ (target news a).size

abbrev pub Fitting : ℕ → ℕ → List Area → List Area → Type 0
Fitting old_length new_length news olds =
    (i : ℕ) → i < length olds → preserved (get_or olds i blank_area) ≡ true → Fit old_length new_length news (get_or olds i blank_area)

-- (M6) each area ends in the image
unfoldable pub ends_in : ℕ → Area → Bool
ends_in len a = leb (end_of a.place) len
