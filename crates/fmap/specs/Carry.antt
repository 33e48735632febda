-- Carrying preserved areas from one image to another. Definitions only.
use Rattle.std.specs.Prelude.{not, List, [], ◌∷◌, ◌++◌, ℕ, length, Result, Ok, Err}
use Rattle.std.proofs.Math.Option.{Option, none, some}
use Rattle.octets.specs.Rows.{Row, row, refusal}
use Rattle.octets.specs.Bytes.{rest}
use Rattle.fmap_rules.specs.declared.ImagePosition.{ImagePosition}
use Rattle.fmap_rules.specs.Map.{areas_of, good_map}
use Rattle.fmap_carry.specs.Carry.{number_of as conflict_number, Outcome, unless_refused, carry_rows, carried}
use Rattle.fmap.specs.Find.{Reply, accepted, refused, number_of, out_of_range, signed_at, find_map}
use Rattle.fmap.specs.declared.NoMap.{NoMap}
use Rattle.fmap.specs.declared.CarryRefusal.{CarryRefusal}
use Rattle.fmap.specs.declared.CarryRefusal.TheVariants.{Map, Areas}

-- (W15) the number of each refusal
abbrev pub refused_number : CarryRefusal → ℕ
refused_number (Map e) = number_of e
refused_number (Areas e) = conflict_number e

-- (W15) the number of each answer; a carry that is accepted answers only that
abbrev pub carried_number : Result (Unit {0}) CarryRefusal → Option ℕ
carried_number (Ok _) = none
carried_number (Err e) = some (refused_number e)

-- (W15) the number of what stands at a position
abbrev pub standing_number : Result (Unit {0}) NoMap → Option ℕ
standing_number (Ok _) = none
standing_number (Err e) = some (number_of e)

-- R15, R16 for a position that is given: the eight signature bytes stand there, and so does a good map
abbrev pub place_rows : List ℕ → ℕ → List Row
place_rows image at =
    row (out_of_range (length image)) 40
    ∷ row (not (signed_at image at)) 41
    ∷ row (not (good_map image at)) 42
    ∷ []

-- R32: Carry: old image 40 to 42, new image 40 to 42, then 60, 61, 62, 63, each over all areas.
abbrev pub carry_at_rows : List ℕ → ℕ → List ℕ → ℕ → List Row
carry_at_rows old at new bt = place_rows old at ++ (place_rows new bt ++ carry_rows (areas_of (rest at old)) (areas_of (rest bt new)))

-- by the maps at two positions
unfoldable pub carry_at : List ℕ → ℕ → List ℕ → ℕ → Outcome
carry_at old at new bt = unless_refused (refusal (carry_at_rows old at new bt)) (carried old (areas_of (rest bt new)) (areas_of (rest at old)) new) new

abbrev pub carry_to : List ℕ → ImagePosition → List ℕ → Reply ImagePosition → Outcome
carry_to old p new (accepted q) = carry_at old p.0 new q.0
carry_to old p new (refused k) = record { answer = some k; image = new }

abbrev pub carry_from : List ℕ → List ℕ → Reply ImagePosition → Outcome
carry_from old new (accepted p) = carry_to old p new (find_map new)
carry_from old new (refused k) = record { answer = some k; image = new }

-- M13: Both maps are those found before the carry.
unfoldable pub carry_images : List ℕ → List ℕ → Outcome
carry_images old new = carry_from old new (find_map old)
