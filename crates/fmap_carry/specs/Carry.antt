-- Carrying preserved areas by the areas of two maps: the refusals, and the new image afterwards. Definitions only.
use Rattle.std.specs.Prelude.{Bool, not, cond, List, [], ◌∷◌, ℕ, ◌/◌, ◌%◌, get_or, eqb, Result, Ok, Err}
use Rattle.std.proofs.Math.Option.{Option, none, some}
use Rattle.octets.specs.Tests.{◌and◌, ◌or◌, any, pairs, find_ix}
use Rattle.octets.specs.Rows.{Row, row, refusal}
use Rattle.octets.specs.Bytes.{part, put}
use Rattle.fmap_rules.specs.declared.Extent.{Extent}
use Rattle.fmap_rules.specs.declared.Area.{Area}
use Rattle.fmap_rules.specs.Map.{blank_area, named, fmap_name, disjoint}
use Rattle.fmap_carry.specs.declared.Conflict.{Conflict}
use Rattle.fmap_carry.specs.declared.Conflict.TheVariants.{Missing, OtherSize, Shared, OnMap}

-- (M2) the flag PRESERVE 8
unfoldable pub preserved : Area → Bool
preserved a = eqb (a.flags / 8 % 2) 1

-- the area of a map with a name; blank where there is none
unfoldable pub with_name : List Area → List ℕ → Area
with_name areas n = get_or areas (find_ix (named n) areas) blank_area

-- (M11) where the same-named area of the new map lies, whatever its flags there
abbrev pub target : List Area → Area → Extent
target news a = (with_name news a.name).place

-- ---- R23, (R24) of an area a of the old map, by the areas of the new one

unfoldable pub missing : List Area → Area → Bool
missing news a = preserved a and not (any (named a.name) news)

unfoldable pub other_size : List Area → Area → Bool
other_size news a = preserved a and not (eqb a.place.size (target news a).size)

-- two areas, not both carried or without a common byte in either map; x and y are where they go
unfoldable pub clear_by : Area → Extent → Area → Extent → Bool
clear_by a x b y = not (preserved a) or (not (preserved b) or (disjoint a.place b.place and disjoint x y))

unfoldable pub clear : List Area → Area → Area → Bool
clear news a b = clear_by a (target news a) b (target news b)

unfoldable pub on_map : List Area → Area → Bool
on_map news a = preserved a and not (disjoint (target news a) (with_name news fmap_name).place)

-- R32: then 60, 61, 62, 63, each over all areas
abbrev pub carry_rows : List Area → List Area → List Row
carry_rows olds news =
    row (any (missing news) olds) 60
    ∷ row (any (other_size news) olds) 61
    ∷ row (not (pairs (clear news) olds)) 62
    ∷ row (any (on_map news) olds) 63
    ∷ []

-- (W15) the number of each refusal
abbrev pub number_of : Conflict → ℕ
number_of Missing = 60
number_of OtherSize = 61
number_of Shared = 62
number_of OnMap = 63

-- the number of a judgement, if it is a refusal
abbrev pub judged_number : Result (Unit {0}) Conflict → Option ℕ
judged_number (Ok _) = none
judged_number (Err e) = some (number_of e)

-- ---- M11: its bytes go to the same-named area of the new image

unfoldable pub carry_area : List ℕ → List Area → Area → List ℕ → List ℕ
carry_area old news a image = cond (preserved a) (put (target news a).start.0 (part a.place.start.0 a.place.size old) image) image

-- M12, (M13) all else stays; the areas are those of the maps before the carry
unfoldable pub carried : List ℕ → List Area → List Area → List ℕ → List ℕ
carried old news [] image = image
carried old news (a ∷ olds) image = carried old news olds (carry_area old news a image)

-- an outcome whole: the refusal, if any, and the new image afterwards
pub record Outcome : Type 0 where
  pub answer : Option ℕ
  pub image : List ℕ

abbrev pub unless_refused : Option ℕ → List ℕ → List ℕ → Outcome
unless_refused none done new = record { answer = none; image = done }
unless_refused (some k) done new = record { answer = some k; image = new }

unfoldable pub carry_areas : List ℕ → List Area → List ℕ → List Area → Outcome
carry_areas old olds new news = unless_refused (refusal (carry_rows olds news)) (carried old news olds new) new
