-- Finding the map of an image. Definitions only.
use Rattle.std.specs.Prelude.{Bool, not, List, [], ◌∷◌, ℕ, length, ltb, Result, Ok, Err}
use Rattle.std.proofs.Math.Option.{Option, none, some}
use Rattle.octets.specs.Tests.{◌or◌}
use Rattle.octets.specs.Rows.{Row, row, refusal}
use Rattle.octets.specs.Bytes.{rest}
use Rattle.fmap_rules.specs.declared.ImagePosition.{ImagePosition}
use Rattle.fmap_rules.specs.Map.{position, signed, good_map}
use Rattle.fmap.specs.Lowest.{lowest, some_below}
use Rattle.fmap.specs.declared.NoMap.{NoMap}
use Rattle.fmap.specs.declared.NoMap.TheVariants.{WrongLength, NoSignature, NoGoodMap}

-- R1, (R3) a call is accepted with a value, or refused with a number alone
pub data Reply (A : Type 0) : Type 0 where
  accepted : A → Reply A
  refused : ℕ → Reply A

module _ {A : Type 0} where
  abbrev pub reply : Option ℕ → A → Reply A
  reply none a = accepted a
  reply (some k) a = refused k

-- (W15) the number of each refusal
abbrev pub number_of : NoMap → ℕ
number_of WrongLength = 40
number_of NoSignature = 41
number_of NoGoodMap = 42

-- (W15) the number and the value of each answer of finding
abbrev pub found_reply : Result ImagePosition NoMap → Reply ImagePosition
found_reply (Ok p) = accepted p
found_reply (Err e) = refused (number_of e)

-- Q4: A flash image is 98 to 16,777,216 bytes.
unfoldable pub out_of_range : ℕ → Bool
out_of_range len = ltb len 98 or ltb 16777216 len

-- the eight signature bytes stand at a position
unfoldable pub signed_at : List ℕ → ℕ → Bool
signed_at image at = signed (rest at image)

-- R15, R16, R31: Finding a map: 40, 41, 42.
abbrev pub find_rows : List ℕ → List Row
find_rows image =
    row (out_of_range (length image)) 40
    ∷ row (not (some_below (length image) (signed_at image))) 41
    ∷ row (not (some_below (length image) (good_map image))) 42
    ∷ []

-- M10: The lowest good map is found.
unfoldable pub find_map : List ℕ → Reply ImagePosition
find_map image = reply (refusal (find_rows image)) (position (lowest (length image) (good_map image)))
