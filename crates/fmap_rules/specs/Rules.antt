-- The rules of a map as the code names them: the number of each in `header_rows` and `area_rows`. Definitions only.
use Rattle.std.specs.Prelude.{ℕ, Result, Ok, Err}
use Rattle.std.proofs.Math.Option.{Option, none, some}
use Rattle.fmap_rules.specs.declared.MapRule.{MapRule}
use Rattle.fmap_rules.specs.declared.MapRule.TheVariants.{Signature, HeaderEnd, Major, Minor, ImageSize, NoArea, TooManyAreas, MapEnd, Name}
use Rattle.fmap_rules.specs.declared.MapRule.TheVariants.{AreaSize, AreaEnd, AreaName, MapArea, SameName, Crossing}

abbrev pub rule_number : MapRule → ℕ
rule_number Signature = 1
rule_number HeaderEnd = 2
rule_number Major = 3
rule_number Minor = 4
rule_number ImageSize = 5
rule_number NoArea = 6
rule_number TooManyAreas = 7
rule_number MapEnd = 8
rule_number Name = 9
rule_number AreaSize = 10
rule_number AreaEnd = 11
rule_number AreaName = 12
rule_number MapArea = 13
rule_number SameName = 14
rule_number Crossing = 15

-- the number of the rule that is broken, if one is
abbrev pub broken : Result (Unit {0}) MapRule → Option ℕ
broken (Ok _) = none
broken (Err r) = some (rule_number r)
