-- What stands at a position of an image: a good map, or the first rule that a map there breaks. Definitions only.
use Rattle.std.specs.Prelude.{List, [], ◌∷◌, ℕ, length, Result, Ok, Err}
use Rattle.std.proofs.Math.Option.{Option, none, some}
use Rattle.octets.specs.Rows.{row, refusal}
use Rattle.fmap_rules.specs.Map.{map_rows}
use Rattle.fmap.specs.Find.{Reply, accepted, refused, reply, out_of_range}
use Rattle.fmap.specs.declared.MapFault.{MapFault}
use Rattle.fmap.specs.declared.MapFault.TheVariants.{Breaks, WrongLength}
use Rattle.fmap_rules.specs.Rules.{rule_number}

-- (W15) the number and the value of each answer: none is a good map, else the number of a rule in `map_rows`
abbrev pub fault_reply : Result (Unit {0}) MapFault → Reply (Option ℕ)
fault_reply (Ok _) = accepted none
fault_reply (Err (Breaks r)) = accepted (some (rule_number r))
fault_reply (Err WrongLength) = refused 40

-- (M3) any number is a position; where the signature does not stand, rule 1 is broken
unfoldable pub fault_at : List ℕ → ℕ → Reply (Option ℕ)
fault_at image at = reply (refusal (row (out_of_range (length image)) 40 ∷ [])) (refusal (map_rows image at))
