-- What is claimed: an accepted call can't be taken for a refused one (proofs/Effects).
use Rattle.std.specs.Prelude.{◌≡◌, List, ℕ, Option, Result}
use Rattle.std.proofs.Math.Option.{none, some}
use Rattle.octets.specs.Rows.{code_of}
use Rattle.fmap.specs.Find.{accepted, refused, found_reply}
use Rattle.fmap.specs.Faults.{fault_reply, fault_at}
use Rattle.fmap.specs.Areas.{lookup_reply, index_reply}
use Rattle.fmap.specs.Carry.{carried_number}
use Rattle.fmap.specs.declared.NoMap.{NoMap}
use Rattle.fmap.specs.declared.MapFault.{MapFault}
use Rattle.fmap.specs.declared.CarryRefusal.{CarryRefusal}
use Rattle.fmap_rules.specs.declared.ImagePosition.{ImagePosition}
use Rattle.fmap_rules.specs.declared.Area.{Area}

-- no refusal's number is 0, and no rule's
pub record NoneIsZero : Type 0 where
  pub find : (f : Result ImagePosition NoMap) → found_reply f ≡ refused 0 → ⊥
  pub fault : (f : Result (Unit {0}) MapFault) → fault_reply f ≡ refused 0 → ⊥
  pub rule : (image : List ℕ) (at : ℕ) → fault_at image at ≡ accepted (some 0) → ⊥
  pub area : (a : Result (Option Area) NoMap) → lookup_reply a ≡ refused 0 → ⊥
  pub named : (a : Result (Option ℕ) NoMap) → index_reply a ≡ refused 0 → ⊥
  pub carry : (c : Result (Unit {0}) CarryRefusal) → code_of (carried_number c) ≡ 0 → carried_number c ≡ none
