-- What C gets of a flash map call. Definitions only.
use Rattle.std.specs.Prelude.{Bool, true, false, cond, List, ℕ, eqb, ltb, length}
use Rattle.std.proofs.Math.Option.{Option, none, some}
use Rattle.octets.specs.Rows.{code_of}
use Rattle.fmap_rules.specs.declared.ImagePosition.{ImagePosition}
use Rattle.fmap_rules.specs.declared.Area.{Area}
use Rattle.fmap_rules.specs.Written.{area_bytes}
use Rattle.fmap_carry.specs.Carry.{Outcome}
use Rattle.fmap.specs.Find.{Reply, accepted, refused}
use Rattle.fmap.specs.Areas.{Looked}

-- the result, and the number behind the pointer for the answer afterwards
pub record NumberEffect : Type 0 where
  pub result : ℕ
  pub value : ℕ

-- the result, and the lent buffer afterwards
pub record BufferEffect : Type 0 where
  pub result : ℕ
  pub buffer : List ℕ

-- ---- finding: the position, where old stood
-- R1: A refusal returns its number alone: the position is as it was
abbrev pub find_effect : ℕ → Reply ImagePosition → NumberEffect
find_effect old (accepted p) = record { result = 0; value = p.0 }
find_effect old (refused k) = record { result = k; value = old }

-- ---- a position of 32 bits: a larger number stands for the last one, which lies behind every image too
unfoldable pub position_of : ℕ → ℕ
position_of n = cond (ltb n 4294967295) n 4294967295

-- ---- the first rule that a map at a position breaks, where old stood; 0 where the map is good
abbrev pub fault_effect : ℕ → Reply (Option ℕ) → NumberEffect
fault_effect old (accepted o) = record { result = 0; value = code_of o }
fault_effect old (refused k) = record { result = k; value = old }

-- ---- an area by its number: its 42 bytes, where old stood
-- 255: no such area, to which the rules give no number
abbrev pub answer_effect : List ℕ → Area → Reply Bool → BufferEffect
answer_effect old a (accepted true) = record { result = 0; buffer = area_bytes a }
answer_effect old a (accepted false) = record { result = 255; buffer = old }
answer_effect old a (refused k) = record { result = k; buffer = old }

abbrev pub looked_effect : List ℕ → Looked → BufferEffect
looked_effect old l = answer_effect old l.area l.answer

-- (R4) an area's buffer has 42 bytes; with another length nothing is looked for
unfoldable pub area_effect : List ℕ → Looked → BufferEffect
area_effect old l = cond (eqb (length old) 42) (looked_effect old l) (record { result = 1; buffer = old })

-- ---- the number of the area with a name, where old stood
abbrev pub named_effect : ℕ → Reply (Option ℕ) → NumberEffect
named_effect old (accepted (some k)) = record { result = 0; value = k }
named_effect old (accepted none) = record { result = 255; value = old }
named_effect old (refused n) = record { result = n; value = old }

-- ---- carrying: the new image
abbrev pub carry_effect : Outcome → BufferEffect
carry_effect o = record { result = code_of o.answer; buffer = o.image }
