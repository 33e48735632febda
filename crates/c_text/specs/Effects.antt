-- An answer for C: 0 where the call is accepted, else the refusal's number. Definitions only.
use Rattle.std.specs.Prelude.{List, ℕ}
use Rattle.octets.specs.Rows.{code_of}
use Rattle.guid.specs.Calls.{Outcome}

-- the result and the lent buffer afterwards
pub record Effect : Type 0 where
  pub result : ℕ
  pub buffer : List ℕ

abbrev pub effect : Outcome → Effect
effect o = record { result = code_of o.number; buffer = o.buffer }
