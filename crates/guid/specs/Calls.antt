-- What each call answers and leaves in the lent buffer. Definitions only.
use Rattle.std.specs.Prelude.{Bool, not, List, [], ◌∷◌, ℕ, eqb, length, Result, Ok, Err}
use Rattle.std.proofs.Math.Option.{Option, none, some}
use Rattle.octets.specs.Tests.{◌or◌}
use Rattle.octets.specs.Rows.{Row, row, refusal}
use Rattle.guid.specs.Text.{is_guid_text, stored_of, text_of}
use Rattle.guid.specs.Types.{expand}
use Rattle.guid.specs.declared.Refusal.{Refusal}
use Rattle.guid.specs.declared.Refusal.TheVariants.{WrongLength, NotGuidText}

-- W15: When an answer is an enum, a definition states this paper's number and values for each enum case. `none`: accepted.
abbrev pub number_of : {A : Type 0} → Result A Refusal → Option ℕ
number_of (Ok v) = none
number_of (Err WrongLength) = some 1
number_of (Err NotGuidText) = some 30

-- a call's number and the lent buffer afterwards
pub record Outcome : Type 0 where
  pub number : Option ℕ
  pub buffer : List ℕ

-- R1: A refusal returns its number alone and changes no lent byte.
unfoldable pub unless_refused : Option ℕ → List ℕ → List ℕ → Outcome
unless_refused none new old = record { number = none; buffer = new }
unless_refused (some k) new old = record { number = some k; buffer = old }

abbrev pub is_not : ℕ → List ℕ → Bool
is_not k xs = not (eqb (length xs) k)

-- ---- reading a GUID text into 16 bytes

-- R4, then R14, as docs/DECISIONS.md orders them
abbrev pub read_text_rows : List ℕ → List ℕ → List Row
read_text_rows text guid = row (is_not 16 guid) 1 ∷ row (not (is_guid_text text)) 30 ∷ []

unfoldable pub read_of : List ℕ → List ℕ → Outcome
read_of text guid = unless_refused (refusal (read_text_rows text guid)) (stored_of text) guid

-- G1: a type may also be a short name
abbrev pub read_type_of : List ℕ → List ℕ → Outcome
read_type_of text guid = read_of (expand text) guid

-- ---- writing 16 bytes as a text of 36

-- R4
abbrev pub write_rows : List ℕ → List ℕ → List Row
write_rows guid text = row (is_not 16 guid or is_not 36 text) 1 ∷ []

unfoldable pub write_of : List ℕ → List ℕ → Outcome
write_of guid text = unless_refused (refusal (write_rows guid text)) (text_of guid) text
