-- What is claimed: an accepted call can't be taken for a refused one (proofs/Effects).
use Rattle.std.specs.Prelude.{◌≡◌, Result}
use Rattle.std.proofs.Math.Option.{none}
use Rattle.octets.specs.Rows.{code_of}
use Rattle.guid.specs.Calls.{number_of}
use Rattle.guid.specs.declared.Refusal.{Refusal}

-- no refusal's number is 0
abbrev pub ZeroIsAccepted : Type 1
ZeroIsAccepted = (A : Type 0) (a : Result A Refusal) → code_of (number_of a) ≡ 0 → number_of a ≡ none
