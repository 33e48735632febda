-- What is claimed: an accepted call can't be taken for a refused one (proofs/Effects).
use Rattle.std.specs.Prelude.{◌≡◌}
use Rattle.gpt_checks.specs.Refusals.{number_of}
use Rattle.gpt_checks.specs.declared.Refusal.{Refusal}

-- no refusal's number is 0
abbrev pub NoRefusalIsZero : Type 0
NoRefusalIsZero = (r : Refusal) → number_of r ≡ 0 → ⊥
