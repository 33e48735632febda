-- What is claimed: an accepted string can't be taken for a refused one (proofs/Numbers).
use Rattle.std.specs.Prelude.{◌≡◌}
use Rattle.gpt_build.specs.Answers.{number_of}
use Rattle.gpt_build.specs.declared.Refusal.{Refusal}

-- no refusal's number is 0
abbrev pub NoStringRefusalIsZero : Type 0
NoStringRefusalIsZero = (r : Refusal) → number_of r ≡ 0 → ⊥
