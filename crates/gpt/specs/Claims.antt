-- What users rely on besides the equations of the calls. Statements only.
use Rattle.std.specs.Prelude.{◌≡◌, List, ℕ, Result}
use Rattle.gpt_model.specs.Calls.{outcome, read}
use Rattle.gpt_model.specs.Sizes.{step_by}
use Rattle.gpt_calls.specs.Answers.{reading_of}
use Rattle.gpt_copies.specs.declared.State.{State}
use Rattle.gpt_checks.specs.declared.Refusal.{Refusal}
use Rattle.gpt.specs.Parts.{entries_by, handed_part}

-- (D10), (D11) the part by what reading answered is the part that a second reading would hand back
abbrev pub EntriesOfReading : Type 0
EntriesOfReading =
    (size n : ℕ) (h t : List ℕ) (head tail : ℕ × ℕ) (r : Result State Refusal) → outcome (reading_of r) h t ≡ step_by size n h t read
    → entries_by size h t head tail r ≡ handed_part size n h t head tail
