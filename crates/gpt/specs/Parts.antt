-- (W9) The part of head or tail that reading hands back, by the block size that the caller names. Definitions only.
use Rattle.std.specs.Prelude.{List, ℕ, Option, None, Some, Result}
use Rattle.gpt_model.specs.Disk.{Shape}
use Rattle.gpt_model.specs.Sizes.{shape_of}
use Rattle.gpt_calls.specs.Answers.{Handed, nothing, entries_on, handed_on}
use Rattle.gpt_copies.specs.declared.State.{State}
use Rattle.gpt_checks.specs.declared.Refusal.{Refusal}

-- l7: 6 for another block size: nothing is handed back
abbrev pub part_on : Option Shape → ℕ × ℕ → (Shape → Handed) → Handed
part_on None head p = nothing head
part_on (Some g) head p = p g

-- by what reading answered
abbrev pub entries_by : ℕ → List ℕ → List ℕ → ℕ × ℕ → ℕ × ℕ → Result State Refusal → Handed
entries_by size h t head tail r = part_on (shape_of size) head (λ g. entries_on g h t head tail r)

abbrev pub handed_part : ℕ → ℕ → List ℕ → List ℕ → ℕ × ℕ → ℕ × ℕ → Handed
handed_part size n h t head tail = part_on (shape_of size) head (λ g. handed_on g h t head tail n)
