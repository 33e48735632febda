-- The block size that a caller names: its shape, and each call by it. Definitions only.
use Rattle.std.specs.Prelude.{cond, List, ℕ, eqb, Option, None, Some}
use Rattle.gpt_model.specs.Disk.{Shape, disk512, disk4096}
use Rattle.gpt_model.specs.Calls.{Call, refused, Outcome, outcome, step, format}

-- l3: The caller names the block size.
unfoldable pub shape_of : ℕ → Option Shape
shape_of size = cond (eqb size disk512.block) (Some disk512) (cond (eqb size disk4096.block) (Some disk4096) None)

-- l7: 6 for another block size, before all others. Where the size has a shape, the outcome is o of it
abbrev pub on_shape : Option Shape → List ℕ → List ℕ → (Shape → Outcome) → Outcome
on_shape None h t o = outcome (refused 6) h t
on_shape (Some g) h t o = o g

unfoldable pub step_by : ℕ → ℕ → List ℕ → List ℕ → Call → Outcome
step_by size n h t c = on_shape (shape_of size) h t (λ g. step g n h t c)

unfoldable pub format_by : ℕ → ℕ → List ℕ → List ℕ → List ℕ → Outcome
format_by size n guid h t = on_shape (shape_of size) h t (λ g. format g n guid h t)
