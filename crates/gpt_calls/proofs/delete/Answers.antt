use mathlib.Core.Path.{sym, ap₂, ◌∙◌}
use Prim.Native.Nat.{ℕ}
use Rattle.gpt_model.specs.Disk.{Shape}
use Rattle.gpt_model.specs.Calls.{edit, delete, step}
use Rattle.gpt_calls.proofs.Refusals.{stops}
use Rattle.gpt_calls.proofs.delete.Goals as goal

pub returns-in_err-disk : goal.returns-in_err-disk
returns-in_err-disk c =
    let a = c.args in
    stops a.shape a.n a.head.now a.tail.now _ (edit (delete a.slot)) _ _ c.from_residual.ensures c.in_err-disk.ensures.refused

pub delete-requires-2 : goal.delete-requires-2
delete-requires-2 c =
    let is = c.in_ok-disk.ensures.disk in
    rw (is.0, is.1) (sym c.in_ok-disk.ensures.refused)

pub returns : goal.returns
returns c =
    let a = c.args in
    let is = c.in_ok-disk.ensures.disk in
    c.delete-2.ensures ∙ ap₂ (λ (g : Shape) (n : ℕ). step g n a.head.now a.tail.now (edit (delete a.slot))) is.0 is.1
