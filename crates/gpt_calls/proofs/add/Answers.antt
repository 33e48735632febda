use mathlib.Core.Path.{sym, ap₂, ◌∙◌}
use Prim.Native.Nat.{ℕ}
use Rattle.gpt_model.specs.Disk.{Shape}
use Rattle.gpt_model.specs.Calls.{edit, add, step}
use Rattle.gpt_calls.proofs.Refusals.{stops}
use Rattle.gpt_calls.proofs.add.Goals as goal

pub returns-in_err-start : goal.returns-in_err-start
returns-in_err-start c =
    let a = c.args in
    stops a.shape a.n a.head.now a.tail.now _ (edit (add a.p)) _ _ c.from_residual.ensures c.in_err-start.ensures.refused

pub add-slot-requires : goal.add-slot-requires
add-slot-requires c =
    let is = c.in_ok-start.ensures.disk in
    rw (is.0, is.1) (sym c.in_ok-start.ensures.refused, c.in_ok-start.ensures.start)

pub returns : goal.returns
returns c =
    let a = c.args in
    let is = c.in_ok-start.ensures.disk in
    c.add-slot.ensures ∙ ap₂ (λ (g : Shape) (n : ℕ). step g n a.head.now a.tail.now (edit (add a.p))) is.0 is.1
