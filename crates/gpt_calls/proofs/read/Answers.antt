use mathlib.Core.Path.{sym, ap, ap₂, ◌∙◌}
use Prim.Native.Nat.{ℕ}
use Rattle.gpt_model.specs.Disk.{Shape, state}
use Rattle.std.specs.Prelude.{Result}
use Rattle.gpt_model.specs.Calls.{read, outcome}
use Rattle.gpt_copies.specs.declared.State.{State}
use Rattle.gpt_checks.specs.declared.Refusal.{Refusal}
use Rattle.gpt_checks.proofs.Judged.{lent-facts}
use Rattle.gpt_calls.specs.Answers.{reading_of}
use Rattle.gpt_calls.proofs.Found.{rows-lent, found-is}
use Rattle.gpt_calls.proofs.Refusals.{stops}
use Rattle.gpt_calls.proofs.read.Goals as goal

pub returns-in_err-disk : goal.returns-in_err-disk
returns-in_err-disk c =
    let a = c.args in
    stops a.shape a.n a.head.now a.tail.now _ read _ _ c.from_residual.ensures (sym (rows-lent a.shape a.n a.head.now a.tail.now _ (sym c.in_err-disk.ensures.refused)))

pub state-requires : goal.state-requires
state-requires c =
    let a = c.args in
    let f = lent-facts a.shape a.n a.head.now a.tail.now (sym c.in_ok-disk.ensures.refused) in
    rw c.in_ok-disk.ensures.disk.0 (f.head, f.tail)

pub returns : goal.returns
returns c =
    let a = c.args in
    let is = c.in_ok-disk.ensures.disk in
    ap (λ (r : Result State Refusal). outcome (reading_of r) a.head.now a.tail.now) c.ok_or.ensures.value
    ∙ found-is a.shape a.n a.head.now a.tail.now (sym c.in_ok-disk.ensures.refused) _
    (c.state.ensures ∙ ap₂ (λ (g : Shape) (n : ℕ). state g n a.head.now a.tail.now) is.0 is.1)
