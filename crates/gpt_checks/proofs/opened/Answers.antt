use mathlib.Core.Path.{sym, ap₂, ◌∙◌}
use Prim.Native.Nat.{ℕ}
use Rattle.gpt_model.specs.Disk.{Shape, state}
use Rattle.gpt_checks.proofs.Rows.{handed}
use Rattle.gpt_checks.proofs.Judged.{lent-facts, open-neither, open-differ}
use Rattle.gpt_checks.proofs.opened.Goals as goal

pub state-requires : goal.state-requires
state-requires c =
    let a = c.args in
    let f = lent-facts a.shape a.n a.head.now a.tail.now (sym c.in_ok-disk.ensures.refused) in
    rw c.in_ok-disk.ensures.disk.0 (f.head, f.tail)

pub returns-in_err-state-clause-refused : goal.returns-in_err-state-clause-refused
returns-in_err-state-clause-refused c =
    let a = c.args in
    let is = c.in_ok-disk.ensures.disk in
    let found = c.state.ensures ∙ ap₂ (λ (g : Shape) (n : ℕ). state g n a.head.now a.tail.now) is.0 is.1 in
    let w = c.from_residual-in_err-state.ensures in
    handed _ _ w.0 w.1 ∙ open-neither a.shape a.n a.head.now a.tail.now (sym c.in_ok-disk.ensures.refused) _ found _ c.in_err-state.ensures.value

pub returns-in_err-refuse_if-clause-refused : goal.returns-in_err-refuse_if-clause-refused
returns-in_err-refuse_if-clause-refused c =
    let a = c.args in
    let is = c.in_ok-disk.ensures.disk in
    let found = c.state.ensures ∙ ap₂ (λ (g : Shape) (n : ℕ). state g n a.head.now a.tail.now) is.0 is.1 in
    let w = c.from_residual-in_err-refuse_if.ensures in
    handed _ _ w.0 w.1 ∙ c.in_err-refuse_if.ensures
    ∙ open-differ a.shape a.n a.head.now a.tail.now (sym c.in_ok-disk.ensures.refused) _ found _ c.in_ok-state.ensures.value _ c.ne.ensures

pub returns-clause-refused : goal.returns-clause-refused
returns-clause-refused c =
    let a = c.args in
    let is = c.in_ok-disk.ensures.disk in
    let found = c.state.ensures ∙ ap₂ (λ (g : Shape) (n : ℕ). state g n a.head.now a.tail.now) is.0 is.1 in
    c.in_ok-refuse_if.ensures
    ∙ open-differ a.shape a.n a.head.now a.tail.now (sym c.in_ok-disk.ensures.refused) _ found _ c.in_ok-state.ensures.value _ c.ne.ensures
