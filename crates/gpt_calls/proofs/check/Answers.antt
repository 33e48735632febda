use borrow.Author.Rules.{rules}
use Rattle.gpt_calls.proofs.Found.{found-lengths, first-is, slot_told}
use Rattle.gpt_attributes.proofs.First.{first-is as slot-is}
use mathlib.Core.Path.{sym, ap, ◌∙◌}
use Prim.Native.Nat.{ℕ}
use mathlib.Core.List.{List}
use Rattle.gpt_model.specs.Calls.{check, accepted, outcome}
use Rattle.gpt_calls.proofs.Found.{answer-refused}
use Rattle.gpt_calls.proofs.Refusals.{stops}
use Rattle.gpt_calls.proofs.check.Goals as goal

pub returns-in_err-state : goal.returns-in_err-state
returns-in_err-state c =
    let a = c.args in
    stops a.shape a.n a.head.now a.tail.now _ (check a.rule) _ _ c.from_residual.ensures (sym (answer-refused a.shape a.n a.head.now a.tail.now _ c.in_err-state.ensures))

pub used_table-requires : goal.used_table-requires
used_table-requires c =
    let a = c.args in
    (found-lengths a.shape a.n a.head.now a.tail.now _ c.in_ok-state.ensures, search rules)

pub returns : goal.returns
returns c =
    let a = c.args in
    ap (λ (vs : List ℕ). outcome (accepted vs) a.head.now a.tail.now) (slot_told _ c.first_offending.ensures)
    ∙ first-is a.shape a.n a.head.now a.tail.now _ c.in_ok-state.ensures _ _ _ _ c.used_table.ensures.part a.rule _
    (slot-is a.rule _ c.as_table-table.ensures c.first_offending.ensures)
