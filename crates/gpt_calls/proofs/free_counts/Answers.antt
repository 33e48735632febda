use borrow.Author.Rules.{rules}
use Rattle.gpt_model.specs.Calls.{outcome}
use Rattle.gpt_room.specs.declared.Free.{Free}
use Rattle.gpt_calls.specs.Answers.{counted_of}
use Rattle.std.specs.Prelude.{Ok}
use Rattle.gpt_calls.proofs.Found.{found-lent, found-lengths, counts-are}
use mathlib.Core.Path.{sym, ap, ◌∙◌}
use Rattle.gpt_model.specs.Calls.{free_counts}
use Rattle.gpt_calls.proofs.Found.{answer-refused}
use Rattle.gpt_calls.proofs.Refusals.{stops}
use Rattle.gpt_calls.proofs.free_counts.Goals as goal

pub returns-in_err-state : goal.returns-in_err-state
returns-in_err-state c =
    let a = c.args in
    stops a.shape a.n a.head.now a.tail.now _ free_counts _ _ c.from_residual.ensures (sym (answer-refused a.shape a.n a.head.now a.tail.now _ c.in_err-state.ensures))

pub used_table-requires : goal.used_table-requires
used_table-requires c =
    let a = c.args in
    (found-lengths a.shape a.n a.head.now a.tail.now _ c.in_ok-state.ensures, search rules)

pub invariant_of-disk : goal.invariant_of-disk
invariant_of-disk c =
    let a = c.args in
    record { fits = record { legal = search rules; least = (found-lent a.shape a.n a.head.now a.tail.now _ c.in_ok-state.ensures).least } }

pub returns : goal.returns
returns c =
    let a = c.args in
    ap (λ (f : Free). outcome (counted_of (Ok f)) a.head.now a.tail.now) (rw c.as_table-table.ensures at c.free_counts.ensures)
    ∙ counts-are a.shape a.n a.head.now a.tail.now _ c.in_ok-state.ensures _ _ _ _ c.used_table.ensures.part _ _
    c.first_usable.ensures c.last_usable.ensures
