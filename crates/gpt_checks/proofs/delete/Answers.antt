use mathlib.Core.Path.{refl, sym, ◌∙◌}
use Rattle.gpt_checks.proofs.Rows.{handed}
use Rattle.gpt_checks.proofs.Judged.{open-facts, open-stops, own-rows}
use Rattle.gpt_model.specs.Calls.{delete}
use Rattle.gpt_checks.proofs.delete.Goals as goal

pub returns-in_err-disk-clause-refused : goal.returns-in_err-disk-clause-refused
returns-in_err-disk-clause-refused c =
    let a = c.args in
    let w = c.from_residual.ensures in
    handed _ _ w.0 w.1 ∙ open-stops a.shape a.n a.head.now a.tail.now (delete a.number) refl _ (sym c.in_err-disk.ensures.refused)

pub table_in-requires : goal.table_in-requires
table_in-requires c =
    let a = c.args in
    ((open-facts a.shape a.n a.head.now a.tail.now (sym c.in_ok-disk.ensures.refused)).head, c.requires)

pub returns-in_err-slot-clause-refused : goal.returns-in_err-slot-clause-refused
returns-in_err-slot-clause-refused c =
    let a = c.args in
    let w = c.from_residual-in_err-slot.ensures in
    handed _ _ w.0 w.1 ∙ c.in_err-slot.ensures
    ∙ own-rows a.shape a.n a.head.now a.tail.now (sym c.in_ok-disk.ensures.refused) (delete a.number) refl _ c.table_in.ensures

pub returns-clause-refused : goal.returns-clause-refused
returns-clause-refused c =
    let a = c.args in
    c.in_ok-slot.ensures ∙ own-rows a.shape a.n a.head.now a.tail.now (sym c.in_ok-disk.ensures.refused) (delete a.number) refl _ c.table_in.ensures
