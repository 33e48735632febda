use mathlib.Core.Path.{sym, ◌∙◌}
use native.Mathlib.Omega.{arith}
use Rattle.gpt_checks.proofs.Rows.{handed, one_row, size-passes}
use Rattle.gpt_checks.proofs.Judged.{open-facts, delete-open, delete-slot, table_is, resize-stops, resize-goes_on}
use Rattle.gpt_checks.proofs.resize.Goals as goal

pub returns-in_err-disk-clause-refused : goal.returns-in_err-disk-clause-refused
returns-in_err-disk-clause-refused c =
    let a = c.args in
    let w = c.from_residual.ensures in
    handed _ _ w.0 w.1 ∙ resize-stops a.shape a.n a.head.now a.tail.now a.number a.size _ (sym c.in_err-disk.ensures.refused)

pub returns-in_err-refuse_if-clause-refused : goal.returns-in_err-refuse_if-clause-refused
returns-in_err-refuse_if-clause-refused c =
    let a = c.args in
    let next = resize-goes_on a.shape a.n a.head.now a.tail.now a.number a.size (sym c.in_ok-disk.ensures.refused) in
    grind (arith, one_row)

pub table_in-table-requires : goal.table_in-table-requires
table_in-table-requires c =
    let a = c.args in
    let o = delete-open a.shape a.n a.head.now a.tail.now a.number (sym c.in_ok-disk.ensures.refused) in
    ((open-facts a.shape a.n a.head.now a.tail.now o).head, c.requires)

pub fits_at-requires : goal.fits_at-requires
fits_at-requires c =
    let a = c.args in
    let d = sym c.in_ok-disk.ensures.refused in
    let o = open-facts a.shape a.n a.head.now a.tail.now (delete-open a.shape a.n a.head.now a.tail.now a.number d) in
    let k = delete-slot a.shape a.n a.head.now a.tail.now a.number d in
    let e = c.last_usable.ensures in
    (k.0, k.1, size-passes a.size c.in_ok-refuse_if.ensures, omega arith)

pub returns-in_err-refuse_if-2-clause-refused : goal.returns-in_err-refuse_if-2-clause-refused
returns-in_err-refuse_if-2-clause-refused c =
    let a = c.args in
    let next = resize-goes_on a.shape a.n a.head.now a.tail.now a.number a.size (sym c.in_ok-disk.ensures.refused) in
    let o = delete-open a.shape a.n a.head.now a.tail.now a.number (sym c.in_ok-disk.ensures.refused) in
    let table = c.table_in-table.ensures ∙ table_is a.shape a.n a.head.now a.tail.now o in
    grind (arith, one_row)

pub returns-clause-refused : goal.returns-clause-refused
returns-clause-refused c =
    let a = c.args in
    let next = resize-goes_on a.shape a.n a.head.now a.tail.now a.number a.size (sym c.in_ok-disk.ensures.refused) in
    let o = delete-open a.shape a.n a.head.now a.tail.now a.number (sym c.in_ok-disk.ensures.refused) in
    let table = c.table_in-table.ensures ∙ table_is a.shape a.n a.head.now a.tail.now o in
    grind (arith, one_row)
