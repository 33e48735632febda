use mathlib.Core.Path.{sym, ap, ◌∙◌}
use mathlib.Core.List.{List, []}
use Prim.Native.Nat.{ℕ, ◌-◌}
use lib.ListN.{set}
use native.Mathlib.Omega.{arith}
use Rattle.gpt_model.specs.Table.{entries}
use Rattle.gpt_model.specs.Calls.{name_taken}
use Rattle.gpt_checks.proofs.Rows.{handed, one_row}
use Rattle.gpt_checks.proofs.Judged.{open-facts, delete-open, delete-slot, table_is, rename-stops, rename-goes_on}
use Rattle.gpt_checks.proofs.rename.Goals as goal

pub returns-in_err-disk-clause-refused : goal.returns-in_err-disk-clause-refused
returns-in_err-disk-clause-refused c =
    let a = c.args in
    let w = c.from_residual.ensures in
    handed _ _ w.0 w.1 ∙ rename-stops a.shape a.n a.head.now a.tail.now a.number a.name.now c.told-name _ (sym c.in_err-disk.ensures.refused)

pub returns-in_err-refuse_if-clause-refused : goal.returns-in_err-refuse_if-clause-refused
returns-in_err-refuse_if-clause-refused c =
    let a = c.args in
    let next = rename-goes_on a.shape a.n a.head.now a.tail.now a.number a.name.now c.told-name (sym c.in_ok-disk.ensures.refused) in
    grind (arith, one_row)

pub table_in-table-requires : goal.table_in-table-requires
table_in-table-requires c =
    let a = c.args in
    let o = delete-open a.shape a.n a.head.now a.tail.now a.number (sym c.in_ok-disk.ensures.refused) in
    ((open-facts a.shape a.n a.head.now a.tail.now o).head, c.requires)

pub overflow_sub-own : goal.overflow_sub-own
overflow_sub-own c =
    let a = c.args in
    let k = delete-slot a.shape a.n a.head.now a.tail.now a.number (sym c.in_ok-disk.ensures.refused) in
    omega arith

pub returns-in_err-refuse_if-2-clause-refused : goal.returns-in_err-refuse_if-2-clause-refused
returns-in_err-refuse_if-2-clause-refused c =
    let a = c.args in
    let next = rename-goes_on a.shape a.n a.head.now a.tail.now a.number a.name.now c.told-name (sym c.in_ok-disk.ensures.refused) in
    let o = delete-open a.shape a.n a.head.now a.tail.now a.number (sym c.in_ok-disk.ensures.refused) in
    let other = ap (λ (es : List ℕ). name_taken (set (entries es) (a.number - 1) []) a.name.now)
    (c.table_in-table.ensures ∙ table_is a.shape a.n a.head.now a.tail.now o) in
    grind (arith, one_row)

pub returns-clause-refused : goal.returns-clause-refused
returns-clause-refused c =
    let a = c.args in
    let next = rename-goes_on a.shape a.n a.head.now a.tail.now a.number a.name.now c.told-name (sym c.in_ok-disk.ensures.refused) in
    let o = delete-open a.shape a.n a.head.now a.tail.now a.number (sym c.in_ok-disk.ensures.refused) in
    let other = ap (λ (es : List ℕ). name_taken (set (entries es) (a.number - 1) []) a.name.now)
    (c.table_in-table.ensures ∙ table_is a.shape a.n a.head.now a.tail.now o) in
    grind (arith, one_row)
