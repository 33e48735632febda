use mathlib.Core.Path.{sym, ap₂, ◌∙◌}
use Prim.Native.Nat.{ℕ}
use borrow.Author.Rules.{rules}
use Rattle.octets.specs.Rows.{refusal}
use Rattle.gpt_model.specs.Disk.{Shape, last_usable}
use Rattle.gpt_model.specs.Calls.{add, start_for, table_rows}
use Rattle.gpt_checks.proofs.Rows.{handed}
use Rattle.gpt_checks.proofs.Judged.{open-facts, open-stops, own-rows, placed-in, add-lengths}
use Rattle.gpt_checks.proofs.add.Goals as goal

pub returns-in_err-disk-clause-refused : goal.returns-in_err-disk-clause-refused
returns-in_err-disk-clause-refused c =
    let a = c.args in
    let l = add-lengths a.p (search rules) (search rules) (search rules) in
    let w = c.from_residual.ensures in
    handed _ _ w.0 w.1 ∙ open-stops a.shape a.n a.head.now a.tail.now (add a.p) l _ (sym c.in_err-disk.ensures.refused)

pub table_in-table-requires : goal.table_in-table-requires
table_in-table-requires c =
    let a = c.args in
    ((open-facts a.shape a.n a.head.now a.tail.now (sym c.in_ok-disk.ensures.refused)).head, c.requires)

pub returns-in_err-first-clause-refused : goal.returns-in_err-first-clause-refused
returns-in_err-first-clause-refused c =
    let a = c.args in
    let is = c.in_ok-disk.ensures.disk in
    let tb = c.table_in-table.result.now in
    let l = add-lengths a.p (search rules) (search rules) (search rules) in
    let w = c.from_residual-in_err-first.ensures in
    handed _ _ w.0 w.1 ∙ c.in_err-first.ensures.refused
    ∙ ap₂ (λ (g : Shape) (n : ℕ). refusal (table_rows g.first (last_usable g n) tb (add a.p))) is.0 is.1
    ∙ own-rows a.shape a.n a.head.now a.tail.now (sym c.in_ok-disk.ensures.refused) (add a.p) l _ c.table_in-table.ensures

pub returns-clause-refused : goal.returns-clause-refused
returns-clause-refused c =
    let a = c.args in
    let is = c.in_ok-disk.ensures.disk in
    let tb = c.table_in-table.result.now in
    let l = add-lengths a.p (search rules) (search rules) (search rules) in
    c.in_ok-first.ensures.refused
    ∙ ap₂ (λ (g : Shape) (n : ℕ). refusal (table_rows g.first (last_usable g n) tb (add a.p))) is.0 is.1
    ∙ own-rows a.shape a.n a.head.now a.tail.now (sym c.in_ok-disk.ensures.refused) (add a.p) l _ c.table_in-table.ensures

pub returns-clause-start : goal.returns-clause-start
returns-clause-start c =
    let a = c.args in
    let is = c.in_ok-disk.ensures.disk in
    let tb = c.table_in-table.result.now in
    placed-in a.shape a.n a.head.now a.tail.now (sym c.in_ok-disk.ensures.refused) _ c.table_in-table.ensures a.p _
    (sym (ap₂ (λ (g : Shape) (n : ℕ). start_for g.first (last_usable g n) tb a.p) is.0 is.1) ∙ c.in_ok-first.ensures.start)
