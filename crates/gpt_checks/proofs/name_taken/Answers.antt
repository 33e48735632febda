use mathlib.Core.Path.{sym, ◌∙◌}
use Rattle.gpt_table.specs.Invariants.{without}
use Rattle.gpt_model.specs.Table.{entries}
use Rattle.gpt_checks.proofs.Rows.{name-empty, name_is}
use Rattle.gpt_checks.proofs.name_taken.Goals as goal

pub returns-else-not-is_zero : goal.returns-else-not-is_zero
returns-else-not-is_zero c =
    let a = c.args in
    rw c.if-not-is_zero.false
    (name-empty (without a.but (entries a.table.now)) a.name.now _ c.name_bytes-bytes.ensures.0 (sym c.is_zero.ensures ∙ c.if-not-is_zero.false))

pub returns-then-not-is_zero : goal.returns-then-not-is_zero
returns-then-not-is_zero c =
    let a = c.args in
    let bytes = c.name_bytes-bytes.ensures in
    name_is (without a.but (entries a.table.now)) a.name.now _ bytes.0 bytes.1 (sym c.is_zero.ensures ∙ c.if-not-is_zero.true) _
    (rw c.as_table.ensures at c.carried.ensures)
