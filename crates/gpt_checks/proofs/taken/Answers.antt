use mathlib.Core.Path.{sym, ◌∙◌}
use Rattle.octets.proofs.Bools.{or-t, or-f}
use Rattle.gpt_checks.proofs.Rows.{unique-is}
use Rattle.gpt_checks.proofs.taken.Goals as goal

pub returns-then-is_zero : goal.returns-then-is_zero
returns-then-is_zero c = c.if-is_zero.true ∙ or-t _ (sym c.is_zero.ensures ∙ c.if-is_zero.true)

pub returns-else-is_zero : goal.returns-else-is_zero
returns-else-is_zero c =
    let a = c.args in
    or-f (sym c.is_zero.ensures ∙ c.if-is_zero.false) (unique-is a.table.now a.unique.now _ _ c.told-unique c.as_table.ensures c.carried.ensures)
