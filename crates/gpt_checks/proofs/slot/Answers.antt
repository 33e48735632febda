use native.Mathlib.Omega.{arith}
use Rattle.gpt_checks.proofs.Rows.{slot-passes}
use Rattle.gpt_checks.proofs.slot.Goals as goal

pub overflow_sub-number : goal.overflow_sub-number
overflow_sub-number c = (slot-passes c.args.number c.is_slot.ensures c.in_ok-refuse_if.ensures).0

pub offset_bounds-as_table-number : goal.offset_bounds-as_table-number
offset_bounds-as_table-number c = let k = slot-passes c.args.number c.is_slot.ensures c.in_ok-refuse_if.ensures in omega arith

pub bounds-as_table-number : goal.bounds-as_table-number
bounds-as_table-number c = let k = slot-passes c.args.number c.is_slot.ensures c.in_ok-refuse_if.ensures in omega arith
