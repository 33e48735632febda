use Rattle.fmd_check.specs.Plans.{sibling_end}
use Rattle.fmd_table.specs.Table.{placed_in}
use mathlib.Core.Path.{◌≡◌}
use Rattle.fmd_check.proofs.plan.end_in.Given as goal

abbrev pub invariant-loop-j : goal.invariant-loop-j
invariant-loop-j l = sibling_end l.parent 0 (placed_in l.j l.spots) ≡ sibling_end l.parent 0 (placed_in l.k l.spots)
