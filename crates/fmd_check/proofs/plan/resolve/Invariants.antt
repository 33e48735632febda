use Rattle.fmd_check.specs.Plans.{resolve_from}
use Rattle.fmd_table.specs.Table.{sections_in, placed_in}
use lib.ListN.{drop}
use mathlib.Core.Path.{◌≡◌}
use mathlib.Core.List.{[]}
use Rattle.fmd_check.proofs.plan.resolve.Given as goal

abbrev pub invariant-loop-k : goal.invariant-loop-k
invariant-loop-k l = resolve_from l.size (placed_in l.k l.spots) (drop l.k (sections_in l.n l.rows)) ≡ resolve_from l.size [] (sections_in l.n l.rows)
