use mathlib.Core.Path.{◌≡◌}
use Prim.Native.Nat.{◌-◌}
use Rattle.fmd_table.specs.Table.{sections_in}
use Rattle.fmd_parse.specs.Rows.{found_from, undecided}
use Rattle.fmd_parse.proofs.rows.first_undecided.Given as goal

abbrev pub invariant-loop-k : goal.invariant-loop-k
invariant-loop-k l = found_from (undecided (sections_in l.n l.rows)) (l.n - l.k) l.k ≡ found_from (undecided (sections_in l.n l.rows)) (l.n - l.at) l.at
