use mathlib.Core.Path.{◌≡◌}
use Prim.Native.Nat.{◌-◌}
use Rattle.fmd_table.specs.Table.{sections_in}
use Rattle.fmd_parse.specs.Rows.{found_from, holds_cbfs, first_cbfs}
use Rattle.fmd_parse.proofs.rows.first_cbfs.Given as goal

abbrev pub invariant-loop-k : goal.invariant-loop-k
invariant-loop-k l = found_from (holds_cbfs (sections_in l.n l.rows)) (l.n - l.k) l.k ≡ first_cbfs (sections_in l.n l.rows)
