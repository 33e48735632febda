use mathlib.Core.Path.{◌≡◌}
use Prim.Native.Nat.{◌-◌}
use Rattle.fmd_table.specs.Table.{sections_in}
use Rattle.fmd_parse.specs.Rows.{found_from, is_fmap, fmap_in}
use Rattle.fmd_parse.proofs.rows.find_fmap.Given as goal

abbrev pub invariant-loop-k : goal.invariant-loop-k
invariant-loop-k l = found_from (is_fmap l.text (sections_in l.n l.rows)) (l.n - l.k) l.k ≡ fmap_in l.text (sections_in l.n l.rows)
