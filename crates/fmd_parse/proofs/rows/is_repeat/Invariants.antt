use mathlib.Core.Path.{◌≡◌}
use Rattle.fmd_table.specs.Table.{sections_in}
use Rattle.fmd_parse.specs.Rows.{repeats}
use Rattle.fmd_parse.proofs.RowLoops.{among}
use Rattle.fmd_parse.proofs.rows.is_repeat.Given as goal

abbrev pub invariant-loop-j : goal.invariant-loop-j
invariant-loop-j l = among l.text l.h l.k (sections_in l.n l.rows) l.j ≡ repeats l.text (sections_in l.n l.rows) l.k
