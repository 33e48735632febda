use mathlib.Core.Path.{◌≡◌}
use Prim.Native.Nat.{◌-◌}
use lib.ListN.{length}
use Rattle.fmd_table.specs.Table.{sections_in}
use Rattle.fmd_parse.specs.Rows.{found_from, repeats, first_repeat}
use Rattle.fmd_parse.specs.Invariants.{Seen}
use Rattle.fmd_parse.proofs.rows.first_repeat.Given as goal

abbrev pub invariant-loop-k : goal.invariant-loop-k
invariant-loop-k l =
    (length l.seen ≡ 2048) × Seen l.text (sections_in l.n l.rows) l.k l.seen
    × (found_from (repeats l.text (sections_in l.n l.rows)) (l.n - l.k) l.k ≡ first_repeat l.text (sections_in l.n l.rows))
