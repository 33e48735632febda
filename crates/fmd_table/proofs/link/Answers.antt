use Rattle.std.specs.Prelude.{None}
use mathlib.Core.Path.{◌≡◌}
use lib.ListN.{get_or}
use Rattle.fmd_table.specs.Table.{blank_row}
use native.Mathlib.Omega.{arith}
use borrow.Author.Rules.{rules}
use Rattle.fmd_table.specs.Invariants.{last_link, linked_to}
use Rattle.fmd_table.proofs.link.Goals as goal
use Rattle.fmd_table.proofs.link.Goals.{in-Some, in_default}

pub bounds-rows-last : goal.bounds-rows-last
unfolding last_link
bounds-rows-last c = let b = rw c.in-Some.is at c.requires.3 in omega arith

pub returns : goal.returns
unfolding linked_to last_link
returns c =
    elim c.match-rows-parent.branch [
      | in-Some w ↦ rw (w.rows-is, w.in-Some.is)
      | in_default w ↦
          let e : (get_or c.args.rows.now c.args.parent blank_row).last ≡ None = search rules in
          rw (w.rows-is, e)
    ]
