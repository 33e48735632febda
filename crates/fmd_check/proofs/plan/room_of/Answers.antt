use Rattle.fmd_table.proofs.Table.{length-placed, placed-in}
use Rattle.fmd_check.specs.Plans.{room_of}
use borrow.Author.Tests.{lt-ltb, le-ltb}
use mathlib.Core.Path.{sym}
use Rattle.fmd_check.proofs.plan.room_of.Goals as goal

pub returns-then-i-k : goal.returns-then-i-k
unfolding room_of
returns-then-i-k c = rw (length-placed, lt-ltb _ _ c.if-i-k.true, placed-in c.args.k c.args.spots.now c.args.parent c.if-i-k.true, sym c.placed_at.ensures)

pub returns : goal.returns
unfolding room_of
returns c = rw (length-placed, le-ltb _ _ c.if-i-k.false)
