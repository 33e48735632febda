use mathlib.Core.Path.{refl, sym}
use Rattle.octets.proofs.Bools.{and-t, and-f}
use Rattle.fmd_parse.specs.Rows.{holds_cbfs}
use Rattle.fmd_parse.proofs.RowLoops.{item}
use Rattle.fmd_parse.proofs.rows.holds_cbfs.Goals as goal

pub returns-then-row_at : goal.returns-then-row_at
unfolding holds_cbfs
returns-then-row_at c = rw (item c.args.n c.args.rows.now c.args.k c.requires.1, sym c.row_at.ensures) (and-t c.if-row_at.true c.has_child.ensures)

pub returns-else-row_at : goal.returns-else-row_at
unfolding holds_cbfs
returns-else-row_at c = rw (item c.args.n c.args.rows.now c.args.k c.requires.1, sym c.row_at.ensures, c.if-row_at.false) (and-f _ refl)
