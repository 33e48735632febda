use native.Mathlib.Omega.{arith}
use Rattle.gpt_places.specs.Sides.{side_of}
use Rattle.gpt_copies.proofs.Writes.{with-table}
use Rattle.gpt_places.proofs.Places.{entries-end}
use Rattle.gpt_copies.proofs.writing.put_table.Goals as goal

pub copy-requires : goal.copy-requires
copy-requires c = omega (arith, entries-end c.args.disk.shape c.args.disk.fits.legal (side_of c.args.side))

pub returns : goal.returns
returns c =
    with-table c.args.disk.shape c.args.disk.fits.legal (side_of c.args.side) c.args.b.now c.requires.0 c.args.disk.n c.args.guid.now c.args.table.now _ _ _
    c.entries_at.ensures c.copy.ensures (c.put_header.ensures _ c.requires.1)
