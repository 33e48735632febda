use mathlib.Core.Path.{◌∙◌}
use Rattle.gpt_places.specs.Sides.{side_of}
use Rattle.gpt_copies.proofs.Writes.{filled, fresh}
use Rattle.gpt_copies.proofs.writing.fresh.Goals as goal

pub returns : goal.returns
returns c =
    fresh c.args.disk.shape c.args.disk.n c.args.guid.now c.args.disk.fits.legal (side_of c.args.side) _ _ _ _ _
    (c.fill.ensures ∙ filled c.args.b.now _ c.requires.0) c.table_in.ensures c.crc32-crc.ensures c.put_block0.ensures c.put_header.ensures
