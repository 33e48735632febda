use mathlib.Core.Path.{◌∙◌}
use Rattle.gpt_places.specs.Sides.{side_of}
use Rattle.gpt_copies.proofs.Writes.{filled, built}
use Rattle.gpt_copies.proofs.writing.put_built.Goals as goal

pub returns : goal.returns
returns c =
    built c.args.disk.shape c.args.disk.n c.args.guid.now (side_of c.args.side) c.args.table.now _ _ _
    (c.fill.ensures ∙ filled c.args.b.now _ c.requires.0) c.put_block0.ensures c.put_table.ensures
