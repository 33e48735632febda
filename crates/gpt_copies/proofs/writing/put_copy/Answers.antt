use mathlib.Core.Path.{ap, ◌∙◌}
use Rattle.gpt_model.specs.Disk.{with_table}
use Rattle.gpt_places.specs.Sides.{side_of}
use Rattle.gpt_copies.proofs.writing.put_copy.Goals as goal

pub returns : goal.returns
returns c =
    c.put_table.ensures
    ∙ ap (with_table c.args.disk.shape c.args.disk.n (side_of c.args.side) c.args.guid.now c.args.table.now) c.clear_header.ensures
