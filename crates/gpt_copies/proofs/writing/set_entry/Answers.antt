use mathlib.Core.Path.{◌∙◌}
use native.Mathlib.Omega.{arith}
use Rattle.gpt_places.specs.Sides.{side_of}
use Rattle.gpt_copies.proofs.Writes.{entry-put}
use Rattle.gpt_places.proofs.Places.{entries-end}
use Rattle.gpt_copies.proofs.writing.set_entry.Goals as goal

pub overflow_add-at : goal.overflow_add-at
overflow_add-at c = omega (arith, entries-end c.args.shape c.requires.2 (side_of c.args.side))

pub copy-requires : goal.copy-requires
copy-requires c = omega (arith, entries-end c.args.shape c.requires.2 (side_of c.args.side))

pub returns : goal.returns
returns c =
    c.copy.ensures ∙ entry-put c.args.shape c.requires.2 (side_of c.args.side) c.args.b.now c.requires.0 c.args.i _ c.args.e.now c.requires.1 c.told-e
    c.entries_at.ensures
