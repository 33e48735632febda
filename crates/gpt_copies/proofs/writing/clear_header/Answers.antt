use native.Mathlib.Omega.{arith}
use Rattle.gpt_places.specs.Sides.{side_of}
use Rattle.gpt_copies.proofs.Writes.{block-cleared}
use Rattle.gpt_places.proofs.Places.{block-end}
use Rattle.gpt_copies.proofs.writing.clear_header.Goals as goal

pub overflow_add-end : goal.overflow_add-end
overflow_add-end c = omega (arith, block-end c.args.shape c.requires.1 (side_of c.args.side))

pub slice_bounds-fill-end : goal.slice_bounds-fill-end
slice_bounds-fill-end c = omega (arith, block-end c.args.shape c.requires.1 (side_of c.args.side))

pub returns : goal.returns
returns c =
    block-cleared c.args.shape c.requires.1 (side_of c.args.side) c.args.b.now c.requires.0 _ _ c.header_at-at.ensures c.fill.ensures
