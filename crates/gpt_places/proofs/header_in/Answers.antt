use mathlib.Core.Path.{refl}
use native.Mathlib.Omega.{arith}
use Rattle.gpt_places.specs.Sides.{side_of}
use Rattle.gpt_places.proofs.Places.{header-end, cut}
use Rattle.gpt_places.proofs.header_in.Goals as goal

pub overflow_add-end : goal.overflow_add-end
overflow_add-end c = omega (arith, header-end c.args.shape c.requires.1 (side_of c.args.side))

pub slice_bounds-result-end : goal.slice_bounds-result-end
slice_bounds-result-end c = omega (arith, header-end c.args.shape c.requires.1 (side_of c.args.side))

pub returns : goal.returns
returns c = cut c.args.b.now _ _ _ _ c.header_at-at.ensures refl
