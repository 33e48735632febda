use mathlib.Core.Path.{refl}
use Prim.Native.Nat.{◌+◌, ◌≤◌}
use native.Mathlib.Omega.{arith}
use lib.ListN.{length}
use Rattle.gpt_places.specs.Sides.{side_of}
use Rattle.gpt_places.proofs.Places.{entries-end, cut, length_cut, part-behind}
use Rattle.gpt_places.proofs.entries_in.Goals as goal

pub overflow_add-end : goal.overflow_add-end
overflow_add-end c = omega (arith, entries-end c.args.shape c.requires.1 (side_of c.args.side))

pub slice_bounds-result-end : goal.slice_bounds-result-end
slice_bounds-result-end c = omega (arith, entries-end c.args.shape c.requires.1 (side_of c.args.side))

pub returns : goal.returns
returns c =
    let b = c.args.b.now in
    let k = entries-end c.args.shape c.requires.1 (side_of c.args.side) in
    let w : c.entries_at-at.result + 16384 ≤ length b = omega arith in
    (cut b _ _ _ _ c.entries_at-at.ensures refl, length_cut b c.entries_at-at.result _ _ refl w, part-behind c.args.b.ref_ptr _ _ c.entries_at-at.ensures)
