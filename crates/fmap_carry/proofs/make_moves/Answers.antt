use Rattle.std.proofs.Common.{arith, ℕ, length-drop}
use lib.ListN.{length-take}
use Rattle.fmap_carry.proofs.Moves.{lies-at, moved-next, moved-over}
use Rattle.fmap_carry.proofs.make_moves.Goals as goal

pub slice_bounds-copy-end : goal.slice_bounds-copy-end
slice_bounds-copy-end c = omega (arith, (lies-at c.args.old.now c.args.moves.now c.loop-m.m-index (omega arith) _ c.requires).0)

pub copy-requires : goal.copy-requires
copy-requires c =
    omega (arith, length-take {A = ℕ}, length-drop {A = ℕ}, (lies-at c.args.old.now c.args.moves.now c.loop-m.m-index (omega arith) _ c.requires))

pub loop-m-preserved : goal.loop-m-preserved
loop-m-preserved c = moved-next c.args.old.now c.args.moves.now c.loop-m.m-index (omega arith) _ _ _ c.copy.ensures c.loop-m.invariant

pub returns : goal.returns
returns c = moved-over _ _ c.loop-m.m-index _ _ (omega arith) c.loop-m.invariant
