use Rattle.std.proofs.Common.{◌∙◌, sym}
use Rattle.fmap_carry.proofs.Moves.{no-place, at-place}
use Rattle.fmap_carry.proofs.place_of.Goals as goal

pub bounds-areas-k : goal.bounds-areas-k
bounds-areas-k c = (at-place c.args.areas.now c.args.name.now _ (sym c.in_ok-k.ensures)).0

pub returns-in_err-k : goal.returns-in_err-k
returns-in_err-k c = c.from_residual.ensures ∙ sym (no-place c.args.areas.now c.args.name.now (sym c.in_err-k.ensures))

pub returns : goal.returns
returns c = rw c.extent_of.ensures (at-place c.args.areas.now c.args.name.now c.in_ok-k.k (sym c.in_ok-k.ensures)).1
