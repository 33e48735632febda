use Rattle.fmd_parse.proofs.RowLoops.{item}
use Rattle.fmd_check.specs.Plans.{spot_for}
use mathlib.Core.Path.{sym}
use Rattle.fmd_check.proofs.plan.place_at.Goals as goal

pub returns : goal.returns
unfolding spot_for
returns c = rw (
  item c.args.n c.args.rows.now c.args.k c.requires.2,
  sym c.row_at-h.ensures,
  sym c.end_in-e.ensures.0,
  sym c.room_of-room.ensures,
  sym c.reach_of-reach.ensures,
) c.spot_in.ensures
