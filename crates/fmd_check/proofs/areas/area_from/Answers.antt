use Rattle.fmd_check.specs.Areas.{area_from}
use Rattle.fmd_check.proofs.areas.area_from.Goals as goal

pub returns-then-h : goal.returns-then-h
unfolding area_from
returns-then-h c = rw (c.if-h.true, c.stored_name-name.ensures)

pub returns-else-h : goal.returns-else-h
unfolding area_from
returns-else-h c = rw (c.if-h.false, c.stored_name-name.ensures)
