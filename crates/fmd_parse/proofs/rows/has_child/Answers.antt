use Rattle.fmd_parse.proofs.RowLoops.{child-is}
use Rattle.fmd_parse.proofs.rows.has_child.Goals as goal

pub returns : goal.returns
returns c = rw c.is_some.ensures (rw c.last_at.ensures (child-is _ _ c.requires.2 _ c.requires.1))
