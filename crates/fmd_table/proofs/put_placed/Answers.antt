use Rattle.fmd_table.proofs.Table.{placed_put}
use Rattle.fmd_table.proofs.put_placed.Goals as goal

pub returns : goal.returns
returns c = placed_put _ _ _ c.requires
