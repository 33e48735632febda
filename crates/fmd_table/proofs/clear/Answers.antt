use mathlib.Core.Path.{refl}
use Rattle.fmd_table.proofs.Links.{none-linked}
use Rattle.fmd_table.proofs.clear.Goals as goal

pub returns : goal.returns
returns c = none-linked c.args.rows.now _ c.requires refl
