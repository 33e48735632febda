use Rattle.std.proofs.Common.{◌∙◌}
use Rattle.c_flash.proofs.Effects.{position-by}
use Rattle.c_flash.proofs.position_of.Goals as goal

pub returns : goal.returns
returns c = c.unwrap_or.ensures ∙ position-by c.try_from.result c.args.n c.try_from.ensures
