use Rattle.c_flash.proofs.Effects.{carry-tells}
use Rattle.c_flash.proofs.usi_fmap_carry.Goals as goal

pub returns : goal.returns
returns c = carry-tells _ _ _ _ c.carry.ensures c.carried.ensures
