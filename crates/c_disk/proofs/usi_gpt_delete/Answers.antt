use Rattle.c_disk.proofs.Effects.{gpt-tells-done}
use Rattle.c_disk.proofs.usi_gpt_delete.Goals as goal

pub returns : goal.returns
returns c = gpt-tells-done c.delete.result _ _ _ _ c.delete.ensures c.code.ensures
