use Rattle.c_disk.proofs.Effects.{gpt-tells-done}
use Rattle.c_disk.proofs.usi_gpt_resize.Goals as goal

pub returns : goal.returns
returns c = gpt-tells-done c.resize.result _ _ _ _ c.resize.ensures c.code.ensures
