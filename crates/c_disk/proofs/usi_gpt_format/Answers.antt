use Rattle.c_disk.proofs.Lengths.{format-wrong, format-on}
use Rattle.c_disk.proofs.Effects.{gpt-tells-done}
use Rattle.c_disk.proofs.usi_gpt_format.Goals as goal

pub returns-in_default : goal.returns-in_default
returns-in_default c = format-wrong _ _ _ _ _ c.wrong_length.ensures _ c.in_default.ensures.1

pub returns : goal.returns
returns c = gpt-tells-done c.format.result _ _ _ _ (format-on _ _ _ _ _ _ c.in-Ok.ensures.1.same c.format.ensures) c.code.ensures
