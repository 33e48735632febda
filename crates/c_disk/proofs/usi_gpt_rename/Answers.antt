use Rattle.c_disk.proofs.Lengths.{rename-wrong, rename-on}
use Rattle.c_disk.proofs.Effects.{gpt-tells-done}
use Rattle.c_disk.proofs.usi_gpt_rename.Goals as goal

pub returns-in_default : goal.returns-in_default
returns-in_default c = rename-wrong _ _ _ _ _ c.wrong_length.ensures _ _ c.in_default.ensures.1

pub returns : goal.returns
returns c = gpt-tells-done c.rename.result _ _ _ _ (rename-on _ _ _ _ _ _ _ c.in-Ok.ensures.1.same c.rename.ensures) c.code.ensures
