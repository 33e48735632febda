use Rattle.c_text.proofs.Effects.{tells}
use Rattle.c_text.proofs.usi_guid_write.Goals as goal

pub returns : goal.returns
returns c = tells _ _ _ _ c.write.ensures c.code.ensures
