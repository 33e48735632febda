use Rattle.c_text.proofs.Effects.{tells}
use Rattle.c_text.proofs.usi_type_read.Goals as goal

pub returns : goal.returns
returns c = tells _ _ _ _ c.read_type.ensures c.code.ensures
