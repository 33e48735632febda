use Rattle.c_string.proofs.Numbers.{string-tells}
use Rattle.c_string.proofs.usi_gpt_build.Goals as goal

pub returns : goal.returns
returns c = string-tells c.build.result _ _ _ _ c.build.ensures c.answered.ensures
