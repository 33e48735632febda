use mathlib.Core.Path.{◌∙◌}
use Rattle.c_disk.proofs.Effects.{gpt-tells}
use Rattle.c_disk.proofs.usi_gpt_repair.Goals as goal

pub returns : goal.returns
returns c = gpt-tells _ _ _ _ _ _ _ c.repair.ensures (c.code.ensures ∙ c.reading.ensures.code) c.reading.ensures.values
