use mathlib.Core.Path.{◌∙◌}
use Rattle.c_disk.proofs.Effects.{gpt-tells}
use Rattle.c_disk.proofs.usi_gpt_free.Goals as goal

pub returns : goal.returns
returns c = gpt-tells _ _ _ _ _ _ _ c.free_counts.ensures (c.code.ensures ∙ c.counted.ensures.code) c.counted.ensures.values
