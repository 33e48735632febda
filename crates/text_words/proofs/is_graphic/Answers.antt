use mathlib.Core.Path.{◌∙◌}
use Rattle.text_words.proofs.Classes.{and_std}
use Rattle.text_words.proofs.is_graphic.Goals as goal

pub returns : goal.returns
returns c = c.is_ascii_graphic.ensures.value ∙ and_std _ _
