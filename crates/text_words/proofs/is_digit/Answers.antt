use mathlib.Core.Path.{◌∙◌}
use Rattle.text_words.specs.Classes.{is_digit}
use Rattle.text_words.proofs.Classes.{and_std}
use Rattle.text_words.proofs.is_digit.Goals as goal

pub returns : goal.returns
unfolding is_digit
returns c = c.is_ascii_digit.ensures.value ∙ and_std _ _
