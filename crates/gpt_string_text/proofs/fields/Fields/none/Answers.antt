use Rattle.gpt_string_text.proofs.Taken.{none_said}
use Rattle.gpt_string_text.proofs.fields.Fields.none.Goals as goal

pub returns : goal.returns
returns c = none_said
