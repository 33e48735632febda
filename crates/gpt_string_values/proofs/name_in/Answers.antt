use mathlib.Core.Path.{sym, ◌∙◌}
use Rattle.gpt_string_model.proofs.Asked.{name-length}
use Rattle.gpt_string_values.proofs.name_in.Goals as goal

pub name_units-requires : goal.name_units-requires
name_units-requires c = name-length _ (sym c.is_name.ensures ∙ c.if-is_name.true)
