use mathlib.Core.Path.{sym, ◌∙◌}
use Rattle.octets.specs.Bytes.{part}
use Rattle.gpt_model.proofs.Entries.{unused-type}
use Rattle.gpt_table.proofs.is_unused.Goals as goal

pub returns : goal.returns
unfolding part
returns c = c.is_zero.ensures ∙ sym (unused-type _)
