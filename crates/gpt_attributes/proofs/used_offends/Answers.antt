use mathlib.Core.Bool.{not}
use mathlib.Core.Path.{sym, ap, ◌∙◌}
use Rattle.octets.proofs.Bools.{and-f, and-t}
use Rattle.gpt_model.specs.Attributes.{offends}
use Rattle.gpt_attributes.proofs.used_offends.Goals as goal

pub returns-then-not-is_unused : goal.returns-then-not-is_unused
returns-then-not-is_unused c = and-t (ap not (sym c.is_unused.ensures ∙ c.if-not-is_unused.true)) (c.offends.ensures ∙ ap (offends c.args.rule) c.load.ensures)

pub returns-else-not-is_unused : goal.returns-else-not-is_unused
returns-else-not-is_unused c = ap not c.if-not-is_unused.false ∙ and-f _ (ap not (sym c.is_unused.ensures ∙ c.if-not-is_unused.false))
