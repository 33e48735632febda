use Rattle.fmd_table.proofs.Table.{length-sections}
use Rattle.fmd_table.proofs.Table.{placed-in}
use Rattle.octets.specs.Tests.{◌or◌}
use mathlib.Core.Path.{sym, ◌∙◌}
use Rattle.fmd_check.proofs.no_map.Goals as goal

pub returns-then-has_child : goal.returns-then-has_child
unfolding ◌or◌
returns-then-has_child c = rw (sym c.has_child.ensures ∙ c.if-has_child.true)

pub returns : goal.returns
unfolding ◌or◌
returns c = rw (
  sym c.has_child.ensures ∙ c.if-has_child.false,
  placed-in c.args.n c.args.spots.now c.args.k c.requires.3,
  sym c.placed_at.ensures,
  length-sections,
)
