use Rattle.std.proofs.Common.{arith}
use Rattle.std.proofs.lemmas.Grind.{common_steps}
use Rattle.octets.specs.Tests.{◌or◌}
use Rattle.fmap_rules.specs.Map.{disjoint_or_nested}
use Rattle.fmap_rules.proofs.Extent.is_disjoint_or_nested.Goals as goal

pub returns-then-is_inside : goal.returns-then-is_inside
unfolding disjoint_or_nested ◌or◌
returns-then-is_inside c = grind (arith, common_steps)

pub returns-else-is_inside : goal.returns-else-is_inside
unfolding disjoint_or_nested ◌or◌
returns-else-is_inside c = grind (arith, common_steps)
