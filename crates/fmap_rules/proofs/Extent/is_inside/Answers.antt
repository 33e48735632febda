use Rattle.std.proofs.Common.{arith}
use Rattle.std.proofs.lemmas.Grind.{common_steps}
use Rattle.std.proofs.lemmas.Bool.Decides.{nat_tests}
use Rattle.octets.specs.Tests.{◌and◌}
use Rattle.fmap_rules.specs.Map.{inside}
use Rattle.fmap_rules.proofs.Extent.is_inside.Goals as goal

pub returns-then-other-self : goal.returns-then-other-self
unfolding inside ◌and◌
returns-then-other-self c = grind (arith, nat_tests, common_steps)

pub returns-else-other-self : goal.returns-else-other-self
unfolding inside ◌and◌
returns-else-other-self c = grind (arith, nat_tests, common_steps)
