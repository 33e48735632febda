use Rattle.std.proofs.Common.{arith}
use Rattle.std.proofs.lemmas.Grind.{common_steps}
use Rattle.std.proofs.lemmas.Bool.Decides.{nat_tests}
use Rattle.octets.specs.Tests.{◌or◌}
use Rattle.fmap_rules.specs.Map.{disjoint}
use Rattle.fmap_rules.proofs.Extent.is_disjoint.Goals as goal

pub returns-then-end-from : goal.returns-then-end-from
unfolding disjoint ◌or◌
returns-then-end-from c = grind (arith, nat_tests, common_steps)

pub returns-else-end-from : goal.returns-else-end-from
unfolding disjoint ◌or◌
returns-else-end-from c = grind (arith, nat_tests, common_steps)
