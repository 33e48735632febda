use Rattle.std.proofs.Common.{arith}
use Rattle.std.proofs.lemmas.Grind.{common_steps}
use Rattle.std.proofs.lemmas.Bool.Decides.{nat_tests}
use Rattle.octets.specs.Tests.{◌and◌}
use Rattle.octets.specs.Bytes.{zeros}
use Rattle.fmap_rules.specs.Map.{holds_map, named}
use Rattle.fmap_rules.proofs.is_holder.Goals as goal

pub returns-then-eq : goal.returns-then-eq
unfolding holds_map named zeros ◌and◌
returns-then-eq c = grind (arith, nat_tests, common_steps)

pub returns-else-eq : goal.returns-else-eq
unfolding holds_map named zeros ◌and◌
returns-else-eq c = grind (arith, nat_tests, common_steps)
