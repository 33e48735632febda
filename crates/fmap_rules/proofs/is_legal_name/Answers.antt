use Rattle.std.proofs.Common.{arith}
use Rattle.std.proofs.lemmas.Grind.{common_steps}
use Rattle.std.proofs.lemmas.Bool.Decides.{nat_tests}
use Rattle.octets.specs.Tests.{◌and◌}
use Rattle.octets.specs.Bytes.{rest}
use Rattle.fmap_rules.specs.Map.{legal_name}
use Rattle.fmap_rules.proofs.is_legal_name.Goals as goal

pub returns-then-k-le31 : goal.returns-then-k-le31
unfolding legal_name rest ◌and◌
returns-then-k-le31 c = grind (arith, nat_tests, common_steps)

pub returns-else-k-le31 : goal.returns-else-k-le31
unfolding legal_name rest ◌and◌
returns-else-k-le31 c = grind (arith, nat_tests, common_steps)
