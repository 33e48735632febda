use Rattle.std.proofs.Common.{arith}
use Rattle.std.proofs.lemmas.Grind.{common_steps}
use Rattle.std.proofs.lemmas.Bool.Decides.{nat_tests}
use Rattle.octets.specs.Tests.{◌or◌}
use Rattle.fmap.specs.Find.{out_of_range}
use Rattle.fmap.proofs.is_out_of_range.Goals as goal

pub returns-then-image-lt98 : goal.returns-then-image-lt98
unfolding out_of_range ◌or◌
returns-then-image-lt98 c = grind (arith, nat_tests, common_steps)

pub returns-else-image-lt98 : goal.returns-else-image-lt98
unfolding out_of_range ◌or◌
returns-else-image-lt98 c = grind (arith, nat_tests, common_steps)
