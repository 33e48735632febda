use Rattle.std.proofs.Common.{arith}
use Rattle.std.proofs.lemmas.Grind.{common_steps}
use Rattle.octets.specs.Tests.{◌and◌}
use Rattle.gpt_room.proofs.reaches.Goals as goal

pub returns-then-r : goal.returns-then-r
unfolding ◌and◌
returns-then-r c = grind (arith, common_steps)

pub returns-else-r : goal.returns-else-r
unfolding ◌and◌
returns-else-r c = grind (arith, common_steps)
