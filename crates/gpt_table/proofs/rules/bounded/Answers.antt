use Rattle.std.proofs.Common.{arith}
use Rattle.std.proofs.lemmas.Grind.{common_steps}
use Rattle.octets.specs.Tests.{◌and◌}
use Rattle.gpt_model.specs.Table.{bounded}
use Rattle.gpt_table.proofs.rules.bounded.Goals as goal

pub returns-then-r : goal.returns-then-r
unfolding bounded ◌and◌
returns-then-r c = grind (arith, common_steps)

pub returns-else-r : goal.returns-else-r
unfolding bounded ◌and◌
returns-else-r c = grind (arith, common_steps)
