use Rattle.std.proofs.Common.{tests, rules}
use Rattle.octets.specs.Tests.{◌and◌}
use Rattle.fmap_carry.specs.Moves.{moves_apart}
use Rattle.fmap_carry.proofs.all_apart.Goals as goal

pub returns : goal.returns
unfolding moves_apart ◌and◌
returns c = c.pairs.ensures moves_apart (λ x y b k. search (rules, tests))
