use borrow.Author.Rules.{rules}
use Rattle.octets.specs.Tests.{◌and◌}
use Rattle.fmd_head.specs.Images.{length_at}
use Rattle.fmd_head.proofs.front.length_at.Goals as goal

pub returns-then-size-lt98-clause-value : goal.returns-then-size-lt98-clause-value
unfolding length_at ◌and◌
returns-then-size-lt98-clause-value c = search rules

pub returns-clause-value : goal.returns-clause-value
unfolding length_at ◌and◌
returns-clause-value c = search rules
