use Rattle.std.proofs.Common.{arith}
use Rattle.std.proofs.lemmas.Grind.{common_steps}
use Rattle.octets.specs.Rows.{pick_row}
use Rattle.fmap.proofs.stands_at.Goals as goal

pub returns-then-is_out_of_range : goal.returns-then-is_out_of_range
unfolding pick_row
returns-then-is_out_of_range c = grind (arith, common_steps)

pub returns-then-not-is_signed_at : goal.returns-then-not-is_signed_at
unfolding pick_row
returns-then-not-is_signed_at c = grind (arith, common_steps)

pub returns-then-not-good_at : goal.returns-then-not-good_at
unfolding pick_row
returns-then-not-good_at c = grind (arith, common_steps)

pub returns : goal.returns
unfolding pick_row
returns c = grind (arith, common_steps)
