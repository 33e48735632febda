use Rattle.std.proofs.Common.{arith}
use Rattle.std.proofs.lemmas.Grind.{common_steps}
use Rattle.octets.specs.Rows.{pick_row}
use Rattle.fmap_carry.proofs.judge.Goals as goal

pub returns-then-some_resized : goal.returns-then-some_resized
unfolding pick_row
returns-then-some_resized c = grind (arith, common_steps)

pub returns-then-not-all_apart : goal.returns-then-not-all_apart
unfolding pick_row
returns-then-not-all_apart c = grind (arith, common_steps)

pub returns-then-some_on_map : goal.returns-then-some_on_map
unfolding pick_row
returns-then-some_on_map c = grind (arith, common_steps)

pub returns : goal.returns
unfolding pick_row
returns c = grind (arith, common_steps)
