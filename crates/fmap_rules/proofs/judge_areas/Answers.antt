use Rattle.std.proofs.Common.{arith}
use Rattle.std.proofs.lemmas.Grind.{common_steps}
use Rattle.octets.specs.Rows.{pick_row}
use Rattle.fmap_rules.proofs.judge_areas.Goals as goal

pub returns-then-some_empty : goal.returns-then-some_empty
unfolding pick_row
returns-then-some_empty c = grind (arith, common_steps)

pub returns-then-some_past : goal.returns-then-some_past
unfolding pick_row
returns-then-some_past c = grind (arith, common_steps)

pub returns-then-some_misnamed : goal.returns-then-some_misnamed
unfolding pick_row
returns-then-some_misnamed c = grind (arith, common_steps)

pub returns-then-not-some_holder : goal.returns-then-not-some_holder
unfolding pick_row
returns-then-not-some_holder c = grind (arith, common_steps)

pub returns-then-not-names_differ : goal.returns-then-not-names_differ
unfolding pick_row
returns-then-not-names_differ c = grind (arith, common_steps)

pub returns-then-not-none_cross : goal.returns-then-not-none_cross
unfolding pick_row
returns-then-not-none_cross c = grind (arith, common_steps)

pub returns : goal.returns
unfolding pick_row
returns c = grind (arith, common_steps)
