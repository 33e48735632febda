use Rattle.octets.specs.Rows.{pick_row}
use Rattle.gpt_checks.proofs.refuse_if.Goals as goal

pub returns-then-holds : goal.returns-then-holds
unfolding pick_row
returns-then-holds c = rw c.if-holds.true

pub returns-else-holds : goal.returns-else-holds
unfolding pick_row
returns-else-holds c = rw c.if-holds.false
