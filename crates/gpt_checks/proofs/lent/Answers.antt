use Rattle.gpt_checks.proofs.Rows.{range-passes}
use Rattle.gpt_checks.proofs.lent.Goals as goal

pub invariant_of-result : goal.invariant_of-result
invariant_of-result c = record { fits = range-passes c.args.shape c.args.n c.requires c.in_range.ensures c.in_ok-refuse_if-2.ensures }
