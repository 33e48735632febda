use Rattle.gpt_checks.proofs.Rows.{full_is}
use Rattle.gpt_checks.proofs.full.Goals as goal

pub returns : goal.returns
returns c = full_is _ c.as_table.ensures c.first_unused.ensures c.is_none.ensures
