use mathlib.Core.Path.{sym, ◌∙◌}
use Rattle.fmd_parse.proofs.RowLoops.{first_on, first-stop, first_done}
use Rattle.fmd_parse.proofs.rows.first_undecided.Goals as goal

pub returns-then-undecided_at : goal.returns-then-undecided_at
returns-then-undecided_at c = first-stop _ _ _ c.loop-k-test.true (sym c.undecided_at.ensures ∙ c.if-undecided_at.true) ∙ c.loop-k.invariant

pub loop-k-preserved : goal.loop-k-preserved
loop-k-preserved c = first_on _ _ _ c.loop-k-test.true (sym c.undecided_at.ensures ∙ c.if-undecided_at.false) ∙ c.loop-k.invariant

pub returns : goal.returns
returns c = first_done _ _ _ c.loop-k-test.false ∙ c.loop-k.invariant
