use Rattle.fmd_check.proofs.Plans.{end_on, end-stop, end-done}
use native.Mathlib.Omega.{arith}
use mathlib.Core.Path.{◌∙◌}
use Rattle.fmd_check.proofs.plan.end_in.Goals as goal

pub returns-then-q-parent : goal.returns-then-q-parent
returns-then-q-parent c = (end-stop _ _ _ c.placed_at-q.ensures c.loop-j.j (omega arith) c.if-q-parent.true ∙ c.loop-j.invariant, omega arith)

pub loop-j-preserved : goal.loop-j-preserved
loop-j-preserved c = end_on _ _ _ c.placed_at-q.ensures c.loop-j.j (omega arith) c.if-q-parent.false ∙ c.loop-j.invariant

pub returns : goal.returns
returns c = (end-done _ _ c.loop-j.j (omega arith) ∙ c.loop-j.invariant, omega arith)
