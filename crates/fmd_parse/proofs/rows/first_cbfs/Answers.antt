use mathlib.Core.Path.{sym, ◌∙◌}
use Rattle.fmd_parse.specs.Rows.{first_cbfs}
use Rattle.fmd_parse.proofs.RowLoops.{first-start, first_on, first-stop, first_done}
use Rattle.fmd_parse.proofs.rows.first_cbfs.Goals as goal

pub loop-k-init : goal.loop-k-init
unfolding first_cbfs
loop-k-init c = first-start _ _ _

pub returns-then-holds_cbfs : goal.returns-then-holds_cbfs
returns-then-holds_cbfs c = first-stop _ _ _ c.loop-k-test.true (sym c.holds_cbfs.ensures ∙ c.if-holds_cbfs.true) ∙ c.loop-k.invariant

pub loop-k-preserved : goal.loop-k-preserved
loop-k-preserved c = first_on _ _ _ c.loop-k-test.true (sym c.holds_cbfs.ensures ∙ c.if-holds_cbfs.false) ∙ c.loop-k.invariant

pub returns : goal.returns
returns c = first_done _ _ _ c.loop-k-test.false ∙ c.loop-k.invariant
