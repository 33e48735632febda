use mathlib.Core.Path.{sym, ◌∙◌}
use Rattle.fmd_parse.specs.Rows.{fmap_in}
use Rattle.fmd_parse.proofs.RowLoops.{first-start, first_on, first-stop, first_done}
use Rattle.fmd_parse.proofs.rows.find_fmap.Goals as goal

pub loop-k-init : goal.loop-k-init
unfolding fmap_in
loop-k-init c = first-start _ _ _

pub returns-then-is_fmap : goal.returns-then-is_fmap
returns-then-is_fmap c = first-stop _ _ _ c.loop-k-test.true (sym c.is_fmap.ensures ∙ c.if-is_fmap.true) ∙ c.loop-k.invariant

pub loop-k-preserved : goal.loop-k-preserved
loop-k-preserved c = first_on _ _ _ c.loop-k-test.true (sym c.is_fmap.ensures ∙ c.if-is_fmap.false) ∙ c.loop-k.invariant

pub returns : goal.returns
returns c = first_done _ _ _ c.loop-k-test.false ∙ c.loop-k.invariant
