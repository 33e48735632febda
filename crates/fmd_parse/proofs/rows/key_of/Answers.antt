use mathlib.Core.Path.{◌∙◌}
use native.Mathlib.Omega.{arith}
use Rattle.fmd_parse.proofs.Keys.{key-on, key-done}
use Rattle.fmd_parse.proofs.rows.key_of.Goals as goal

pub loop-b-preserved : goal.loop-b-preserved
loop-b-preserved c = (omega arith, key-on _ _ _ c.loop-b-test.true ∙ c.loop-b.invariant.1)

pub returns : goal.returns
returns c = (key-done _ _ _ c.loop-b-test.false ∙ c.loop-b.invariant.1, c.loop-b.invariant.0)
