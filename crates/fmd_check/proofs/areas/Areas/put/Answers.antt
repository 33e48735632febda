use Rattle.fmap_write.proofs.Fields.{written_none, written_on, written_all}
use Rattle.fmap_rules.specs.Map.{blank_area}
use native.Mathlib.Omega.{arith}
use Rattle.fmd_check.proofs.areas.Areas.put.Goals as goal

pub loop-k-init : goal.loop-k-init
loop-k-init c = written_none _ _ _

pub loop-k-preserved : goal.loop-k-preserved
loop-k-preserved c =
    written_on blank_area _ (omega arith) c.at.ensures c.put_area.ensures.0 c.put_area.ensures.1 c.loop-k.invariant

pub returns : goal.returns
returns c = written_all (omega arith) c.loop-k.invariant
