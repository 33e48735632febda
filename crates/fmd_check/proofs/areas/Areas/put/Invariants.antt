use Rattle.fmap_write.proofs.Fields.{WrittenTo}
use Rattle.fmd_check.proofs.areas.Areas.put.Given as goal

abbrev pub invariant-loop-k : goal.invariant-loop-k
invariant-loop-k l = WrittenTo l.self l.at l.initial.to l.to l.k
