use lib.ListN.{length}
use Rattle.gpt_string.proofs.Fills.{Filling}
use Rattle.gpt_string.proofs.fill.Given as goal

abbrev pub invariant-loop-rest : goal.invariant-loop-rest
invariant-loop-rest l = Filling l.disk.shape l.disk.n l.alignment l.text l.initial.table l.table l.rest

abbrev pub decreases-loop-rest : goal.decreases-loop-rest
decreases-loop-rest l = length l.rest
