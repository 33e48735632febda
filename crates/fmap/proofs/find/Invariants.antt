use Rattle.std.proofs.Common.{◌<◌, ◌-◌, length}
use Rattle.fmap.proofs.Finding.{Looking}
use Rattle.fmap.proofs.find.Given as goal

abbrev pub invariant-loop-at : goal.invariant-loop-at
invariant-loop-at l = (l.at.0 < length l.image) × Looking l.image l.at.0

abbrev pub decreases-loop-at : goal.decreases-loop-at
decreases-loop-at l = length l.image - l.at.0
