use mathlib.Core.List.{map}
use Prim.Native.Nat.{◌+◌, ◌-◌}
use Rattle.gpt_table.specs.Invariants.{blocks_of}
use Rattle.gpt_room.specs.Invariants.{Behind}
use Rattle.gpt_room.proofs.Walks.{Tallied}
use Rattle.gpt_room.proofs.Walk.tally.Given as goal

abbrev pub invariant-loop-a : goal.invariant-loop-a
invariant-loop-a l =
    Tallied (map blocks_of l.self.ranges.now) l.initial.a.0 l.self.last.0 l.free.blocks l.free.longest l.a.0 × Behind l.self.ranges.now l.a.0 l.rest

abbrev pub decreases-loop-a : goal.decreases-loop-a
decreases-loop-a l = l.self.last.0 + 1 - l.a.0
