use mathlib.Core.List.{[], ◌∷◌}
use mathlib.Core.Path.{◌≡◌}
use Prim.Native.Nat.{◌*◌}
use Rattle.crc_lanes.specs.Crc.{crc_update}
use Rattle.crc_lanes.proofs.Lanes.{pending}
use Rattle.crc_lanes.proofs.update_long.Given as goal

abbrev pub invariant-loop-block : goal.invariant-loop-block
invariant-loop-block l = pending 4 l.s (l.block-index * 32) (l.c0 ∷ l.c1 ∷ l.c2 ∷ l.c3 ∷ []) ≡ crc_update l.state l.s
