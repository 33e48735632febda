use mathlib.Core.Path.{◌≡◌}
use Prim.Native.Nat.{◌-◌, ◌*◌, ◌/◌, ◌^◌}
use Rattle.crc_lanes.specs.Tables.{sum_of}
use Rattle.crc_lanes.proofs.sum_of.Given as goal

abbrev pub invariant-loop-j : goal.invariant-loop-j
invariant-loop-j g l = l.sum ≡ sum_of (2 ^ g.row.BITS) l.t l.j (l.x / 2 ^ (g.row.BITS * (g.row.DIGITS - l.j)))
