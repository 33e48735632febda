use Prim.Native.Nat.{◌*◌}
use Rattle.octets.proofs.Filled.{Filled}
use Rattle.guid.specs.Hex.{digits_of}
use Rattle.guid.proofs.digits_of.Given as goal

abbrev pub invariant-loop-i : goal.invariant-loop-i
invariant-loop-i l = Filled 32 (digits_of l.bytes) l.digits (2 * l.i)
