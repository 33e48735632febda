use Prim.Native.Nat.{◌*◌}
use Rattle.octets.proofs.Filled.{Filled}
use Rattle.guid.specs.Hex.{bytes_of}
use Rattle.guid.proofs.Hex.{Digits}
use Rattle.guid.proofs.bytes_of.Given as goal

abbrev pub invariant-loop-i : goal.invariant-loop-i
invariant-loop-i l = Filled 16 (bytes_of l.digits) l.bytes l.i × Digits l.digits (2 * l.i)
