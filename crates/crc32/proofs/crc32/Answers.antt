use mathlib.Core.Path.{ap}
use Prim.Native.Nat.{ℕ}
use lib.Bits.{bit_xor}
use Rattle.crc_lanes.specs.Crc.{crc32}
use Rattle.crc32.proofs.crc32.Goals as goal

pub returns : goal.returns
unfolding crc32
returns c = ap (λ (x : ℕ). bit_xor x 0xFFFF_FFFF) c.update.ensures
