use mathlib.Core.Path.{◌∙◌}
use native.Mathlib.Omega.{arith}
use lib.Bits.{bit_xor}
use Rattle.std.proofs.lemmas.Nat.{xor_lt}
use Rattle.crc_lanes.proofs.Digits.{sum-steps}
use Rattle.crc_lanes.proofs.near_step.Goals as goal

pub returns : goal.returns
returns c = c.sum_of.ensures ∙ sum-steps 4 0 16 c.args.t.now c.requires 16 (bit_xor c.args.c c.args.word) (omega arith) (xor_lt 64 c.args.c c.args.word (omega arith) (omega arith))
