use mathlib.Core.Path.{ap, sym, ◌∙◌}
use Prim.Native.Nat.{ℕ, ◌/◌}
use native.Mathlib.Omega.{arith}
use lib.Bits.{bit_xor, bit_and, mask_lt, and_mask}
use Rattle.crc_lanes.specs.Crc.{bit_steps}
use Rattle.crc_lanes.proofs.Digits.{sum-steps}
use Rattle.crc_lanes.proofs.Steps.{byte_split}
use borrow.Author.Rules.{rules}
use Rattle.crc_lanes.proofs.byte_step.Goals as goal

pub returns : goal.returns
returns c =
    let a = c.args in
    let t = a.t.now in
    let y = bit_xor a.c a.b in
    ap (λ (x : ℕ). bit_xor x (a.c / 256))
    (c.sum_of.ensures
    ∙ sum-steps 4 0 16 t c.requires 2 (bit_and y 255) (omega arith) (mask_lt y 8)
    ∙ ap (bit_steps 8) (and_mask y 8))
    ∙ sym (byte_split a.c a.b (search rules))
