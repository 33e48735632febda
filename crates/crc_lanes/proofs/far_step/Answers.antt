use mathlib.Core.Path.{◌≡◌, sym, ap, ap₂, ◌∙◌}
use mathlib.Core.List.{List}
use Prim.Native.Nat.{ℕ, ◌+◌, ◌*◌, ◌<◌, ◌^◌}
use native.Mathlib.Omega.{arith}
use lib.Bits.{bit_xor}
use lib.ListN.{drop, length-drop}
use lib.Seq.{take_all}
use Rattle.std.proofs.lemmas.Nat.{xor_lt}
use Rattle.octets.specs.Bytes.{field}
use Rattle.octets.proofs.Numbers.{field-add}
use Rattle.crc_lanes.specs.Crc.{bit_steps}
use Rattle.crc_lanes.specs.Tables.{sum_of}
use Rattle.crc_lanes.proofs.Digits.{sum-steps, sum_parts, xor_low}
use Rattle.crc_lanes.proofs.far_step.Goals as goal

pub returns : goal.returns
returns c =
    let t = c.args.t.now in
    let k = c.args.c in
    let low = c.load-low.result in
    let high = c.load-high.result in
    let word : low + 4294967296 * high ≡ field c.args.i 8 c.args.block.now =
    omega (arith, c.load-low.ensures, c.load-high.ensures, field-add 4 4 c.args.i c.args.block.now) in
    let half : bit_xor k low < 2 ^ 32 = xor_lt 32 k low (omega arith) (omega arith) in
    ap₂ bit_xor
    (c.sum_of.ensures ∙ ap (λ (u : List ℕ). sum_of 256 u 4 (bit_xor k low)) (take_all 1024 (drop 1024 t) (simp length-drop (omega arith))))
    c.sum_of-2.ensures
    ∙ sym (sum_parts t 4 4 (bit_xor k low) high half)
    ∙ sum-steps 8 192 8 t c.requires.0 8 (bit_xor k low + 4294967296 * high) (omega arith) (omega arith)
    ∙ ap (bit_steps 256) (xor_low k low high (omega arith) (omega arith) ∙ ap (bit_xor k) word)
