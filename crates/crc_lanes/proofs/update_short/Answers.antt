use Rattle.std.proofs.Common.{◌≡◌, ◌∙◌, ◌/◌, arith, rules, ℕ, List, length}
use Rattle.std.specs.List.{fold}
use Rattle.std.specs.Simd.{first_chunks}
use lib.Bits.{bit_xor}
use Rattle.octets.specs.Bytes.{unle}
use Rattle.crc_lanes.specs.Crc.{bit_steps}
use Rattle.crc_lanes.proofs.Words.{words_on}
use Rattle.crc_lanes.proofs.update_short.Goals as goal

pub returns : goal.returns
returns c =
    let s = c.args.s.now in
    let e : c.fold-c.result ≡ fold (λ (x : ℕ) (w : List ℕ). bit_steps 64 (bit_xor x (unle w))) c.args.state (first_chunks 8 (length s / 8) s) = search rules in
    c.update_bytes.ensures ∙ rw (c.as_chunks.ensures.back, e) (words_on (length s / 8) c.args.state s (omega arith) (λ j. (c.type_inv.s j).fits))
