use mathlib.Core.List.{[], ◌∷◌}
use mathlib.Core.Path.{◌≡◌, sym, ap, ◌∙◌}
use Prim.Native.Nat.{ℕ, ◌+◌, ◌-◌, ◌*◌, ◌/◌, ◌<◌}
use native.Mathlib.Omega.{arith}
use lib.Bits.{bit_xor}
use lib.ListN.{length, take, drop}
use lib.Seq.{length-take-le}
use Rattle.crc_lanes.specs.Crc.{bit_steps, crc_update}
use Rattle.crc_lanes.proofs.Lanes.{pending, lanes4-start, lanes4-on, lanes4-end}
use Rattle.crc_lanes.proofs.Blocks.{block_word, early_word}
use Rattle.crc_lanes.proofs.update_long.Goals as goal

pub loop-block-init : goal.loop-block-init
loop-block-init c = lanes4-start c.args.s.now (λ k. (c.type_inv.s k).fits) c.args.state c.requires.2

pub loop-block-preserved : goal.loop-block-preserved
loop-block-preserved c =
    let s = c.args.s.now in
    let l = c.loop-block in
    let i = l.block-index in
    let blocks = c.as_chunks.result.0.now in
    let n = length blocks - 1 in
    let k : length blocks ≡ length s / 32 = c.as_chunks.ensures.front_len in
    let w : length (take n blocks) ≡ n = length-take-le n blocks (omega arith) in
    let t : i < n = omega (arith, w, c.loop-block-test.true) in
    let word = early_word s (length s / 32) i blocks c.as_chunks.ensures.front (omega (arith, k, t)) n in
    let lane = λ (state x : ℕ). bit_steps 256 (bit_xor state x) in
    ap (λ (m : ℕ). pending 4 s m (c.far_step-c0.result ∷ c.far_step-c1.result ∷ c.far_step-c2.result ∷ c.far_step-c3.result ∷ [])) (omega arith)
    ∙ lanes4-on s (λ k. (c.type_inv.s k).fits) (i * 32) l.c0 l.c1 l.c2 l.c3 (omega (arith, k, t))
    (c.far_step-c0.ensures ∙ ap (lane l.c0) (word 0 (i * 32) t (omega arith) (omega arith)))
    (c.far_step-c1.ensures ∙ ap (lane l.c1) (word 8 (i * 32 + 8) t (omega arith) (omega arith)))
    (c.far_step-c2.ensures ∙ ap (lane l.c2) (word 16 (i * 32 + 8 + 8) t (omega arith) (omega arith)))
    (c.far_step-c3.ensures ∙ ap (lane l.c3) (word 24 (i * 32 + 8 + 8 + 8) t (omega arith) (omega arith)))
    ∙ l.invariant

pub returns : goal.returns
returns c =
    let s = c.args.s.now in
    let l = c.loop-block in
    let blocks = c.as_chunks.result.0.now in
    let n = length blocks - 1 in
    let k : length blocks ≡ length s / 32 = c.as_chunks.ensures.front_len in
    let w : length (take n blocks) ≡ n = length-take-le n blocks (omega arith) in
    let i : l.block-index ≡ n = omega (arith, w, c.loop-block-test.false, l.auto.block-index-end) in
    let word = block_word s (length s / 32) n blocks c.as_chunks.ensures.front (omega (arith, k)) in
    let next = λ (state x : ℕ). bit_steps 64 (bit_xor state x) in
    c.update_short.ensures
    ∙ ap (crc_update c.near_step-a3.result) (c.as_chunks.ensures.back ∙ ap (λ (m : ℕ). drop m s) (omega (arith, k)))
    ∙ lanes4-end s (n * 32) l.c0 l.c1 l.c2 l.c3
    (c.near_step-a0.ensures ∙ ap (next _) (c.load.ensures ∙ word 0 (n * 32) (omega arith) (omega arith)))
    (c.near_step-a1.ensures ∙ ap (next _) (c.load-2.ensures ∙ word 8 (n * 32 + 8) (omega arith) (omega arith)))
    (c.near_step-a2.ensures ∙ ap (next _) (c.load-3.ensures ∙ word 16 (n * 32 + 8 + 8) (omega arith) (omega arith)))
    (c.near_step-a3.ensures ∙ ap (next _) (c.load-4.ensures ∙ word 24 (n * 32 + 8 + 8 + 8) (omega arith) (omega arith)))
    ∙ ap (λ (m : ℕ). pending 4 s (m * 32) (l.c0 ∷ l.c1 ∷ l.c2 ∷ l.c3 ∷ [])) (sym i)
    ∙ l.invariant
