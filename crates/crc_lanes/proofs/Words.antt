-- Several bytes at once: their number, the lowest byte first, is added to the state, and all their bits leave.
use mathlib.Core.Path.{◌≡◌, refl, sym, ap, ◌∙◌, subst}
use mathlib.Core.List.{List, [], ◌∷◌}
use Prim.Native.Nat.{ℕ, zero, suc, ◌+◌, ◌*◌, ◌^◌, ◌≤◌, ◌<◌, suc-le-suc}
use native.Mathlib.Nat.{zero-lt-suc, suc-mul}
use native.Mathlib.Omega.{arith}
use lib.ListN.{length, get_or, take, drop, length-drop, take-append-drop}
use lib.Seq.{length-take-le, get_or-take, get_or-drop, drop-drop}
use Rattle.std.specs.List.{fold}
use Rattle.std.specs.Simd.{first_chunks}
use lib.Bits.{bit_xor, xor_shifted, xor_comm, xor_zero_r}
use Rattle.octets.specs.Bytes.{unle, part, rest, field}
use Rattle.octets.proofs.Parts.{length_part, get_d_part, part-on}
use Rattle.crc_lanes.specs.Crc.{bit_steps, crc_byte, crc_update}
use Rattle.crc_lanes.proofs.Xor.{xor_assoc}
use Rattle.crc_lanes.proofs.Steps.{no_steps, steps-xor, steps-add, steps-shifted}
use Rattle.crc_lanes.proofs.Parts.{update-append}

-- one byte leaves, and what stood above it moves down
byte_word : (c b w : ℕ) → b < 256 → bit_steps 8 (bit_xor c (b + 256 * w)) ≡ bit_xor (crc_byte c b) w
unfolding crc_byte
byte_word c b w h =
    let e : b + 256 * w ≡ w * 2 ^ 8 + b = omega arith in
    ap (λ (x : ℕ). bit_steps 8 (bit_xor c x)) (e ∙ sym (xor_shifted w 8 b h) ∙ xor_comm (w * 256) b)
    ∙ ap (bit_steps 8) (sym (xor_assoc c b (w * 256)))
    ∙ steps-xor 8 (bit_xor c b) (w * 256)
    ∙ ap (bit_xor (bit_steps 8 (bit_xor c b))) (steps-shifted 8 w)

pub at_once : (bs : List ℕ) (c : ℕ) → ((i : ℕ) → i < length bs → get_or bs i 0 < 256)
    → bit_steps (8 * length bs) (bit_xor c (unle bs)) ≡ crc_update c bs
unfolding unle crc_update
at_once [] c f = no_steps _ ∙ xor_zero_r c
at_once (b ∷ bs) c f =
    let e : 8 * suc (length bs) ≡ 8 + 8 * length bs = omega arith in
    ap (λ (n : ℕ). bit_steps n (bit_xor c (b + 256 * unle bs))) e
    ∙ steps-add 8 (8 * length bs) (bit_xor c (b + 256 * unle bs))
    ∙ ap (bit_steps (8 * length bs)) (byte_word c b (unle bs) (f zero (zero-lt-suc _)))
    ∙ at_once bs (crc_byte c b) (λ i h. f (suc i) (suc-le-suc h))

-- along a loop: the k bytes at i, and the rest decides
pub word_on : (k c : ℕ) (s : List ℕ) (i : ℕ) → i + k ≤ length s → ((j : ℕ) → get_or s j 0 < 256)
    → crc_update (bit_steps (8 * k) (bit_xor c (field i k s))) (drop (i + k) s) ≡ crc_update c (drop i s)
unfolding rest
word_on k c s i h b =
    ap (λ (x : ℕ). crc_update x (drop (i + k) s)) here
    ∙ sym (update-append c (part i k s) (drop (i + k) s))
    ∙ ap (crc_update c) (part-on s i k)
  where
    long : length (part i k s) ≡ k
    long = length_part s i k h

    here : bit_steps (8 * k) (bit_xor c (field i k s)) ≡ crc_update c (part i k s)
    here =
        ap (λ (n : ℕ). bit_steps (8 * n) (bit_xor c (field i k s))) (sym long)
        ∙ at_once (part i k s) c (λ j l.
        subst (λ (x : ℕ). x < 256) (sym (get_d_part s i k j (subst (λ (n : ℕ). j < n) long l))) (b (i + j)))

-- the first k words, and the rest decides
pub words_on : (k c : ℕ) (s : List ℕ) → k * 8 ≤ length s → ((j : ℕ) → get_or s j 0 < 256)
    → crc_update (fold (λ (x : ℕ) (w : List ℕ). bit_steps 64 (bit_xor x (unle w))) c (first_chunks 8 k s)) (drop (k * 8) s) ≡ crc_update c s
words_on zero c s h b = refl
words_on (suc k) c s h b =
    let n : 8 ≤ length s = omega (arith, suc-mul k 8) in
    let l : length (take 8 s) ≡ 8 = length-take-le 8 s n in
    let e : bit_steps 64 (bit_xor c (unle (take 8 s))) ≡ crc_update c (take 8 s) =
    ap (λ (m : ℕ). bit_steps (8 * m) (bit_xor c (unle (take 8 s)))) (sym l)
    ∙ at_once (take 8 s) c (λ j i. rw (get_or-take 8 s j 0 (omega (arith, i, l))) (b j)) in
    let d : suc k * 8 ≡ 8 + k * 8 = omega (arith, suc-mul k 8) in
    rw (d, ← drop-drop (k * 8) 8 s)
    (words_on k (bit_steps 64 (bit_xor c (unle (take 8 s)))) (drop 8 s) (simp length-drop (omega (arith, suc-mul k 8)))
    (λ j. rw (get_or-drop 8 s j 0) (b (8 + j)))
    ∙ ap (λ (x : ℕ). crc_update x (drop 8 s)) e
    ∙ sym (update-append c (take 8 s) (drop 8 s))
    ∙ ap (crc_update c) (take-append-drop 8 s))
