-- Lanes side by side: each of n lanes takes every n-th word of eight bytes. A lane is added to its next word, and the sum goes n words on in one step.
-- What the lanes hold is pending: the words at i, each with its lane added, one after the other, and then the rest, give the state that the whole gives.
use mathlib.Core.Path.{◌≡◌, refl, sym, ap, ap₂, ◌∙◌}
use mathlib.Core.List.{List, [], ◌∷◌}
use Prim.Native.Nat.{ℕ, zero, suc, ◌+◌, ◌*◌, ◌≤◌, ◌<◌}
use native.Mathlib.Omega.{arith}
use lib.ListN.{length, get_or, drop}
use lib.Bits.{bit_xor, xor_zero_l, xor_zero_r}
use Rattle.octets.specs.Bytes.{field}
use Rattle.crc_lanes.specs.Crc.{bit_steps, crc_update}
use Rattle.crc_lanes.proofs.Xor.{xor_assoc, xor-medial}
use Rattle.crc_lanes.proofs.Steps.{no_steps, steps-xor, steps-add, steps-zero, steps-comm}
use Rattle.crc_lanes.proofs.Words.{word_on}

-- the state after words, one after the other
unfoldable pub run : ℕ → List ℕ → ℕ
run a [] = a
run a (x ∷ xs) = run (bit_steps 64 (bit_xor a x)) xs

-- two lists of words, each word added to its partner
unfoldable pub both : List ℕ → List ℕ → List ℕ
both (x ∷ xs) (y ∷ ys) = bit_xor x y ∷ both xs ys
both [] ys = []
both (x ∷ xs) [] = []

-- each word m bit steps on
unfoldable pub on : ℕ → List ℕ → List ℕ
on m [] = []
on m (x ∷ xs) = bit_steps m x ∷ on m xs

-- ---- linear

run-both : (xs ys : List ℕ) (a b : ℕ) → length xs ≡ length ys → run (bit_xor a b) (both xs ys) ≡ bit_xor (run a xs) (run b ys)
unfolding run both
run-both [] [] a b l = refl
run-both [] (y ∷ ys) a b l = omega arith
run-both (x ∷ xs) [] a b l = omega arith
run-both (x ∷ xs) (y ∷ ys) a b l =
    ap (λ (n : ℕ). run (bit_steps 64 n) (both xs ys)) (xor-medial a b x y)
    ∙ ap (λ (n : ℕ). run n (both xs ys)) (steps-xor 64 (bit_xor a x) (bit_xor b y))
    ∙ run-both xs ys (bit_steps 64 (bit_xor a x)) (bit_steps 64 (bit_xor b y)) (omega arith)

run_on : (m : ℕ) (xs : List ℕ) (a : ℕ) → run (bit_steps m a) (on m xs) ≡ bit_steps m (run a xs)
unfolding run on
run_on m [] a = refl
run_on m (x ∷ xs) a =
    ap (λ (n : ℕ). run (bit_steps 64 n) (on m xs)) (sym (steps-xor m a x))
    ∙ ap (λ (n : ℕ). run n (on m xs)) (steps-comm 64 m (bit_xor a x))
    ∙ run_on m xs (bit_steps 64 (bit_xor a x))

-- the state before the words, taken past them, and the words by themselves
run-apart : (xs : List ℕ) (a : ℕ) → run a xs ≡ bit_xor (bit_steps (64 * length xs) a) (run 0 xs)
unfolding run
run-apart [] a = sym (ap (λ (n : ℕ). bit_xor n 0) (no_steps a) ∙ xor_zero_r a)
run-apart (x ∷ xs) a =
    let e : 64 + k ≡ 64 * suc (length xs) = omega arith in
    ap (λ (n : ℕ). run n xs) (steps-xor 64 a x)
    ∙ run-apart xs (bit_xor (bit_steps 64 a) (bit_steps 64 x))
    ∙ ap (λ (n : ℕ). bit_xor n (run 0 xs)) (steps-xor k (bit_steps 64 a) (bit_steps 64 x))
    ∙ xor_assoc (bit_steps k (bit_steps 64 a)) (bit_steps k (bit_steps 64 x)) (run 0 xs)
    ∙ ap₂ bit_xor (sym (steps-add 64 k a) ∙ ap (λ (n : ℕ). bit_steps n a) e) (sym (run-apart xs (bit_steps 64 x)))
    ∙ ap (λ (n : ℕ). bit_xor (bit_steps (64 * suc (length xs)) a) (run (bit_steps 64 n) xs)) (sym (xor_zero_l x))
  where
    k : ℕ
    k = 64 * length xs

length-on : (n : ℕ) (ys : List ℕ) → length (on n ys) ≡ length ys
unfolding on
length-on n [] = refl
length-on n (y ∷ ys) = ap suc (length-on n ys)

-- as many words as there are lanes, after the lanes: the lanes go past them, and the words join them
pub run-turn : (xs ws : List ℕ) → length xs ≡ length ws → run (run 0 xs) ws ≡ run 0 (both (on (64 * length ws) xs) ws)
run-turn xs ws l =
    run-apart ws (run 0 xs)
    ∙ ap (λ (n : ℕ). bit_xor n (run 0 ws)) (sym (run_on m xs 0) ∙ ap (λ (n : ℕ). run n (on m xs)) (steps-zero m))
    ∙ sym (run-both (on m xs) ws 0 0 (length-on m xs ∙ l))
  where
    m : ℕ
    m = 64 * length ws

-- ---- words of a list

-- n words from i on
unfoldable pub words_at : List ℕ → ℕ → ℕ → List ℕ
words_at s i zero = []
words_at s i (suc n) = field i 8 s ∷ words_at s (i + 8) n

-- the place past them
unfoldable pub past : ℕ → ℕ → ℕ
past i zero = i
past i (suc n) = past (i + 8) n

-- one after the other, and the rest decides
pub words-on : (n c : ℕ) (s : List ℕ) (i : ℕ) → i + 8 * n ≤ length s → ((k : ℕ) → get_or s k 0 < 256)
    → crc_update (run c (words_at s i n)) (drop (past i n) s) ≡ crc_update c (drop i s)
unfolding run words_at past
words-on zero c s i h b = refl
words-on (suc n) c s i h b = words-on n (bit_steps 64 (bit_xor c (field i 8 s))) s (i + 8) (omega arith) b ∙ word_on 8 c s i (omega arith) b

length-words : (s : List ℕ) (i n : ℕ) → length (words_at s i n) ≡ n
unfolding words_at
length-words s i zero = refl
length-words s i (suc n) = ap suc (length-words s (i + 8) n)

length_both : (xs ys : List ℕ) → length xs ≡ length ys → length (both xs ys) ≡ length xs
unfolding both
length_both [] ys l = refl
length_both (x ∷ xs) [] l = omega arith
length_both (x ∷ xs) (y ∷ ys) l = ap suc (length_both xs ys (omega arith))

-- ---- lanes over a list

-- the state that n lanes at i still give
unfoldable pub pending : ℕ → List ℕ → ℕ → List ℕ → ℕ
pending n s i cs = crc_update (run 0 (both cs (words_at s i n))) (drop (past i n) s)

-- a turn: each lane takes its word and goes on to its next
pub lanes_on : (n : ℕ) (s : List ℕ) (i : ℕ) (cs : List ℕ) → length cs ≡ n → past i n + 8 * n ≤ length s → ((k : ℕ) → get_or s k 0 < 256)
    → pending n s (past i n) (on (64 * n) (both cs (words_at s i n))) ≡ pending n s i cs
unfolding pending
lanes_on n s i cs l h b =
    ap (λ (x : ℕ). crc_update x (drop (past j n) s))
    (ap (λ (m : ℕ). run 0 (both (on (64 * m) xs) ws)) (sym (length-words s j n))
    ∙ sym (run-turn xs ws (length_both cs (words_at s i n) (l ∙ sym (length-words s i n)) ∙ l ∙ sym (length-words s j n))))
    ∙ words-on n (run 0 xs) s j h b
  where
    j : ℕ
    j = past i n

    xs : List ℕ
    xs = both cs (words_at s i n)

    ws : List ℕ
    ws = words_at s j n

-- ---- four lanes, as the code has them: at the start, a turn, at the end

module _ (s : List ℕ) (b : (k : ℕ) → get_or s k 0 < 256) where
  pub lanes4-start : (c : ℕ) → 32 ≤ length s → pending 4 s 0 (c ∷ 0 ∷ 0 ∷ 0 ∷ []) ≡ crc_update c s
  unfolding pending run both words_at past
  lanes4-start c h = words-on 4 c s 0 h b

  pub lanes4-on : (i c0 c1 c2 c3 : ℕ) {d0 d1 d2 d3 : ℕ} → i + 64 ≤ length s
      → d0 ≡ bit_steps 256 (bit_xor c0 (field i 8 s))
      → d1 ≡ bit_steps 256 (bit_xor c1 (field (i + 8) 8 s))
      → d2 ≡ bit_steps 256 (bit_xor c2 (field (i + 8 + 8) 8 s))
      → d3 ≡ bit_steps 256 (bit_xor c3 (field (i + 8 + 8 + 8) 8 s))
      → pending 4 s (i + 8 + 8 + 8 + 8) (d0 ∷ d1 ∷ d2 ∷ d3 ∷ []) ≡ pending 4 s i (c0 ∷ c1 ∷ c2 ∷ c3 ∷ [])
  unfolding on both words_at past
  lanes4-on i c0 c1 c2 c3 {d0} {d1} {d2} {d3} h e0 e1 e2 e3 =
      let e : ◌≡◌ {A = List ℕ} (d0 ∷ d1 ∷ d2 ∷ d3 ∷ [])
      (bit_steps 256 (bit_xor c0 (field i 8 s)) ∷ bit_steps 256 (bit_xor c1 (field (i + 8) 8 s))
      ∷ bit_steps 256 (bit_xor c2 (field (i + 8 + 8) 8 s)) ∷ bit_steps 256 (bit_xor c3 (field (i + 8 + 8 + 8) 8 s)) ∷ []) = cc in
      ap (pending 4 s (i + 8 + 8 + 8 + 8)) e
      ∙ lanes_on 4 s i (c0 ∷ c1 ∷ c2 ∷ c3 ∷ []) refl (omega arith) b

next : (a a' c w : ℕ) {r : ℕ} → a ≡ a' → r ≡ bit_steps 64 (bit_xor (bit_xor a c) w) → r ≡ bit_steps 64 (bit_xor a' (bit_xor c w))
next a a' c w p e = e ∙ ap (bit_steps 64) (xor_assoc a c w ∙ ap (λ (n : ℕ). bit_xor n (bit_xor c w)) p)

pub lanes4-end : (s : List ℕ) (i c0 c1 c2 c3 : ℕ) {a0 a1 a2 a3 : ℕ}
    → a0 ≡ bit_steps 64 (bit_xor c0 (field i 8 s))
    → a1 ≡ bit_steps 64 (bit_xor (bit_xor a0 c1) (field (i + 8) 8 s))
    → a2 ≡ bit_steps 64 (bit_xor (bit_xor a1 c2) (field (i + 8 + 8) 8 s))
    → a3 ≡ bit_steps 64 (bit_xor (bit_xor a2 c3) (field (i + 8 + 8 + 8) 8 s))
    → crc_update a3 (drop (i + 8 + 8 + 8 + 8) s) ≡ pending 4 s i (c0 ∷ c1 ∷ c2 ∷ c3 ∷ [])
unfolding pending run both words_at past
lanes4-end s i c0 c1 c2 c3 e0 e1 e2 e3 =
    ap (λ (x : ℕ). crc_update x (drop (i + 8 + 8 + 8 + 8) s))
    (next _ _ c3 _ (next _ _ c2 _ (next _ _ c1 _ (e0 ∙ ap (bit_steps 64) (sym (xor_zero_l _))) e1) e2) e3)
