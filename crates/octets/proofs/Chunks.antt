-- Laws of records of one width w, one after the other.
use mathlib.Core.Path.{◌≡◌, refl, sym, ap, ap₂, ◌∙◌}
use mathlib.Core.List.{List, [], ◌∷◌, ◌++◌}
use Prim.Native.Nat.{ℕ, zero, suc, ◌+◌, ◌*◌, ◌<◌}
use native.Mathlib.Nat.{not-suc-le-zero, le_of_suc-le-suc, suc-mul, zero-mul}
use native.Mathlib.Omega.{arith}
use lib.ListN.{length, get_or, set, take, drop, length-append, length-drop, take-append-drop}
use lib.Seq.{take_at, drop_at, length-take-le, drop-drop}
use Rattle.octets.specs.Bytes.{part, put, chunks, put_chunk}
use Rattle.octets.proofs.Puts.{put-eq, take_put, drop-put-in}

pub length-chunks : (w k : ℕ) (xs : List ℕ) → length (chunks w k xs) ≡ k
unfolding chunks
length-chunks w zero xs = refl
length-chunks w (suc k) xs = ap suc (length-chunks w k (drop w xs))

pub length-chunk : (w k i : ℕ) (xs : List ℕ) → i < k → length xs ≡ k * w → length (get_or (chunks w k xs) i []) ≡ w
unfolding chunks
length-chunk w zero i xs h l = absurd (not-suc-le-zero h)
length-chunk w (suc k) zero xs h l = let s = suc-mul k w in length-take-le w xs (omega arith)
length-chunk w (suc k) (suc i) xs h l =
    let s = suc-mul k w in length-chunk w k i (drop w xs) (le_of_suc-le-suc h) (length-drop w xs ∙ omega arith)

-- record i is the part of w bytes at i * w
pub chunk_part : (w k i : ℕ) (xs : List ℕ) → i < k → get_or (chunks w k xs) i [] ≡ part (i * w) w xs
unfolding chunks part
chunk_part w zero i xs h = absurd (not-suc-le-zero h)
chunk_part w (suc k) zero xs h = rw zero-mul
chunk_part w (suc k) (suc i) xs h =
    let e : w + i * w ≡ suc i * w = omega (arith, suc-mul i w) in
    chunk_part w k i (drop w xs) (le_of_suc-le-suc h) ∙ ap (take w) (drop-drop (i * w) w xs ∙ ap (λ (n : ℕ). drop n xs) e)

module _ (w : ℕ) where
  pub length_put_chunk : (k i : ℕ) (e xs : List ℕ) → length e ≡ w → i < k → length xs ≡ k * w → length (put_chunk w i e xs) ≡ k * w
  unfolding put_chunk
  length_put_chunk zero i e xs le h l = absurd (not-suc-le-zero h)
  length_put_chunk (suc k) zero e xs le h l =
      let s = suc-mul k w in
      length-append e (drop w xs) ∙ omega (arith, length-drop w xs)
  length_put_chunk (suc k) (suc i) e xs le h l =
      let s = suc-mul k w in
      let d : length (drop w xs) ≡ k * w = length-drop w xs ∙ omega arith in
      length-append (take w xs) (put_chunk w i e (drop w xs))
      ∙ omega (arith, length-take-le w xs (omega arith), length_put_chunk k i e (drop w xs) le (le_of_suc-le-suc h) d)

  pub chunks-put : (k i : ℕ) (e xs : List ℕ) → length e ≡ w → i < k → length xs ≡ k * w
      → chunks w k (put_chunk w i e xs) ≡ set (chunks w k xs) i e
  unfolding chunks put_chunk
  chunks-put zero i e xs le h l = absurd (not-suc-le-zero h)
  chunks-put (suc k) zero e xs le h l = ap₂ ◌∷◌ (take_at e (drop w xs) w le) (ap (chunks w k) (drop_at e (drop w xs) w le))
  chunks-put (suc k) (suc i) e xs le h l =
      let s = suc-mul k w in
      let d : length (drop w xs) ≡ k * w = length-drop w xs ∙ omega arith in
      let t : length (take w xs) ≡ w = length-take-le w xs (omega arith) in
      ap₂ ◌∷◌ (take_at (take w xs) (put_chunk w i e (drop w xs)) w t)
      (ap (chunks w k) (drop_at (take w xs) (put_chunk w i e (drop w xs)) w t) ∙ chunks-put k i e (drop w xs) le (le_of_suc-le-suc h) d)

  -- record i replaced is a write at i * w
  pub put_chunk-put : (k i : ℕ) (e xs : List ℕ) → length e ≡ w → i < k → length xs ≡ k * w → put_chunk w i e xs ≡ put (i * w) e xs
  unfolding put_chunk
  put_chunk-put zero i e xs le h l = absurd (not-suc-le-zero h)
  put_chunk-put (suc k) zero e xs le h l =
      let s = suc-mul k w in
      let p : 0 + length e ≡ w = omega arith in
      rw zero-mul (sym (put-eq 0 e xs (omega arith) ∙ ap (λ (m : ℕ). e ++ drop m xs) p))
  put_chunk-put (suc k) (suc i) e xs le h l =
      let s = suc-mul k w in
      let q : suc i * w ≡ w + i * w = omega (arith, suc-mul i w) in
      let d : length (drop w xs) ≡ k * w = length-drop w xs ∙ omega arith in
      let ys = put (w + i * w) e xs in
      ap (λ (l : List ℕ). take w xs ++ l) (put_chunk-put k i e (drop w xs) le (le_of_suc-le-suc h) d)
      ∙ ap₂ ◌++◌ (sym (take_put e xs (w + i * w) w (omega arith))) (sym (drop-put-in e xs w (i * w)))
      ∙ take-append-drop w ys
      ∙ ap (λ (m : ℕ). put m e xs) (sym q)
