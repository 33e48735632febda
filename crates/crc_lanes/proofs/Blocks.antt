-- Laws of the blocks of 32 bytes that std's `as_chunks` gives.
use mathlib.Core.Path.{◌≡◌, refl, sym, ap, ◌∙◌}
use mathlib.Core.List.{List, [], ◌∷◌}
use Prim.Native.Nat.{ℕ, zero, suc, ◌+◌, ◌*◌, ◌≤◌, ◌<◌}
use lib.ListN.{get_or, take, drop}
use lib.Seq.{get_or-take}
use Rattle.std.specs.Simd.{first_chunks}
use Rattle.octets.specs.Bytes.{unle, field, chunks}
use Rattle.octets.proofs.Chunks.{chunk_part}
use Rattle.octets.proofs.Parts.{part-part}

chunks_first : (w k : ℕ) (s : List ℕ) → chunks w k s ≡ first_chunks w k s
unfolding chunks
chunks_first w zero s = refl
chunks_first w (suc k) s = ap (λ (l : List (List ℕ)). take w s ∷ l) (chunks_first w k (drop w s))

module _ (s : List ℕ) (k i : ℕ) (blocks : List (List ℕ)) (e : blocks ≡ first_chunks 32 k s) (h : i < k) where
  -- a word of block i is one of s
  pub block_word : (j m : ℕ) → j + 8 ≤ 32 → i * 32 + j ≡ m → field j 8 (get_or blocks i []) ≡ field m 8 s
  block_word j m l q =
      ap (λ (b : List ℕ). field j 8 b) (ap (λ (bs : List (List ℕ)). get_or bs i []) (e ∙ sym (chunks_first 32 k s)) ∙ chunk_part 32 k i s h)
      ∙ ap unle (part-part j 8 (i * 32) 32 s l)
      ∙ ap (λ (n : ℕ). field n 8 s) q

  -- the same of the blocks before block n
  pub early_word : (n j m : ℕ) → i < n → j + 8 ≤ 32 → i * 32 + j ≡ m → field j 8 (get_or (take n blocks) i []) ≡ field m 8 s
  early_word n j m g l q = ap (λ (b : List ℕ). field j 8 b) (get_or-take n blocks i [] g) ∙ block_word j m l q
