-- Lists of bytes: numbers in them, parts of them, writes into them. Definitions only; each is total.
use Rattle.std.specs.Prelude.{Bool, true, false, List, [], ◌∷◌, ◌++◌, ℕ, zero, suc, ◌+◌, ◌*◌, ◌/◌, ◌%◌, eqb, take, drop, replicate}
use Rattle.std.proofs.lemmas.List.Edits.{sets}
use Rattle.octets.specs.Tests.{◌and◌, all}

-- ---- Q6: All stored numbers are little-endian.

-- the k low bytes of x, the lowest first
unfoldable pub le : ℕ → ℕ → List ℕ
le zero x = []
le (suc k) x = x % 256 ∷ le k (x / 256)

-- the number that bytes stand for, the lowest first
unfoldable pub unle : List ℕ → ℕ
unle [] = 0
unle (b ∷ bs) = b + 256 * unle bs

-- ---- parts; shut, so that a numeral in them is not counted down

-- the k bytes from at, or as many as there are
unfoldable pub part : ℕ → ℕ → List ℕ → List ℕ
part at k xs = take k (drop at xs)

-- all bytes from at on
unfoldable pub rest : ℕ → List ℕ → List ℕ
rest at xs = drop at xs

-- the number in the k bytes from at; a byte past the end counts as 0
abbrev pub field : ℕ → ℕ → List ℕ → ℕ
field at k xs = unle (part at k xs)

-- ---- writes

-- xs with vs written from at on; the length stays, and what would fall past the end is dropped
unfoldable pub put : ℕ → List ℕ → List ℕ → List ℕ
put at vs xs = sets xs at vs

unfoldable pub zeros : ℕ → List ℕ
zeros k = replicate k 0

-- ---- tests

abbrev pub is_zero : List ℕ → Bool
is_zero xs = all (eqb 0) xs

-- the two lists are equal
unfoldable pub same : List ℕ → List ℕ → Bool
same [] [] = true
same [] (y ∷ ys) = false
same (x ∷ xs) [] = false
same (x ∷ xs) (y ∷ ys) = eqb x y and same xs ys

-- ---- records of one width, one after the other

-- the first k records of w bytes
unfoldable pub chunks : ℕ → ℕ → List ℕ → List (List ℕ)
chunks w zero xs = []
chunks w (suc k) xs = take w xs ∷ chunks w k (drop w xs)

-- record i replaced by e
unfoldable pub put_chunk : ℕ → ℕ → List ℕ → List ℕ → List ℕ
put_chunk w zero e xs = e ++ drop w xs
put_chunk w (suc i) e xs = take w xs ++ put_chunk w i e (drop w xs)

-- lists one after the other
abbrev pub flat : List (List ℕ) → List ℕ
flat [] = []
flat (x ∷ xs) = x ++ flat xs
