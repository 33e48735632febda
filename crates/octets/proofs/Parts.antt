-- Laws of parts of byte lists.
use mathlib.Core.Path.{◌≡◌, refl, sym, ap, ◌∙◌}
use mathlib.Core.List.{List, [], ◌∷◌, ◌++◌}
use Prim.Native.Nat.{ℕ, zero, suc, ◌+◌, ◌-◌, ◌≤◌, ◌<◌}
use native.Mathlib.Nat.{zero-add, suc-add}
use native.Mathlib.Omega.{arith}
use lib.ListN.{length, get_or, take, drop, length-drop, length-replicate, take-append-drop}
use lib.Seq.{take_at, drop_at, drop-append-add, drop-append-le, take-append-le, length-take-le, take_all, take-nil, take-take, drop-drop, get_or-take}
use lib.Seq.{get_or-drop}
use Rattle.octets.specs.Bytes.{part, rest, zeros}

-- ---- a part of two lists one after the other

pub part-here : (p q : List ℕ) (k : ℕ) → length p ≡ k → part 0 k (p ++ q) ≡ p
unfolding part
part-here p q k e = take_at p q k e

pub part-skip : (p q : List ℕ) (m at k : ℕ) → length p ≡ m → part (m + at) k (p ++ q) ≡ part at k q
unfolding part
part-skip p q m at k e = ap (take k) (ap (λ (x : ℕ). drop (x + at) (p ++ q)) (sym e) ∙ drop-append-add p q at)

pub part-from : (p q : List ℕ) (m k : ℕ) → length p ≡ m → part m k (p ++ q) ≡ part 0 k q
unfolding part
part-from p q m k e = ap (take k) (drop_at p q m e)

pub part_in : (p q : List ℕ) (at k : ℕ) → at + k ≤ length p → part at k (p ++ q) ≡ part at k p
unfolding part
part_in p q at k h =
    ap (take k) (drop-append-le at p q (omega arith)) ∙ take-append-le k (drop at p) q (simp length-drop (omega arith))

pub part-whole : (p : List ℕ) (k : ℕ) → length p ≡ k → part 0 k p ≡ p
unfolding part
part-whole p k e = take_all k p (omega arith)

pub rest_at : (p q : List ℕ) (m : ℕ) → length p ≡ m → rest m (p ++ q) ≡ q
unfolding rest
rest_at p q m e = drop_at p q m e

-- ---- lengths and elements

pub length_part : (xs : List ℕ) (at k : ℕ) → at + k ≤ length xs → length (part at k xs) ≡ k
unfolding part
length_part xs at k h = length-take-le k (drop at xs) (simp length-drop (omega arith))

pub length_rest : (xs : List ℕ) (at : ℕ) → length (rest at xs) ≡ length xs - at
unfolding rest
length_rest xs at = length-drop at xs

pub length-zeros : (k : ℕ) → length (zeros k) ≡ k
unfolding zeros
length-zeros k = length-replicate k 0

pub part-zeros : (at k m : ℕ) → at + k ≤ m → part at k (zeros m) ≡ zeros k
unfolding part zeros
part-zeros zero zero m h = refl
part-zeros zero (suc k) zero h = absurd (omega arith)
part-zeros zero (suc k) (suc m) h = ap (λ (l : List ℕ). 0 ∷ l) (part-zeros zero k m (omega arith))
part-zeros (suc at) k zero h = absurd (omega arith)
part-zeros (suc at) k (suc m) h = part-zeros at k m (omega arith)

pub get_d_part : (xs : List ℕ) (at k i : ℕ) → i < k → get_or (part at k xs) i 0 ≡ get_or xs (at + i) 0
unfolding part
get_d_part xs at k i h = get_or-take k (drop at xs) i 0 h ∙ get_or-drop at xs i 0

-- ---- the parts make the whole

pub part-on : (xs : List ℕ) (at k : ℕ) → part at k xs ++ rest (at + k) xs ≡ rest at xs
unfolding part rest
part-on xs at k = ap (λ (l : List ℕ). take k (drop at xs) ++ l) (sym (drop-drop k at xs)) ∙ take-append-drop k (drop at xs)

-- ---- a part of a part

drop-take : (a k : ℕ) (xs : List ℕ) → drop a (take (a + k) xs) ≡ take k (drop a xs)
drop-take zero k xs = rw zero-add
drop-take (suc a) k [] = rw (suc-add, take-nil)
drop-take (suc a) k (x ∷ xs) = rw suc-add (drop-take a k xs)

pub part-part : (i m a k : ℕ) (xs : List ℕ) → i + m ≤ k → part i m (part a k xs) ≡ part (a + i) m xs
unfolding part
part-part i m a k xs h =
    let e : k ≡ i + (k - i) = omega arith in
    rw e (ap (take m) (drop-take i (k - i) (drop a xs)) ∙ take-take m (k - i) (drop i (drop a xs)) (omega arith) ∙ ap (take m) (drop-drop i a xs))

pub part-of-rest : (i k at : ℕ) (xs : List ℕ) → part i k (rest at xs) ≡ part (at + i) k xs
unfolding part rest
part-of-rest i k at xs = ap (take k) (drop-drop i at xs)

-- what a part lent from k to the end holds
pub rest-slice : (k : ℕ) (xs : List ℕ) → take (length xs - k) (drop k xs) ≡ rest k xs
unfolding rest
rest-slice k xs = take_all (length xs - k) (drop k xs) (simp length-drop (omega arith))
