-- Laws of writes into byte lists.
use mathlib.Core.Path.{◌≡◌, refl, sym, ap, ◌∙◌}
use mathlib.Core.Logic.{◌⊎◌, inl, inr, ◌≢◌}
use mathlib.Core.List.{List, [], ◌∷◌, ◌++◌, append_assoc, append-nil}
use Prim.Native.Nat.{ℕ, suc, ◌+◌, ◌-◌, ◌/◌, ◌%◌, ◌^◌, ◌≤◌, ◌<◌}
use native.Mathlib.Nat.{add-zero, add-suc, suc-add}
use native.Mathlib.Omega.{arith}
use lib.ListN.{length, get_or, set, take, drop, drop_of_length-le, take-append-drop}
use lib.Seq.{sets, length-sets, sets-eq, take-set-le, take-set-lt, drop-set-lt, drop-set-add, drop-drop, set_comm, set-set, get_or-set_other}
use Rattle.octets.specs.Bytes.{le, part, put}
use Rattle.octets.proofs.Numbers.{length-le, le-add, le-mod}
use Rattle.octets.proofs.Parts.{length_part}

pub length-put : (at : ℕ) (vs xs : List ℕ) → length (put at vs xs) ≡ length xs
unfolding put
length-put at vs xs = length-sets xs at vs

-- ---- one write after the other

-- two runs, one after the other, are one run
pub put-put : (us vs xs : List ℕ) (at : ℕ) → put (at + length us) vs (put at us xs) ≡ put at (us ++ vs) xs
unfolding put
put-put [] vs xs at = rw add-zero
put-put (u ∷ us) vs xs at = rw (add-suc, ← suc-add) (put-put us vs (set xs at u) (suc at))

-- one element more
pub put-snoc : (us xs : List ℕ) (v at : ℕ) → put at (us ++ (v ∷ [])) xs ≡ set (put at us xs) (at + length us) v
unfolding put
put-snoc us xs v at = sym (put-put us (v ∷ []) xs at)

-- a run written right after a run: what straight-line code that fills a record leaves, step by step
pub then : (xs us ys vs zs : List ℕ) (at k : ℕ) → ys ≡ put at us xs → zs ≡ put k vs ys → at + length us ≡ k → zs ≡ put at (us ++ vs) xs
then xs us ys vs zs at k p q e = q ∙ rw (p, ← e) (put-put us vs xs at)

-- what two stores of half the width leave is the store of the whole
pub store-halves : (n v at : ℕ) (xs ys zs : List ℕ) → ys ≡ put at (le n (v % 256 ^ n)) xs → zs ≡ put (at + n) (le n (v / 256 ^ n)) ys
    → zs ≡ put at (le (n + n) v) xs
store-halves n v at xs ys zs p q =
    q
    ∙ rw (p, le-mod, le-add n n v)
    (ap (λ (k : ℕ). put (at + k) (le n (v / 256 ^ n)) (put at (le n v) xs)) (sym (length-le n v)) ∙ put-put (le n v) (le n (v / 256 ^ n)) xs at)

-- ---- a write against `take`, `drop` and parts

pub put-eq : (at : ℕ) (vs xs : List ℕ) → at + length vs ≤ length xs → put at vs xs ≡ take at xs ++ vs ++ drop (at + length vs) xs
unfolding put
put-eq at vs xs h = sets-eq vs xs at h

pub put_all : (vs xs : List ℕ) → length vs ≡ length xs → put 0 vs xs ≡ vs
put_all vs xs e =
    put-eq 0 vs xs (omega arith)
    ∙ ap (λ (l : List ℕ). vs ++ l) (drop_of_length-le xs {i = 0 + length vs} (omega arith))
    ∙ append-nil vs

pub take_put : (vs xs : List ℕ) (i n : ℕ) → n ≤ i → take n (put i vs xs) ≡ take n xs
unfolding put
take_put [] xs i n h = refl
take_put (v ∷ vs) xs i n h = take_put vs (set xs i v) (suc i) n (omega arith) ∙ take-set-le n xs i v h

pub drop-put : (vs xs : List ℕ) (i n : ℕ) → i + length vs ≤ n → drop n (put i vs xs) ≡ drop n xs
unfolding put
drop-put [] xs i n h = refl
drop-put (v ∷ vs) xs i n h = drop-put vs (set xs i v) (suc i) n (omega arith) ∙ drop-set-lt n xs i v (omega arith)

pub drop-put-in : (vs xs : List ℕ) (a i : ℕ) → drop a (put (a + i) vs xs) ≡ put i vs (drop a xs)
unfolding put
drop-put-in [] xs a i = refl
drop-put-in (v ∷ vs) xs a i =
    rw (← add-suc) (drop-put-in vs (set xs (a + i) v) a (suc i) ∙ ap (λ (l : List ℕ). sets l (suc i) vs) (drop-set-add a xs i v))

pub take-put-in : (vs xs : List ℕ) (k i : ℕ) → i + length vs ≤ k → take k (put i vs xs) ≡ put i vs (take k xs)
unfolding put
take-put-in [] xs k i h = refl
take-put-in (v ∷ vs) xs k i h =
    take-put-in vs (set xs i v) k (suc i) (omega arith) ∙ ap (λ (l : List ℕ). sets l (suc i) vs) (take-set-lt k xs i v (omega arith))

-- a part after a write inside it, before it, behind it, clear of it
pub part-put-in : (vs xs : List ℕ) (a k i : ℕ) → i + length vs ≤ k → part a k (put (a + i) vs xs) ≡ put i vs (part a k xs)
unfolding part
part-put-in vs xs a k i h = ap (take k) (drop-put-in vs xs a i) ∙ take-put-in vs (drop a xs) k i h

pub part-put-below : (vs xs : List ℕ) (a k i : ℕ) → i + length vs ≤ a → part a k (put i vs xs) ≡ part a k xs
unfolding part
part-put-below vs xs a k i h = ap (take k) (drop-put vs xs i a h)

pub part-put-above : (vs xs : List ℕ) (a k i : ℕ) → a + k ≤ i → part a k (put i vs xs) ≡ part a k xs
unfolding part
part-put-above vs xs a k i h =
    let e : i ≡ a + (i - a) = omega arith in
    rw e (ap (take k) (drop-put-in vs xs a (i - a)) ∙ take_put vs (drop a xs) (i - a) k (omega arith))

pub part-put-out : (vs xs : List ℕ) (a k i : ℕ) → (i + length vs ≤ a) ⊎ (a + k ≤ i) → part a k (put i vs xs) ≡ part a k xs
part-put-out vs xs a k i (inl h) = part-put-below vs xs a k i h
part-put-out vs xs a k i (inr h) = part-put-above vs xs a k i h

-- a part that is what was written
pub part-put-same : (vs xs : List ℕ) (a : ℕ) → a + length vs ≤ length xs → part a (length vs) (put a vs xs) ≡ vs
part-put-same vs xs a h =
    let z : a ≡ a + 0 = sym (add-zero a) in
    ap (λ (k : ℕ). part a (length vs) (put k vs xs)) z
    ∙ part-put-in vs xs a (length vs) 0 (omega arith)
    ∙ put_all vs (part a (length vs) xs) (sym (length_part xs a (length vs) h))

-- ---- what a lent part of xs comes back as

glue : (xs : List ℕ) (a k : ℕ) → take a xs ++ (part a k xs ++ drop k (drop a xs)) ≡ xs
unfolding part
glue xs a k = rw (take-append-drop k (drop a xs)) (take-append-drop a xs)

-- where the callee wrote into it
pub put-part : (vs xs : List ℕ) (a k i : ℕ) → i + length vs ≤ k
    → take a xs ++ (put i vs (part a k xs) ++ drop k (drop a xs)) ≡ put (a + i) vs xs
put-part vs xs a k i h =
    let ys = put (a + i) vs xs in
    let t : take a ys ≡ take a xs = take_put vs xs (a + i) a (omega arith) in
    let p : part a k ys ≡ put i vs (part a k xs) = part-put-in vs xs a k i h in
    let d : drop k (drop a ys) ≡ drop k (drop a xs) = drop-drop k a ys ∙ drop-put vs xs (a + i) (a + k) (omega arith) ∙ sym (drop-drop k a xs) in
    sym (rw (t, p, d) at (sym (glue ys a k)))

-- where the callee replaced it whole
pub put_back : (xs ys : List ℕ) (a k : ℕ) → a + k ≤ length xs → length ys ≡ k → take a xs ++ (ys ++ drop k (drop a xs)) ≡ put a ys xs
put_back xs ys a k h e =
    let l : a + length ys ≤ length xs = omega arith in
    rw (drop-drop k a xs, put-eq a ys xs l, e) (sym (append_assoc (take a xs) ys (drop (a + k) xs)))

-- ---- writes that share no place commute; a write over a write of the same length

set-put : (vs xs : List ℕ) (i j u : ℕ) → i < j → put j vs (set xs i u) ≡ set (put j vs xs) i u
unfolding put
set-put [] xs i j u h = refl
set-put (v ∷ vs) xs i j u h =
    ap (λ (l : List ℕ). sets l (suc j) vs) (set_comm xs i j u v (λ e. omega (arith, e))) ∙ set-put vs (set xs j v) i (suc j) u (omega arith)

pub put-comm : (us vs xs : List ℕ) (i j : ℕ) → i + length us ≤ j → put j vs (put i us xs) ≡ put i us (put j vs xs)
unfolding put
put-comm [] vs xs i j h = refl
put-comm (u ∷ us) vs xs i j h =
    put-comm us vs (set xs i u) (suc i) j (omega arith) ∙ ap (λ (l : List ℕ). sets l (suc i) us) (set-put vs xs i j u (omega arith))

pub put-over : (us vs xs : List ℕ) (i : ℕ) → length us ≡ length vs → put i vs (put i us xs) ≡ put i vs xs
unfolding put
put-over [] [] xs i e = refl
put-over [] (v ∷ vs) xs i e = absurd (omega (arith, e))
put-over (u ∷ us) [] xs i e = absurd (omega (arith, e))
put-over (u ∷ us) (v ∷ vs) xs i e =
    ap (λ (l : List ℕ). sets l (suc i) vs) (sym (set-put us (set xs i u) i (suc i) v (omega arith))
    ∙ ap (λ (l : List ℕ). sets l (suc i) us) (set-set xs i u v))
    ∙ put-over us vs (set xs i v) (suc i) (omega (arith, e))

-- a part written back with a write in it is that write
pub put-inside : (vs xs : List ℕ) (a k i : ℕ) → a + k ≤ length xs → i + length vs ≤ k → put a (put i vs (part a k xs)) xs ≡ put (a + i) vs xs
put-inside vs xs a k i h g =
    sym (put_back xs (put i vs (part a k xs)) a k h (length-put i vs (part a k xs) ∙ length_part xs a k h)) ∙ put-part vs xs a k i g

-- what stands there already
pub put_self : (xs : List ℕ) (a k : ℕ) → a + k ≤ length xs → put a (part a k xs) xs ≡ xs
unfolding put
put_self xs a k h = put-inside [] xs a k 0 h (omega arith)

-- a byte outside a write
pub get_or-put-out : (vs xs : List ℕ) (at k : ℕ) → (k < at) ⊎ (at + length vs ≤ k) → get_or (put at vs xs) k 0 ≡ get_or xs k 0
unfolding put
get_or-put-out [] xs at k h = refl
get_or-put-out (v ∷ vs) xs at k h = get_or-put-out vs (set xs at v) (suc at) k (on h) ∙ get_or-set_other xs at k v 0 (ne h)
  where
    on : (k < at) ⊎ (at + suc (length vs) ≤ k) → (k < suc at) ⊎ (suc at + length vs ≤ k)
    on (inl w) = inl (omega arith)
    on (inr w) = inr (omega arith)

    ne : (k < at) ⊎ (at + suc (length vs) ≤ k) → k ≢ at
    ne (inl w) e = omega arith
    ne (inr w) e = omega arith
