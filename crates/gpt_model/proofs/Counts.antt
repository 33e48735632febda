-- Blocks counted one by one: those in partitions that share none are as many as the partitions' sizes together, and the rest are free.
use mathlib.Core.Path.{◌≡◌, refl, ap, ap₂, ◌∙◌}
use mathlib.Core.Logic.{◌⊎◌, inl, inr, ⊎_elim}
use mathlib.Core.Bool.{Bool, true, false, not}
use mathlib.Core.List.{List, [], ◌∷◌, map}
use Prim.Native.Nat.{ℕ, zero, suc, ◌+◌, ◌-◌, ◌≤◌, ◌<◌}
use native.Mathlib.Nat.{not-suc-le-zero, le_of_suc-le-suc, suc-add, zero-add, add-zero}
use native.Mathlib.Omega.{arith}
use lib.ListN.{length, get_or, set, replicate}
use borrow.Author.Tests.{ltb-true, leb-true, le-leb}
use Rattle.octets.specs.Tests.{◌or◌, all, pairs}
use Rattle.octets.proofs.Bools.{and_l, and_r, and_i, or_cases, bool_cases}
use Rattle.octets.proofs.Tests.{all-get, any-get}
use Rattle.gpt_model.specs.Table.{BlockRange, no_blocks, spans, range_size, bounded, apart}
use Rattle.gpt_model.specs.Ranges.{block_in, in_some, bit, count_from, taken, free_count}
use Rattle.gpt_model.specs.Lists.{total}
use Rattle.gpt_model.proofs.Room.{block_in-make, block_in-get, block_in-none}

-- ---- count_from

pub count-false : (p : ℕ → Bool) (lo k : ℕ) → ((b : ℕ) → lo ≤ b → b < lo + k → p b ≡ false) → count_from p lo k ≡ 0
unfolding count_from
count-false p lo zero f = refl
count-false p lo (suc k) f =
    rw (f lo (omega arith) (omega arith)) (omega (arith, count-false p (suc lo) k (λ b h g. f b (omega arith) (omega arith))))

pub count-true : (p : ℕ → Bool) (lo k : ℕ) → ((b : ℕ) → lo ≤ b → b < lo + k → p b ≡ true) → count_from p lo k ≡ k
unfolding count_from
count-true p lo zero f = refl
count-true p lo (suc k) f =
    rw (f lo (omega arith) (omega arith)) (omega (arith, count-true p (suc lo) k (λ b h g. f b (omega arith) (omega arith))))

pub count_add : (p : ℕ → Bool) (lo a b : ℕ) → count_from p lo (a + b) ≡ count_from p lo a + count_from p (lo + a) b
unfolding count_from
count_add p lo zero b = rw (zero-add, add-zero) (omega arith)
count_add p lo (suc a) b = rw (suc-add a b) (omega (arith, count_add p (suc lo) a b, ap (λ (x : ℕ). count_from p x b) (suc-shift lo a)))
  where
    suc-shift : (x y : ℕ) → suc x + y ≡ x + suc y
    suc-shift x y = omega arith

bit_or : (x y : Bool) → (x ≡ true → y ≡ true → ⊥) → bit (x or y) ≡ bit x + bit y
unfolding ◌or◌
bit_or true true h = absurd (h refl refl)
bit_or true false h = refl
bit_or false true h = refl
bit_or false false h = refl

count-or : (p q : ℕ → Bool) (lo k : ℕ) → ((b : ℕ) → p b ≡ true → q b ≡ true → ⊥)
    → count_from (λ b. p b or q b) lo k ≡ count_from p lo k + count_from q lo k
unfolding count_from
count-or p q lo zero h = refl
count-or p q lo (suc k) h = omega (arith, bit_or (p lo) (q lo) (h lo), count-or p q (suc lo) k h)

-- ---- blocks in partitions are the partitions' sizes together

pub bounded-get : (first last f l : ℕ) → bounded first last (spans f l) ≡ true → (first ≤ f) × (f ≤ l) × (l ≤ last)
unfolding bounded
bounded-get first last f l e =
    (leb-true _ _ (and_l _ _ (and_l _ _ e)), leb-true _ _ (and_r _ _ (and_l _ _ e)), leb-true _ _ (and_r _ _ e))

pub bounded-make : (first last f l : ℕ) → first ≤ f → f ≤ l → l ≤ last → bounded first last (spans f l) ≡ true
unfolding bounded
bounded-make first last f l p q r = and_i _ _ (and_i _ _ (le-leb _ _ p) (le-leb _ _ q)) (le-leb _ _ r)

outside : (b f l : ℕ) → (b < f) ⊎ (l < b) → block_in b (spans f l) ≡ false
unfolding block_in
outside b f l w = go (bool_cases (block_in b (spans f l)))
  where
    go : (block_in b (spans f l) ≡ true) ⊎ (block_in b (spans f l) ≡ false) → block_in b (spans f l) ≡ false
    go (inr e) = e
    go (inl e) = let r = block_in-get b f l e in absurd (⊎_elim (λ x. omega arith) (λ x. omega arith) w)

count_none : (lo k : ℕ) → count_from (λ b. block_in b no_blocks) lo k ≡ 0
unfolding block_in
count_none lo k = count-false (λ b. block_in b no_blocks) lo k (λ b h g. refl)

count-range : (first last : ℕ) (s : BlockRange) → bounded first last s ≡ true → count_from (λ b. block_in b s) first (suc last - first) ≡ range_size s
count-range first last no_blocks e = count_none first (suc last - first)
count-range first last (spans f l) e =
    let r = bounded-get first last f l e in
    let p : ℕ → Bool = λ b. block_in b (spans f l) in
    let split : suc last - first ≡ (f - first) + ((suc l - f) + (last - l)) = omega arith in
    ap (count_from p first) split
    ∙ count_add p first (f - first) ((suc l - f) + (last - l))
    ∙ ap₂ ◌+◌ (count-false p first (f - first) (λ b h g. outside b f l (inl (omega arith))))
    (count_add p (first + (f - first)) (suc l - f) (last - l)
    ∙ ap₂ ◌+◌ (count-true p (first + (f - first)) (suc l - f) (λ b h g. block_in-make b f l (omega arith) (omega arith)))
    (count-false p (first + (f - first) + (suc l - f)) (last - l) (λ b h g. outside b f l (inr (omega arith)))))
    ∙ omega arith

pub apart-get : (s u : BlockRange) → apart s u ≡ true → (b : ℕ) → block_in b s ≡ true → block_in b u ≡ true → ⊥
unfolding apart
apart-get no_blocks u e b p q = block_in-none b p
apart-get (spans f l) no_blocks e b p q = block_in-none b q
apart-get (spans f l) (spans g m) e b p q =
    let x = block_in-get b f l p in
    let y = block_in-get b g m q in
    ⊎_elim (λ w. let z : l < g = ltb-true _ _ w in omega arith) (λ w. let z : m < f = ltb-true _ _ w in omega arith) (or_cases _ _ e)

count-table : (first last : ℕ) (t : List BlockRange) → all (bounded first last) t ≡ true → pairs apart t ≡ true
    → count_from (in_some t) first (suc last - first) ≡ total (map range_size t)
count-table first last [] e f = count-false (in_some []) first (suc last - first) (λ b h g. refl)
count-table first last (s ∷ t) e f =
    count-or (λ b. block_in b s) (in_some t) first (suc last - first) (λ b p q. two b p (any-get (block_in b) t no_blocks q))
    ∙ ap₂ ◌+◌ (count-range first last s (and_l _ _ e)) (count-table first last t (and_r _ _ e) (and_r _ _ f))
  where
    two : (b : ℕ) → block_in b s ≡ true → (i : ℕ) × (i < length t) × (block_in b (get_or t i no_blocks) ≡ true) → ⊥
    two b p w = apart-get s (get_or t w.0 no_blocks) (all-get (apart s) t no_blocks (and_l _ _ f) w.0 w.1) b p w.2

pub taken-total : (first last : ℕ) (t : List BlockRange) → all (bounded first last) t ≡ true → pairs apart t ≡ true
    → taken t first last ≡ total (map range_size t)
unfolding taken
taken-total first last t e f = count-table first last t e f

-- what a store does to the sum of the sizes
pub total-set : (ks : List ℕ) (i k : ℕ) → i < length ks → total (set ks i k) + get_or ks i 0 ≡ total ks + k
total-set [] i k h = absurd (not-suc-le-zero h)
total-set (x ∷ ks) zero k h = omega arith
total-set (x ∷ ks) (suc i) k h = omega (arith, total-set ks i k (le_of_suc-le-suc h))

pub total-zeros : (k : ℕ) → total (replicate k 0) ≡ 0
total-zeros zero = refl
total-zeros (suc k) = omega (arith, total-zeros k)

-- ---- every usable block is in a partition or free

bit_not : (b : Bool) → bit b + bit (not b) ≡ 1
bit_not true = refl
bit_not false = refl

count-not : (p : ℕ → Bool) (lo k : ℕ) → count_from p lo k + count_from (λ b. not (p b)) lo k ≡ k
unfolding count_from
count-not p lo zero = refl
count-not p lo (suc k) = omega (arith, bit_not (p lo), count-not p (suc lo) k)

pub taken_free : (t : List BlockRange) (first last : ℕ) → taken t first last + free_count t first last ≡ suc last - first
unfolding taken free_count
taken_free t first last = count-not (in_some t) first (suc last - first)
