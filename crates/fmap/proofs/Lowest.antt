-- Laws of `first_from`: along a loop, and of what it finds.
use mathlib.Core.Path.{◌≡◌, refl, ap, ◌∙◌}
use mathlib.Core.Bool.{Bool, true, false, cond}
use Prim.Native.Nat.{ℕ, zero, suc, ◌+◌, ◌-◌, ◌≤◌, ◌<◌}
use native.Mathlib.Numerals.{add-one}
use native.Mathlib.Nat.{add-zero, add-suc, suc-add}
use native.Mathlib.Omega.{arith}
use lib.Dec.{eqb}
use borrow.Author.Tests.{eqb-true, eqb-false}
use Rattle.fmap.specs.Lowest.{first_from}

-- one more is passed
pub first_step : (k i : ℕ) (p : ℕ → Bool) → i < k → p i ≡ false → first_from (k - i) i p ≡ first_from (k - (i + 1)) (i + 1) p
unfolding first_from
first_step k i p h e =
    let s : k - i ≡ suc (k - (i + 1)) = omega arith in
    rw (s, e, add-one)

-- m more are passed
pub first-skip : (m k i : ℕ) (p : ℕ → Bool) → i + m ≤ k → ((j : ℕ) → i ≤ j → j < i + m → p j ≡ false)
    → first_from (k - i) i p ≡ first_from (k - (i + m)) (i + m) p
first-skip zero k i p h f = rw add-zero
first-skip (suc m) k i p h f =
    first_step k i p (omega arith) (f i (omega arith) (omega arith))
    ∙ rw (add-one, add-suc, ← suc-add) (first-skip m k (suc i) p (omega arith) (λ j a b. f j (omega arith) (omega arith)))

pub first-stop : (k i : ℕ) (p : ℕ → Bool) → i < k → p i ≡ true → first_from (k - i) i p ≡ i
unfolding first_from
first-stop k i p h e =
    let s : k - i ≡ suc (k - (i + 1)) = omega arith in
    rw (s, e)

pub first-end : (k i : ℕ) (p : ℕ → Bool) → k ≤ i → first_from (k - i) i p ≡ i
unfolding first_from
first-end k i p h =
    let s : k - i ≡ 0 = omega arith in
    rw s

-- none from i on
pub first-none : (k i : ℕ) (p : ℕ → Bool) → i ≤ k → ((j : ℕ) → i ≤ j → j < k → p j ≡ false) → first_from (k - i) i p ≡ k
first-none k i p h f =
    let e : i + (k - i) ≡ k = omega arith in
    first-skip (k - i) k i p (omega arith) (λ j a b. f j a (omega arith)) ∙ rw e (first-end k k p (omega arith))

pub first-bound : (k i : ℕ) (p : ℕ → Bool) → first_from k i p ≤ i + k
unfolding first_from
first-bound zero i p = omega arith
first-bound (suc k) i p = go (p i) (first-bound k (suc i) p)
  where
    go : (t : Bool) → first_from k (suc i) p ≤ suc i + k → cond t i (first_from k (suc i) p) ≤ i + suc k
    go true h = omega arith
    go false h = omega arith

pub first-least : (k i : ℕ) (p : ℕ → Bool) → i ≤ first_from k i p
unfolding first_from
first-least zero i p = omega arith
first-least (suc k) i p = go (p i) (first-least k (suc i) p)
  where
    go : (t : Bool) → suc i ≤ first_from k (suc i) p → i ≤ cond t i (first_from k (suc i) p)
    go true h = omega arith
    go false h = omega arith

pub first-from : (k i r : ℕ) (p : ℕ → Bool) → r ≡ first_from k i p → i ≤ r
first-from k i r p e = omega (arith, first-least k i p)

-- where the first is in range, the test holds there
pub first-hit : (k i : ℕ) (p : ℕ → Bool) → first_from k i p < i + k → p (first_from k i p) ≡ true
unfolding first_from
first-hit zero i p h = absurd (omega arith)
first-hit (suc k) i p h = go (p i) refl h (first-hit k (suc i) p)
  where
    go : (t : Bool) → p i ≡ t → cond t i (first_from k (suc i) p) < i + suc k → (first_from k (suc i) p < suc i + k → p (first_from k (suc i) p) ≡ true)
        → p (cond t i (first_from k (suc i) p)) ≡ true
    go true e l f = e
    go false e l f = f (omega arith)

-- and it fails at each before
pub first-before : (k i : ℕ) (p : ℕ → Bool) (j : ℕ) → i ≤ j → j < first_from k i p → p j ≡ false
unfolding first_from
first-before zero i p j a b = absurd (omega arith)
first-before (suc k) i p j a b = go (p i) refl b (first-before k (suc i) p j)
  where
    go : (t : Bool) → p i ≡ t → j < cond t i (first_from k (suc i) p) → (suc i ≤ j → j < first_from k (suc i) p → p j ≡ false) → p j ≡ false
    go true e l f = absurd (omega arith)
    go false e l f = at (eqb j i) refl
      where
        at : (u : Bool) → eqb j i ≡ u → p j ≡ false
        at true w = ap p (eqb-true j i w) ∙ e
        at false w = let n : j ≡ i → ⊥ = eqb-false j i w in f (omega arith) l
