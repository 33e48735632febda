-- Laws of refusal rows: `passes` hands out the fact of the row with a given number, whatever stands around it.
use mathlib.Core.Path.{◌≡◌, refl, sym, ap, ◌∙◌}
use mathlib.Core.Logic.{◌⊎◌, inl, inr, ◌↔◌}
use mathlib.Core.Bool.{Bool, true, false, cond, true≢false, false≢true}
use mathlib.Core.List.{List, [], ◌∷◌, ◌++◌}
use mathlib.Core.Option.{Option, none, some}
use Prim.Native.Nat.{ℕ}
use lib.Dec.{eqb}
use lib.ListN.{drop}
use borrow.Author.Tests.{eq-eqb, eqb-true}
use Rattle.octets.specs.Tests.{◌and◌, any}
use Rattle.octets.specs.Rows.{Row, pick_row, refusal}
use Rattle.octets.proofs.Bools.{and_i, or-il, or-ir, or-false-l, or-false-r, some-none, bool_cases, clash}

pub pick-none : (b : Bool) (k : ℕ) (r : Option ℕ) → pick_row b k r ≡ none → (b ≡ false) × (r ≡ none)
unfolding pick_row
pick-none true k r e = absurd (some-none e)
pick-none false k r e = (refl, e)

pub pick-false : (b : Bool) (k : ℕ) (r : Option ℕ) → b ≡ false → pick_row b k r ≡ r
unfolding pick_row
pick-false true k r e = absurd (true≢false e)
pick-false false k r e = refl

pub pick_true : (b : Bool) (k : ℕ) (r : Option ℕ) → b ≡ true → pick_row b k r ≡ some k
unfolding pick_row
pick_true true k r e = refl
pick_true false k r e = absurd (false≢true e)

-- the test of the row with the number k
abbrev pub test_of : ℕ → List Row → Bool
test_of k [] = false
test_of k (r ∷ rs) = cond (eqb k r.number) r.holds (test_of k rs)

-- the rows from that of the number k on
abbrev pub rows_from : ℕ → List Row → List Row
rows_from k [] = []
rows_from k (r ∷ rs) = cond (eqb k r.number) (r ∷ rs) (rows_from k rs)

-- the rows before that of the number k
abbrev pub rows_before : ℕ → List Row → List Row
rows_before k [] = []
rows_before k (r ∷ rs) = cond (eqb k r.number) [] (r ∷ rows_before k rs)

-- where no row holds, the row of each number does not: read off by number, whatever stands around it
pub passes : (k : ℕ) (rs : List Row) → refusal rs ≡ none → test_of k rs ≡ false
passes k [] e = refl
passes k (r ∷ rs) e =
    let w = pick-none r.holds r.number (refusal rs) e in go (bool_cases (eqb k r.number)) w.0 (passes k rs w.1)
  where
    go : (eqb k r.number ≡ true) ⊎ (eqb k r.number ≡ false) → r.holds ≡ false → test_of k rs ≡ false → test_of k (r ∷ rs) ≡ false
    go (inl q) a b = rw q a
    go (inr q) a b = rw q b

pub refusal-append : (rs qs : List Row) → refusal rs ≡ none → refusal (rs ++ qs) ≡ refusal qs
refusal-append [] qs e = refl
refusal-append (r ∷ rs) qs e =
    let w = pick-none r.holds r.number (refusal rs) e in pick-false r.holds r.number (refusal (rs ++ qs)) w.0 ∙ refusal-append rs qs w.1

pub refusal-first : (rs qs : List Row) (k : ℕ) → refusal rs ≡ some k → refusal (rs ++ qs) ≡ some k
refusal-first [] qs k e = absurd (some-none (sym e))
refusal-first (r ∷ rs) qs k e = go (bool_cases r.holds) (refusal-first rs qs k)
  where
    go : (r.holds ≡ true) ⊎ (r.holds ≡ false) → (refusal rs ≡ some k → refusal (rs ++ qs) ≡ some k) → refusal (r ∷ rs ++ qs) ≡ some k
    go (inl q) ih = pick_true _ _ _ q ∙ sym (pick_true _ _ _ q) ∙ e
    go (inr q) ih = pick-false _ _ _ q ∙ ih (sym (pick-false _ _ _ q) ∙ e)

pub refusal-before : (rs qs : List Row) → refusal (rs ++ qs) ≡ none → (refusal rs ≡ none) × (refusal qs ≡ none)
refusal-before [] qs e = (refl, e)
refusal-before (r ∷ rs) qs e =
    let w = pick-none r.holds r.number (refusal (rs ++ qs)) e in
    let v = refusal-before rs qs w.1 in
    (pick-false r.holds r.number (refusal rs) w.0 ∙ v.0, v.1)

-- a row that does not hold may be left out
pub refusal-without : (rs : List Row) (r : Row) (qs : List Row) → r.holds ≡ false → refusal (rs ++ (r ∷ qs)) ≡ refusal (rs ++ qs)
refusal-without [] r qs e = pick-false r.holds r.number (refusal qs) e
refusal-without (x ∷ rs) r qs e = ap (pick_row x.holds x.number) (refusal-without rs r qs e)

-- a number that is given is that of a row that holds
pub refusal-holds : (k : ℕ) (rs : List Row) → refusal rs ≡ some k → any (λ r. eqb k r.number and r.holds) rs ≡ true
refusal-holds k [] e = absurd (some-none (sym e))
refusal-holds k (r ∷ rs) e = go (bool_cases r.holds) (refusal-holds k rs)
  where
    go : (r.holds ≡ true) ⊎ (r.holds ≡ false) → (refusal rs ≡ some k → any (λ r. eqb k r.number and r.holds) rs ≡ true)
        → any (λ r. eqb k r.number and r.holds) (r ∷ rs) ≡ true
    go (inl q) ih =
        let w = pick_true r.holds r.number (refusal rs) q in
        let z : k ≡ r.number = cc in
        or-il _ _ (and_i _ _ (eq-eqb k r.number z) q)
    go (inr q) ih = or-ir _ _ (ih (sym (pick-false r.holds r.number (refusal rs) q) ∙ e))

-- ---- a refusal with the number k

numberless : (k : ℕ) (rs : List Row) → any (λ r. eqb k r.number) rs ≡ false → refusal rs ≡ some k → ⊥
numberless k [] o e = some-none (sym e)
numberless k (r ∷ rs) o e = go (bool_cases r.holds) (numberless k rs)
  where
    go : (r.holds ≡ true) ⊎ (r.holds ≡ false) → (any (λ r. eqb k r.number) rs ≡ false → refusal rs ≡ some k → ⊥) → ⊥
    go (inl q) ih =
        let n : some r.number ≡ some k = sym (pick_true _ _ (refusal rs) q) ∙ e in
        let w : k ≡ r.number = cc in
        clash (eq-eqb k r.number w) (or-false-l _ _ o)
    go (inr q) ih = ih (or-false-r _ _ o) (sym (pick-false _ _ (refusal rs) q) ∙ e)

-- is given exactly where no row before that of k holds, and that one does; no row after it has its number
pub refused-by : (k : ℕ) (rs : List Row) → any (λ r. eqb k r.number) (drop 1 (rows_from k rs)) ≡ false
    → (refusal rs ≡ some k) ↔ ((refusal (rows_before k rs) ≡ none) × (test_of k rs ≡ true))
refused-by k [] o = (λ e. absurd (some-none (sym e)), λ w. absurd (false≢true w.1))
refused-by k (r ∷ rs) o = go (bool_cases (eqb k r.number)) (bool_cases r.holds) (refused-by k rs)
  where
    Exactly : List Row → Type 0
    Exactly qs = (refusal qs ≡ some k) ↔ ((refusal (rows_before k qs) ≡ none) × (test_of k qs ≡ true))

    go : (eqb k r.number ≡ true) ⊎ (eqb k r.number ≡ false) → (r.holds ≡ true) ⊎ (r.holds ≡ false)
        → (any (λ r. eqb k r.number) (drop 1 (rows_from k rs)) ≡ false → Exactly rs) → Exactly (r ∷ rs)
    go (inl q) (inl h) ih = (λ e. rw q (refl, h), λ w. pick_true _ _ (refusal rs) h ∙ ap some (sym (eqb-true k r.number q)))
    go (inl q) (inr h) ih = (
      λ e. absurd (numberless k rs (rw q at o) (sym (pick-false _ _ (refusal rs) h) ∙ e)),
      λ w. absurd (clash (rw q at w.1) h),
    )
    go (inr q) (inl h) ih = (
      λ e. let n : some r.number ≡ some k = sym (pick_true _ _ (refusal rs) h) ∙ e in
          let w : k ≡ r.number = cc in
          absurd (clash (eq-eqb k r.number w) q),
      λ w. absurd (some-none (sym (pick_true _ _ (refusal (rows_before k rs)) h) ∙ rw q at w.0)),
    )
    go (inr q) (inr h) ih =
        let v = ih (rw q at o) in (
          λ e. let w = v.0 (sym (pick-false _ _ (refusal rs) h) ∙ e) in rw q (pick-false _ _ (refusal (rows_before k rs)) h ∙ w.0, w.1),
          λ w. pick-false _ _ (refusal rs) h
              ∙ v.1 (sym (pick-false _ _ (refusal (rows_before k rs)) h) ∙ rw q at w.0, rw q at w.1),
        )
