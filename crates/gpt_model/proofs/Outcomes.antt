-- The outcomes of a call, and what its rows say by number.
use mathlib.Core.Path.{◌≡◌, refl, sym, ap, ◌∙◌}
use mathlib.Core.Logic.{◌≢◌}
use mathlib.Core.Bool.{Bool, true, false, not, cond}
use mathlib.Core.List.{List, [], ◌∷◌}
use mathlib.Core.Option.{Option, none, some}
use Prim.Native.Nat.{ℕ}
use native.Mathlib.Omega.{arith}
use lib.Dec.{eqb}
use lib.ListN.{length}
use borrow.Author.Tests.{eqb-true, eqb-false, eq-eqb}
use Rattle.octets.specs.Tests.{◌and◌, ◌or◌, any}
use Rattle.octets.specs.Rows.{row, refusal}
use Rattle.octets.proofs.Bools.{and_l, and_r, and_i, clash, not_f}
use Rattle.octets.proofs.Rows.{rows_from, passes, pick-false, refusal-append, refusal-first, refusal-before, refusal-holds}
use Rattle.gpt_model.specs.Disk.{Shape, last_usable, in_range, primary, backup, lent_bytes, guid_in, entries_in, state, table_of, with_copy}
use Rattle.gpt_model.specs.Calls.{Edit, add, delete, resize, rename, Call, read, free_counts, repair, check, edit, Answer, refused, accepted, Outcome}
use Rattle.gpt_model.specs.Calls.{outcome, unless_refused, table_rows, lengths_of, common_rows, open_rows, rows_of, accepted_outcome, step}

-- ---- the two outcomes: refused, and nothing is changed; or accepted

module _ (g : Shape) (n : ℕ) (h t : List ℕ) (c : Call) where
  pub step-refused : (k : ℕ) → refusal (rows_of g n h t c) ≡ some k → step g n h t c ≡ outcome (refused k) h t
  unfolding step
  step-refused k e = ap (λ (q : Option ℕ). unless_refused q h t (accepted_outcome g n h t c)) e

  pub step-accepted : refusal (rows_of g n h t c) ≡ none → step g n h t c ≡ accepted_outcome g n h t c
  unfolding step
  step-accepted e = ap (λ (q : Option ℕ). unless_refused q h t (accepted_outcome g n h t c)) e

-- repair answers the state found
pub repair-answer : (g : Shape) (n : ℕ) (h t : List ℕ) → (accepted_outcome g n h t repair).answer ≡ accepted (state g n h t ∷ [])
repair-answer g n h t = go (eqb (state g n h t) 1) (eqb (state g n h t) 4)
  where
    a : Answer
    a = accepted (state g n h t ∷ [])

    go : (p q : Bool)
        → (cond p (outcome a h t)
        (cond q (outcome a (with_copy g n primary (guid_in g backup t) (entries_in g backup t) h) t)
        (outcome a h (with_copy g n backup (guid_in g primary h) (entries_in g primary h) t)))
        ).answer ≡ a
    go true q = refl
    go false true = refl
    go false false = refl

-- an accepted outcome answers values, so a refusal's number is that of the first row that holds
accepted-values : (g : Shape) (n : ℕ) (h t : List ℕ) (c : Call) → (values : List ℕ) × ((accepted_outcome g n h t c).answer ≡ accepted values)
accepted-values g n h t read = (_, refl)
accepted-values g n h t free_counts = (_, refl)
accepted-values g n h t repair = (_, repair-answer g n h t)
accepted-values g n h t (check rule) = (_, refl)
accepted-values g n h t (edit d) = (_, refl)

pub refused-row : (g : Shape) (n : ℕ) (h t : List ℕ) (c : Call) (k : ℕ) → (step g n h t c).answer ≡ refused k → refusal (rows_of g n h t c) ≡ some k
refused-row g n h t c k a = go (refusal (rows_of g n h t c)) refl
  where
    go : (q : Option ℕ) → refusal (rows_of g n h t c) ≡ q → q ≡ some k
    go none e =
        let w = accepted-values g n h t c in
        let b : (accepted_outcome g n h t c).answer ≡ refused k = ap (λ (o : Outcome). o.answer) (sym (step-accepted g n h t c e)) ∙ a in
        let v = w.1 in
        let z : ◌≡◌ {A = ℕ} 0 1 = cc in
        absurd (omega arith)
    go (some j) e =
        let b : refused j ≡ refused k = ap (λ (o : Outcome). o.answer) (sym (step-refused g n h t c j e)) ∙ a in
        cc

-- and where it is accepted no row holds
pub accepted-none : (g : Shape) (n : ℕ) (h t : List ℕ) (c : Call) (values : List ℕ) → (step g n h t c).answer ≡ accepted values
    → refusal (rows_of g n h t c) ≡ none
accepted-none g n h t c values a = go (refusal (rows_of g n h t c)) refl
  where
    go : (q : Option ℕ) → refusal (rows_of g n h t c) ≡ q → q ≡ none
    go none e = refl
    go (some k) e =
        let b = ap (λ (o : Outcome). o.answer) (step-refused g n h t c k e) in
        let z : ◌≡◌ {A = ℕ} 0 1 = cc in
        absurd (omega arith)

-- in state 1 rows 10 and 11 do not hold
module _ (g : Shape) (n : ℕ) (h t : List ℕ) (one : state g n h t ≡ 1) where
  none10 : (c : Call) → any (λ r. eqb 10 r.number and r.holds) (rows_of g n h t c) ≡ false
  unfolding ◌and◌ ◌or◌
  none10 read = rw one
  none10 free_counts = rw one
  none10 repair = rw one
  none10 (check rule) = rw one
  none10 (edit (add p)) = rw one
  none10 (edit (delete k)) = rw one
  none10 (edit (resize k size)) = rw one
  none10 (edit (rename k name)) = rw one

  none11 : (c : Call) → any (λ r. eqb 11 r.number and r.holds) (rows_of g n h t c) ≡ false
  unfolding ◌and◌ ◌or◌
  none11 read = refl
  none11 free_counts = refl
  none11 repair = refl
  none11 (check rule) = refl
  none11 (edit (add p)) = rw one
  none11 (edit (delete k)) = rw one
  none11 (edit (resize k size)) = rw one
  none11 (edit (rename k name)) = rw one

  pub not-ten : (c : Call) → (step g n h t c).answer ≢ refused 10
  not-ten c a = clash (refusal-holds 10 (rows_of g n h t c) (refused-row g n h t c 10 a)) (none10 c)

  pub not-eleven : (c : Call) → (step g n h t c).answer ≢ refused 11
  not-eleven c a = clash (refusal-holds 11 (rows_of g n h t c) (refused-row g n h t c 11 a)) (none11 c)

-- ---- what the rows before an edit's own say, by number

module _ (g : Shape) (n : ℕ) (h t : List ℕ) where
  module _ (lengths : Bool) (e : refusal (common_rows g n h t lengths) ≡ none) where
    pub row1 : (length h ≡ lent_bytes g primary) × (length t ≡ lent_bytes g backup) × (lengths ≡ true)
    row1 =
        let w = not_f _ (passes 1 (common_rows g n h t lengths) e) in
        (eqb-true _ _ (and_l _ _ (and_l _ _ w)), eqb-true _ _ (and_r _ _ (and_l _ _ w)), and_r _ _ w)

    pub row2 : in_range g n ≡ true
    row2 = not_f _ (passes 2 (common_rows g n h t lengths) e)

    pub row10 : state g n h t ≢ 0
    row10 = eqb-false _ _ (passes 10 (common_rows g n h t lengths) e)

  module _ (d : Edit) (e : refusal (open_rows g n h t (lengths_of d)) ≡ none) where
    pub open-common : refusal (common_rows g n h t (lengths_of d)) ≡ none
    open-common = (refusal-before (common_rows g n h t (lengths_of d)) (rows_from 11 (open_rows g n h t (lengths_of d))) e).0

    pub row11 : state g n h t ≡ 1
    row11 = eqb-true _ _ (not_f _ (passes 11 (open_rows g n h t (lengths_of d)) e))

  module _ (d : Edit) (e : refusal (rows_of g n h t (edit d)) ≡ none) where
    pub edit-open : refusal (open_rows g n h t (lengths_of d)) ≡ none
    edit-open = (refusal-before (open_rows g n h t (lengths_of d)) (table_rows g.first (last_usable g n) (table_of g n h t) d) e).0

    pub edit-table : refusal (table_rows g.first (last_usable g n) (table_of g n h t) d) ≡ none
    edit-table = (refusal-before (open_rows g n h t (lengths_of d)) (table_rows g.first (last_usable g n) (table_of g n h t) d) e).1

-- an edit's own rows decide where those before them do not hold; else those before them do
module _ (g : Shape) (n : ℕ) (h t : List ℕ) (d : Edit) where
  pub edit-decides : refusal (open_rows g n h t (lengths_of d)) ≡ none
      → refusal (rows_of g n h t (edit d)) ≡ refusal (table_rows g.first (last_usable g n) (table_of g n h t) d)
  edit-decides e = refusal-append (open_rows g n h t (lengths_of d)) (table_rows g.first (last_usable g n) (table_of g n h t) d) e

  pub edit-stops : (k : ℕ) → refusal (open_rows g n h t (lengths_of d)) ≡ some k → refusal (rows_of g n h t (edit d)) ≡ some k
  edit-stops k e = refusal-first (open_rows g n h t (lengths_of d)) (table_rows g.first (last_usable g n) (table_of g n h t) d) k e

-- where lengths and N are right and the disk reads as state 1, the rows before an edit's own do not hold
pub open_none : (g : Shape) (n : ℕ) (h t : List ℕ) (d : Edit) → length h ≡ lent_bytes g primary → length t ≡ lent_bytes g backup
    → lengths_of d ≡ true → in_range g n ≡ true → state g n h t ≡ 1 → refusal (open_rows g n h t (lengths_of d)) ≡ none
open_none g n h t d lh lt ld range s =
    pick-false _ _ _ (ap not (and_i _ _ (and_i _ _ (eq-eqb _ _ lh) (eq-eqb _ _ lt)) ld))
    ∙ pick-false _ _ _ (ap not range)
    ∙ pick-false _ _ _ (ap (λ (x : ℕ). eqb x 0) s)
    ∙ pick-false _ _ _ (ap (λ (x : ℕ). not (eqb x 1)) s)

-- a disk that reads as state s
module _ (g : Shape) (n : ℕ) (h t : List ℕ) (s : ℕ) (reads : (step g n h t read).answer ≡ accepted (s ∷ [])) where
  pub read_none : refusal (rows_of g n h t read) ≡ none
  read_none = accepted-none g n h t read (s ∷ []) reads

  pub state-is : state g n h t ≡ s
  state-is =
      let a : accepted (state g n h t ∷ []) ≡ accepted (s ∷ []) = ap (λ (o : Outcome). o.answer) (sym (step-accepted g n h t read read_none)) ∙ reads in
      cc
