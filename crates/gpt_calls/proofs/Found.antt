-- Reading, and what follows from the state that it answers: repair, the part that is handed back, free counts, the check.
use mathlib.Core.Path.{◌≡◌, refl, sym, ap, ap₂, ◌∙◌}
use mathlib.Core.Logic.{◌≢◌, ◌⊎◌, inl, inr}
use mathlib.Core.Bool.{Bool, true, false, cond}
use mathlib.Core.List.{List, [], ◌∷◌}
use mathlib.Core.Option.{Option, none, some}
use Prim.Native.Nat.{ℕ, ◌+◌}
use native.Mathlib.Omega.{arith}
use lib.ListN.{length}
use borrow.Author.Tests.{eq-eqb, ne_eqb, eqb-true}
use Rattle.std.specs.Prelude.{Option as Found, None, Some, Result, Ok, Err, ok_or, option_map, unwrap_or}
use native.Mathlib.Numerals.{add-one}
use Rattle.octets.proofs.Bools.{and_i, and_l, and_r, bool_cases}
use Rattle.octets.specs.Bytes.{zeros}
use Rattle.octets.specs.Rows.{Row, refusal}
use Rattle.octets.proofs.Rows.{rows_from, pick_true, pick-false, refusal-append, refusal-first, refusal-before}
use Rattle.gpt_model.specs.Ranges.{free_count, longest_free}
use Rattle.gpt_model.specs.Table.{ranges_of}
use Rattle.gpt_model.specs.Disk.{Shape, last_usable, primary, backup, lent_bytes, entries_in, used_side, state, table_of, with_copy, guid_in, fresh_head, fresh_tail}
use Rattle.gpt_model.specs.Attributes.{first_offending}
use Rattle.gpt_model.specs.declared.Rule.{Rule}
use Rattle.gpt_model.specs.Calls.{refused, accepted, Outcome, outcome, read, free_counts, repair, check, lengths_ok, lent_rows, common_rows}
use Rattle.gpt_model.specs.Calls.{repaired, step, format_rows, format}
use Rattle.gpt_model.proofs.Outcomes.{step-refused, step-accepted, refused-row}
use Rattle.gpt_model.proofs.Demand3.{format-accepted}
use Rattle.gpt_copies.specs.States.{state_number}
use Rattle.gpt_copies.specs.declared.State.{State}
use Rattle.gpt_copies.specs.declared.State.TheVariants.{Both, Differ, PrimaryOnly, BackupOnly}
use Rattle.gpt_checks.proofs.Judged.{Lent, lent-facts}
use Rattle.gpt_checks.specs.Refusals.{number_of}
use Rattle.gpt_checks.specs.declared.Refusal.{Refusal}
use Rattle.gpt_checks.specs.declared.Refusal.TheVariants.{NeitherGood}
use Rattle.gpt_calls.specs.Answers.{reading_of, slot_or_0, Handed, handed, nothing, entries_from, entries_of, entries_on, handed_if, handed_on}

good_number : (s : State) → state_number (Some s) ≢ 0
good_number Both z = omega (arith, z)
good_number Differ z = omega (arith, z)
good_number PrimaryOnly z = omega (arith, z)
good_number BackupOnly z = omega (arith, z)

module _ (g : Shape) (n : ℕ) (h t : List ℕ) where
  -- ---- the rows of reading

  abbrev from10 : List Row
  from10 = rows_from 10 (common_rows g n h t true)

  pub rows-lent : (k : ℕ) → refusal (lent_rows g n h t true) ≡ some k → refusal (common_rows g n h t true) ≡ some k
  rows-lent k e = refusal-first (lent_rows g n h t true) from10 k e

  -- what reading answers by the state that is found
  module _ (e : refusal (lent_rows g n h t true) ≡ none) where
    pub found-is : (o : Found State) → state_number o ≡ state g n h t → outcome (reading_of (ok_or o NeitherGood)) h t ≡ step g n h t read
    found-is None q = sym (step-refused g n h t read 10 (refusal-append (lent_rows g n h t true) from10 e ∙ pick_true _ 10 _ (eq-eqb _ _ (sym q))))
    found-is (Some s) q =
        ap (λ (k : ℕ). outcome (accepted (k ∷ [])) h t) q
        ∙ sym (step-accepted g n h t read (refusal-append (lent_rows g n h t true) from10 e
        ∙ pick-false _ 10 _ (ne_eqb _ _ (λ z. good_number s (q ∙ z)))))

  pub common-lent : refusal (common_rows g n h t true) ≡ none → Lent g n h t
  common-lent e = lent-facts g n h t (refusal-before (lent_rows g n h t true) from10 e).0

  -- ---- and back: what an answer of reading says of the rows and the state

  pub answer-refused : (k : ℕ) → outcome (refused k) h t ≡ step g n h t read → refusal (common_rows g n h t true) ≡ some k
  answer-refused k e = refused-row g n h t read k (sym (ap (λ (o : Outcome). o.answer) e))

  pub answer-found : (s : ℕ) → outcome (accepted (s ∷ [])) h t ≡ step g n h t read → (refusal (common_rows g n h t true) ≡ none) × (state g n h t ≡ s)
  answer-found s e = go (refusal (common_rows g n h t true)) refl
    where
      go : (q : Option ℕ) → refusal (common_rows g n h t true) ≡ q → (refusal (common_rows g n h t true) ≡ none) × (state g n h t ≡ s)
      go none r =
          let w : accepted (s ∷ []) ≡ accepted (state g n h t ∷ []) = ap (λ (o : Outcome). o.answer) (e ∙ step-accepted g n h t read r) in
          (r, cc)
      go (some k) r =
          let w : accepted (s ∷ []) ≡ refused k = ap (λ (o : Outcome). o.answer) (e ∙ step-refused g n h t read k r) in
          let z : ◌≡◌ {A = ℕ} 0 1 = cc in
          absurd (omega arith)

  -- ---- where reading answers the state s

  module _ (s : State) (e : outcome (reading_of (Ok s)) h t ≡ step g n h t read) where
    abbrev at : ℕ
    at = state_number (Some s)

    both : (refusal (common_rows g n h t true) ≡ none) × (state g n h t ≡ at)
    both = answer-found at e

    pub found-lent : Lent g n h t
    found-lent = common-lent both.0

    pub found-lengths : lengths_ok g h t ≡ true
    found-lengths = and_i _ _ (eq-eqb _ _ found-lent.head) (eq-eqb _ _ found-lent.tail)

    pub repaired-is : repaired g n h t at ≡ step g n h t repair
    repaired-is = sym (step-accepted g n h t repair both.0 ∙ ap (repaired g n h t) both.1)

    pub repaired-tail : (s ≡ Differ) ⊎ (s ≡ PrimaryOnly) → {t' : List ℕ} → t' ≡ with_copy g n backup (guid_in g primary h) (entries_in g primary h) t
        → outcome (accepted (at ∷ [])) h t' ≡ step g n h t repair
    repaired-tail (inl q) e = rw (e, q) (rw q at repaired-is)
    repaired-tail (inr q) e = rw (e, q) (rw q at repaired-is)

    -- the part that is handed back
    pub part-is : (hp tp : ℕ × ℕ) → entries_of g h t hp tp (Ok s) ≡ handed_on g h t hp tp n
    unfolding table_of
    part-is hp tp = ap (λ (k : ℕ). entries_from g h t hp tp (used_side k)) (sym both.1) ∙ sym (ap (handed_if g h t hp tp n) both.0)

    -- the table tb in it
    module _ (tb : List ℕ) (p hp tp : ℕ × ℕ) (is : handed tb p ≡ entries_of g h t hp tp (Ok s)) where
      table : tb ≡ table_of g n h t
      unfolding table_of
      table = ap (λ (x : Handed). x.bytes) (is ∙ ap (λ (k : ℕ). entries_from g h t hp tp (used_side k)) (sym both.1))

      pub counts-are : (f l : ℕ) → f ≡ g.first → l ≡ last_usable g n
          → outcome (accepted (free_count (ranges_of tb) f l ∷ longest_free (ranges_of tb) f l ∷ [])) h t ≡ step g n h t free_counts
      counts-are f l ef el =
          ap (λ (es : List ℕ). outcome (accepted (free_count (ranges_of es) f l ∷ longest_free (ranges_of es) f l ∷ [])) h t) table
          ∙ ap₂ (λ (x y : ℕ). outcome (accepted (free_count (ranges_of (table_of g n h t)) x y ∷ longest_free (ranges_of (table_of g n h t)) x y ∷ [])) h t) ef el
          ∙ sym (step-accepted g n h t free_counts both.0)

      pub first-is : (rule : Rule) (k : ℕ) → k ≡ first_offending rule tb → outcome (accepted (k ∷ [])) h t ≡ step g n h t (check rule)
      first-is rule k q =
          ap (λ (x : ℕ). outcome (accepted (x ∷ [])) h t) (q ∙ ap (first_offending rule) table) ∙ sym (step-accepted g n h t (check rule) both.0)

-- a slot counted from 1 is none or stands for itself
pub slot_told : (p : Found ℕ) {o : Found ℕ} → o ≡ option_map (λ i. i + 1) p → slot_or_0 o ≡ unwrap_or o 0 ∷ []
slot_told None e = rw e
slot_told (Some i) e = rw (e, add-one i)

-- ---- the part by what reading answered

pub lengths-are : (g : Shape) (h t : List ℕ) → lengths_ok g h t ≡ true → (length h ≡ lent_bytes g primary) × (length t ≡ lent_bytes g backup)
lengths-are g h t e = (eqb-true _ _ (and_l _ _ e), eqb-true _ _ (and_r _ _ e))

-- it is the part that reading hands back
module _ (g : Shape) (n : ℕ) (h t : List ℕ) (hp tp : ℕ × ℕ) where
  pub entries-of-reading : (r : Result State Refusal) → outcome (reading_of r) h t ≡ step g n h t read → entries_on g h t hp tp r ≡ handed_on g h t hp tp n
  entries-of-reading (Ok s) e =
      ap (λ (b : Bool). cond b (entries_of g h t hp tp (Ok s)) (nothing hp)) (found-lengths g n h t s e) ∙ part-is g n h t s e hp tp
  entries-of-reading (Err q) e = go (bool_cases (lengths_ok g h t))
    where
      nothing_is : nothing hp ≡ handed_on g h t hp tp n
      nothing_is = sym (ap (handed_if g h t hp tp n) (answer-refused g n h t (number_of q) e))

      go : (lengths_ok g h t ≡ true) ⊎ (lengths_ok g h t ≡ false) → entries_on g h t hp tp (Err q) ≡ handed_on g h t hp tp n
      go (inl b) = ap (λ (x : Bool). cond x (nothing hp) (nothing hp)) b ∙ nothing_is
      go (inr b) = ap (λ (x : Bool). cond x (nothing hp) (nothing hp)) b ∙ nothing_is

-- ---- formatting

module _ (g : Shape) (n : ℕ) (guid h t : List ℕ) (e : refusal (format_rows g n guid h t) ≡ none) where
  pub format-done : (h' t' : List ℕ) → h' ≡ fresh_head g n guid (zeros 16384) → t' ≡ fresh_tail g n guid (zeros 16384)
      → outcome (accepted []) h' t' ≡ format g n guid h t
  format-done h' t' p q = ap₂ (outcome (accepted [])) p q ∙ sym (format-accepted g n guid h t e)
