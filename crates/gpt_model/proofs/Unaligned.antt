-- An add at alignment 1 is one without an alignment, and which alignments are refused.
use mathlib.Core.Path.{◌≡◌, refl, sym, ap, fun_ext, ◌∙◌}
use mathlib.Core.Logic.{inl, ◌≢◌, ◌↔◌}
use mathlib.Core.Bool.{Bool, true, false, not}
use mathlib.Core.List.{List, [], ◌∷◌, ◌++◌}
use mathlib.Core.Option.{Option, none, some}
use Prim.Native.Nat.{ℕ, suc, ◌-◌, ◌%◌}
use native.Mathlib.Nat.{mod-one}
use lib.Dec.{eqb}
use borrow.Author.Tests.{eqb-false, eq-eqb, ne_eqb}
use Rattle.octets.specs.Tests.{◌or◌}
use Rattle.octets.specs.Rows.{Row, row, refusal}
use Rattle.octets.specs.Bytes.{put_chunk}
use Rattle.octets.proofs.Bools.{and-t, or-false-l, or-false-r, or-false-i, not_t}
use Rattle.octets.proofs.Rows.{rows_from, rows_before, passes, pick-false, refusal-append, refusal-before, refusal-without, refused-by}
use Rattle.gpt_model.specs.Table.{ranges_of}
use Rattle.gpt_model.specs.Disk.{Shape, last_usable, primary, backup, guid_in, table_of, with_table}
use Rattle.gpt_model.specs.Ranges.{room_at, lowest_from, is_alignment, aligned_at, lowest_start}
use Rattle.gpt_model.specs.declared.NewPartition.{NewPartition}
use Rattle.gpt_model.specs.Calls.{add, edit, refused, accepted, Outcome, outcome, unless_refused, is_none, or_zero}
use Rattle.gpt_model.specs.Calls.{lowest_unused, new_entry, add_rows, start_for, lengths_of, open_rows, rows_of, step}
use Rattle.gpt_model.specs.Unaligned.{start_unaligned, rows_unaligned, add_unaligned}
use Rattle.gpt_model.specs.Claims.{AlignmentOne, OtherAlignmentRefused}
use Rattle.gpt_model.proofs.Outcomes.{step-refused, refused-row}
use Rattle.gpt_model.proofs.Accepts.{alignment-make}

module _ (g : Shape) (n : ℕ) (h t : List ℕ) (p : NewPartition) where
  abbrev es : List ℕ
  es = table_of g n h t

  abbrev opens : List Row
  opens = open_rows g n h t (lengths_of (add p))

  -- what an add does that takes the start q
  abbrev written : Option ℕ → Outcome
  written q =
      let es' = put_chunk 128 (lowest_unused es) (new_entry p (or_zero q)) es in
      outcome (accepted (suc (lowest_unused es) ∷ or_zero q ∷ []))
      (with_table g n primary (guid_in g primary h) es' h) (with_table g n backup (guid_in g backup t) es' t)

  abbrev from : Option ℕ → Outcome
  from q = unless_refused (refusal (opens ++ (add_rows es p ++ (row (is_none q) 25 ∷ [])))) h t (written q)

  adds : step g n h t (edit (add p)) ≡ from (start_for g.first (last_usable g n) es p)
  unfolding step
  adds = refl

  module _ (one : p.alignment ≡ 1) where
    -- every block is a multiple of 1
    start-one : start_for g.first (last_usable g n) es p ≡ start_unaligned g n h t p
    unfolding lowest_start
    start-one = ap (λ (q : ℕ → Bool). lowest_from q g.first (suc (last_usable g n) - g.first)) (fun_ext at)
      where
        at : (s : ℕ) → aligned_at (ranges_of es) (last_usable g n) p.size p.alignment s ≡ room_at (ranges_of es) (last_usable g n) p.size s
        at s = sym (and-t (eq-eqb _ _ (ap (λ (m : ℕ). s % m) one ∙ mod-one s)) refl)

    -- and row 27 does not hold
    without : from (start_unaligned g n h t p) ≡ add_unaligned g n h t p
    without =
        ap (λ (q : Option ℕ). unless_refused q h t (written (start_unaligned g n h t p)))
        (refusal-without (opens ++ (row (eqb p.size 0) 20 ∷ [])) _ (rows_from 21 (rows_unaligned g n h t p))
        (ap not (alignment-make p.alignment (inl one))))

pub alignment_one : AlignmentOne
alignment_one g n h t p one = adds g n h t p ∙ ap (from g n h t p) (start-one g n h t p one) ∙ without g n h t p one

-- row 27 is the first to hold
module _ (g : Shape) (n : ℕ) (h t : List ℕ) (p : NewPartition) where
  abbrev all : List Row
  all = rows_of g n h t (edit (add p))

  abbrev before : List Row
  before = rows_before 27 all

  first27 : (refusal all ≡ some 27) ↔ ((refusal before ≡ none) × (not (is_alignment p.alignment) ≡ true))
  unfolding ◌or◌
  first27 = refused-by 27 all refl

  -- the rows before it are those before an edit's own, and 20
  before27 : (refusal before ≡ none) ↔ ((refusal (opens g n h t p) ≡ none) × (p.size ≢ 0))
  before27 = (
    λ e. let w = refusal-before (opens g n h t p) (rows_from 20 before) e in (w.0, eqb-false p.size 0 (passes 20 (rows_from 20 before) w.1)),
    λ w. refusal-append (opens g n h t p) (rows_from 20 before) w.0 ∙ pick-false _ 20 _ (ne_eqb p.size 0 w.1),
  )

pub other_alignment_refused : OtherAlignmentRefused
other_alignment_refused g n h t p = (to, back)
  where
    m : ℕ
    m = p.alignment

    to : (step g n h t (edit (add p))).answer ≡ refused 27 → (refusal (opens g n h t p) ≡ none) × (p.size ≢ 0) × (m ≢ 1) × (m ≢ 8) × (m ≢ 2048)
    to a =
        let v = (first27 g n h t p).0 (refused-row g n h t (edit (add p)) 27 a) in
        let w = (before27 g n h t p).0 v.0 in
        let z = not_t _ v.1 in
        let low = or-false-l (eqb m 1 or eqb m 8) (eqb m 2048) z in (
          w.0,
          w.1,
          eqb-false m 1 (or-false-l (eqb m 1) (eqb m 8) low),
          eqb-false m 8 (or-false-r (eqb m 1) (eqb m 8) low),
          eqb-false m 2048 (or-false-r (eqb m 1 or eqb m 8) (eqb m 2048) z),
        )

    back : (refusal (opens g n h t p) ≡ none) × (p.size ≢ 0) × (m ≢ 1) × (m ≢ 8) × (m ≢ 2048) → (step g n h t (edit (add p))).answer ≡ refused 27
    back w =
        let z : is_alignment m ≡ false = or-false-i _ _ (or-false-i _ _ (ne_eqb m 1 w.2) (ne_eqb m 8 w.3)) (ne_eqb m 2048 w.4) in
        ap (λ (o : Outcome). o.answer)
        (step-refused g n h t (edit (add p)) 27 ((first27 g n h t p).1 ((before27 g n h t p).1 (w.0, w.1), ap not z)))
