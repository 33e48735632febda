-- Demand 3 over the whole list of calls, that it is not empty, and that what is written reads back.
use mathlib.Core.Path.{◌≡◌, refl, sym, ap, subst, ◌∙◌}
use mathlib.Core.Logic.{◌⊎◌, inl, inr, ◌≢◌, ◌↔◌}
use mathlib.Core.Bool.{true, not}
use mathlib.Core.List.{List, [], ◌∷◌, ◌++◌}
use mathlib.Core.Option.{Option, none, some}
use Prim.Native.Nat.{ℕ, suc, ◌+◌, ◌*◌, ◌≤◌, ◌<◌}
use native.Mathlib.Decide.{dec_lt}
use native.Mathlib.Omega.{arith}
use lib.ListN.{length, get_or}
use borrow.Author.Tests.{eqb-true, eqb-false, eq-eqb, leb-true}
use Rattle.octets.specs.Rows.{Row, refusal}
use Rattle.octets.specs.Bytes.{zeros}
use Rattle.octets.proofs.Bools.{and_l, and_r, and_i, option_cases}
use Rattle.octets.proofs.Tests.{pairs-get}
use Rattle.octets.proofs.Parts.{length-zeros}
use Rattle.octets.proofs.Rows.{rows_from, pick_true, pick-false, passes, refusal-append, refusal-before}
use Rattle.gpt_model.specs.Table.{no_blocks, apart, ranges_of, good_table}
use Rattle.gpt_model.specs.Disk.{Shape, last_usable, in_range, state, table_of, fresh_head, fresh_tail}
use Rattle.gpt_model.specs.Ranges.{block_in, MultipleOf, AlignedFrom, free_count, longest_free}
use Rattle.gpt_model.specs.declared.NewPartition.{NewPartition}
use Rattle.gpt_model.specs.Calls.{Edit, add, delete, resize, rename, Call, read, free_counts, repair, edit, refused, accepted, Outcome, outcome}
use Rattle.gpt_model.specs.Calls.{unless_refused, is_none, add_rows, start_for, table_rows, change, edited, lengths_of, common_rows, open_rows, rows_of}
use Rattle.gpt_model.specs.Calls.{repaired, step, format_rows, format}
use Rattle.gpt_model.specs.Lists.{Snapshot, after_all, answers, applied, start_after, total, StartsAfresh}
use Rattle.gpt_model.specs.Claims.{Passes, Sound, Formats, Demand3From, Demand3, RefusedStays, BooksDifference, UsedSlot, NameOk, NewOk, AcceptsNew, Serves}
use Rattle.gpt_model.specs.Claims.{NotEmptyFrom, NotEmpty, EditReadsBack, RepairReadsBack}
use Rattle.gpt_model.proofs.Room.{start_none, start-some, start-is-none}
use Rattle.gpt_model.proofs.Counts.{apart-get, taken-total, total-zeros, taken_free}
use Rattle.gpt_model.proofs.Longest.{room_fits, fits-room, longest-room}
use Rattle.gpt_model.proofs.Entries.{length-ranges_of, good-bounded, good-apart, empty-sizes, empty-good}
use Rattle.gpt_model.proofs.States.{Holds, readable-good, fresh_holds, repair-holds}
use Rattle.gpt_model.proofs.Outcomes.{step-refused, step-accepted, repair-answer, refused-row, accepted-none, not-ten, not-eleven, row1, row10, open-common}
use Rattle.gpt_model.proofs.Outcomes.{edit-open, open_none}
use Rattle.gpt_model.proofs.Accepts.{edit-accepted, slot-rows, OtherFree, rename-rows, resize-rows, new-get, new-make}
use Rattle.gpt_model.proofs.Steps.{Agrees, Kept, edit-held, keeps-all}

-- ---- formatting

module _ (g : Shape) (n : ℕ) (guid h t : List ℕ) where
  pub format-refused : (k : ℕ) → refusal (format_rows g n guid h t) ≡ some k → format g n guid h t ≡ outcome (refused k) h t
  unfolding format
  format-refused k e =
      ap (λ (q : Option ℕ). unless_refused q h t (outcome (accepted []) (fresh_head g n guid (zeros 16384)) (fresh_tail g n guid (zeros 16384)))) e

  pub format-accepted : refusal (format_rows g n guid h t) ≡ none
      → format g n guid h t ≡ outcome (accepted []) (fresh_head g n guid (zeros 16384)) (fresh_tail g n guid (zeros 16384))
  unfolding format
  format-accepted e =
      ap (λ (q : Option ℕ). unless_refused q h t (outcome (accepted []) (fresh_head g n guid (zeros 16384)) (fresh_tail g n guid (zeros 16384)))) e

  -- P2: formatting is accepted for every legal N and nonzero GUID
  module _ (f : Formats g n guid h t) where
    pub formatted : format g n guid h t ≡ outcome (accepted []) (fresh_head g n guid (zeros 16384)) (fresh_tail g n guid (zeros 16384))
    formatted =
        format-accepted
        (pick-false _ _ _ (ap not (and_i _ _ (and_i _ _ (eq-eqb _ _ f.len_head) (eq-eqb _ _ f.len_tail)) (eq-eqb _ _ f.len_guid)))
        ∙ pick-false _ _ _ (ap not f.range)
        ∙ pick-false _ _ _ f.nonzero)

    -- a list that follows a formatting starts afresh with the empty table
    pub format-starts : StartsAfresh g n (zeros 16384) (start_after (format g n guid h t))
    format-starts = subst (λ (o : Outcome). StartsAfresh g n (zeros 16384) (start_after o)) (sym formatted) go
      where
        w : Holds g n (fresh_head g n guid (zeros 16384)) (fresh_tail g n guid (zeros 16384)) (zeros 16384)
        w = fresh_holds g f.wide n guid (zeros 16384) f.len_guid (length-zeros 16384) (empty-good g.first (last_usable g n))

        go : StartsAfresh g n (zeros 16384) (start_after (outcome (accepted []) (fresh_head g n guid (zeros 16384)) (fresh_tail g n guid (zeros 16384))))
        go = record {
          len_head = w.len_head;
          len_tail = w.len_tail;
          reads = w.reads;
          table = w.table;
          sizes = sym empty-sizes;
          granted = sym (ap total empty-sizes ∙ total-zeros 128);
          back = refl;
        }

pub starts-kept : (g : Shape) (n : ℕ) (es : List ℕ) (r : Snapshot) → StartsAfresh g n es r → Kept g n r
starts-kept g n es r s = record {
  len_head = s.len_head;
  len_tail = s.len_tail;
  reads = s.reads;
  agrees = subst (λ (x : List ℕ). Agrees x r.ledger) (sym s.table) (record { sizes = s.sizes; sum = let a = s.granted in let b = s.back in omega arith });
}

-- ---- what is kept says

module _ (g : Shape) (n : ℕ) (r : Snapshot) (v : Kept g n r) where
  abbrev tab : List ℕ
  tab = table_of g n r.head r.tail

  good-tab : good_table g.first (last_usable g n) tab ≡ true
  good-tab = readable-good g n r.head r.tail (λ z. let w = v.reads in omega arith)

  apart-tab : (b i j : ℕ) → i < j → j < 128 → block_in b (get_or (ranges_of tab) i no_blocks) ≡ true
      → block_in b (get_or (ranges_of tab) j no_blocks) ≡ true → ⊥
  apart-tab b i j l h p q =
      let w = good-apart g.first (last_usable g n) tab good-tab in
      apart-get _ _ (pairs-get apart (ranges_of tab) no_blocks w i j l (omega (arith, length-ranges_of tab))) b p q

  -- an add whose checks before 25 pass: 25 where no aligned start has room, else accepted
  module _ (p : NewPartition) (e : Passes g n r p) where
    abbrev c : Call
    c = edit (add p)

    abbrev before : List Row
    before = open_rows g n r.head r.tail (lengths_of (add p)) ++ add_rows tab p

    abbrev start : Option ℕ
    start = start_for g.first (last_usable g n) tab p

    add-size : 0 < p.size
    add-size = let w : p.size ≢ 0 = eqb-false p.size 0 (passes 20 before e) in omega arith

    -- only the row for room is left
    from25 : refusal (rows_of g n r.head r.tail c) ≡ refusal (rows_from 25 (rows_of g n r.head r.tail c))
    from25 = refusal-append before (rows_from 25 (rows_of g n r.head r.tail c)) e

    add-no : start ≡ none → (step g n r.head r.tail c).answer ≡ refused 25
    add-no q = ap (λ (o : Outcome). o.answer) (step-refused g n r.head r.tail c 25 (from25 ∙ pick_true _ 25 _ (ap is_none q)))

    add-yes : (s : ℕ) → start ≡ some s
        → (step g n r.head r.tail c).answer ≡ accepted (change g.first (last_usable g n) tab (add p)).values
    add-yes s q = ap (λ (o : Outcome). o.answer) (step-accepted g n r.head r.tail c (from25 ∙ pick-false _ 25 _ (ap is_none q)))

    -- what the search says of blocks: the start that it finds is aligned and has room, and where it finds none there is none
    abbrev Aligned : ℕ → Type 0
    Aligned s = AlignedFrom g n (ranges_of tab) p.size p.alignment s

    found : (s : ℕ) → start ≡ some s → Aligned s
    found s q =
        let k = start-some (ranges_of tab) g.first (last_usable g n) p.size p.alignment s q in (k.1.0, (k.0, k.1.1.0, k.1.1.1))

    missed : start ≡ none → (s : ℕ) → ¬ Aligned s
    missed q s w =
        let f = w.1 in start_none (ranges_of tab) g.first (last_usable g n) p.size p.alignment add-size q s f.0 (w.0, (f.1, f.2))

    room-iff : ((step g n r.head r.tail c).answer ≡ refused 25) ↔ ((s : ℕ) → ¬ Aligned s)
    room-iff = (to (option_cases start), λ f. add-no (start-is-none _ _ _ _ _ (λ s h w. f s (w.0, (h, w.1.0, w.1.1)))))
      where
        to : (start ≡ none) ⊎ ((s : ℕ) × (start ≡ some s)) → (step g n r.head r.tail c).answer ≡ refused 25 → (s : ℕ) → ¬ Aligned s
        to (inl q) a = missed q
        to (inr w) a = let b = add-yes w.0 w.1 in let z : ◌≡◌ {A = ℕ} 0 1 = cc in absurd (omega arith)

    fits_iff : AcceptsNew g n tab r p ↔ ((s : ℕ) × Aligned s)
    fits_iff = (to (option_cases start), from (option_cases start))
      where
        to : (start ≡ none) ⊎ ((s : ℕ) × (start ≡ some s)) → AcceptsNew g n tab r p → (s : ℕ) × Aligned s
        to (inl q) a = let b = add-no q in let z : ◌≡◌ {A = ℕ} 0 1 = cc in absurd (omega arith)
        to (inr w) a = (w.0, found w.0 w.1)

        from : (start ≡ none) ⊎ ((s : ℕ) × (start ≡ some s)) → ((s : ℕ) × Aligned s) → AcceptsNew g n tab r p
        from (inr w) a = add-yes w.0 w.1
        from (inl q) a = absurd (missed q a.0 a.1)

    -- every block is a multiple of 1
    fits-at-one : p.alignment ≡ 1 → (longest : ℕ) → longest ≡ longest_free (ranges_of tab) g.first (last_usable g n)
        → AcceptsNew g n tab r p ↔ (p.size ≤ longest)
    fits-at-one one longest is = (
      λ a. let v = fits_iff.0 a in let f = v.1.1 in
          omega (arith, room_fits (ranges_of tab) g.first (last_usable g n) p.size v.0 f.0 (f.1, f.2)),
      λ h. let v = fits-room (ranges_of tab) g.first (last_usable g n) p.size add-size (omega arith) in
          fits_iff.1 (v.0, (subst (λ (m : ℕ). MultipleOf m v.0) (sym one) (v.0, omega arith), (v.1, v.2.0, v.2.1))),
    )

  pub sound : Sound g n r
  sound = record {
    one = λ b i j p q hi hj x y. same-slot b i j hi hj x y (dec_lt i j) (dec_lt j i);
    counted =
        ap (λ (x : ℕ). x + r.ledger.back)
        (taken-total g.first (last_usable g n) (ranges_of tab) (good-bounded g.first (last_usable g n) tab good-tab)
        (good-apart g.first (last_usable g n) tab good-tab))
        ∙ v.agrees.sum;
    room = room-iff;
  }
    where
      same-slot : (b i j : ℕ) → i < 128 → j < 128 → block_in b (get_or (ranges_of tab) i no_blocks) ≡ true
          → block_in b (get_or (ranges_of tab) j no_blocks) ≡ true
          → Dec (i < j) → Dec (j < i) → i ≡ j
      same-slot b i j hi hj x y (yes a) d = absurd (apart-tab b i j a hj x y)
      same-slot b i j hi hj x y (no a) (yes d) = absurd (apart-tab b j i d hi y x)
      same-slot b i j hi hj x y (no a) (no d) = omega arith

  pub serves : in_range g n ≡ true → Serves g n tab r
  serves range = record {
    reads = v.reads;
    table = refl;
    reading = ap (λ (o : Outcome). o.answer) (step-accepted g n r.head r.tail read read_none) ∙ ap (λ (s : ℕ). accepted (s ∷ [])) v.reads;
    repairing = step-accepted g n r.head r.tail repair read_none ∙ ap (repaired g n r.head r.tail) v.reads;
    not10 = not-ten g n r.head r.tail v.reads;
    not11 = not-eleven g n r.head r.tail v.reads;
    counts =
        let p = longest-room (ranges_of tab) g.first (last_usable g n) usable-run in (
          free_count (ranges_of tab) g.first (last_usable g n),
          longest_free (ranges_of tab) g.first (last_usable g n),
          ap (λ (o : Outcome). o.answer) (step-accepted g n r.head r.tail free_counts read_none),
          omega (arith, taken_free (ranges_of tab) g.first (last_usable g n)),
          (p.0, (p.1, p.2.0, p.2.1)),
          λ size s w. room_fits (ranges_of tab) g.first (last_usable g n) size s w.0 (w.1, w.2),
        );
    passes = λ p. (new-passes p, passes-new p);
    fits = fits_iff;
    fits_at_one = λ p e one free longest a. fits-at-one p e one longest (counted-longest free longest a);
    deletes = λ k. accepts (delete k) refl (slot-rows tab k);
    renames = λ k name. (
      named k name,
      λ w. (accepts (rename k name) (eq-eqb _ _ w.0) (rename-rows tab k g.first (last_usable g n) name)).1 (w.1, (w.2, w.3)),
    );
    resizes = λ k size. accepts (resize k size) refl (resize-rows tab k g.first (last_usable g n) size);
  }
    where
      usable-run : g.first ≤ suc (last_usable g n)
      usable-run = let w : 2 * g.first ≤ n = leb-true _ _ (and_l _ _ range) in omega arith

      read_none : refusal (common_rows g n r.head r.tail true) ≡ none
      read_none =
          open-common g n r.head r.tail (delete 0) (open_none g n r.head r.tail (delete 0) v.len_head v.len_tail refl range v.reads)

      counted-longest : (free longest : ℕ) → (step g n r.head r.tail free_counts).answer ≡ accepted (free ∷ longest ∷ [])
          → longest ≡ longest_free (ranges_of tab) g.first (last_usable g n)
      counted-longest free longest a = let b = ap (λ (o : Outcome). o.answer) (step-accepted g n r.head r.tail free_counts read_none) in cc

      opens : (d : Edit) → lengths_of d ≡ true → refusal (open_rows g n r.head r.tail (lengths_of d)) ≡ none
      opens d l = open_none g n r.head r.tail d v.len_head v.len_tail l range v.reads

      accepts : (d : Edit) → lengths_of d ≡ true → {P : Type 0} → (refusal (table_rows g.first (last_usable g n) tab d) ≡ none) ↔ P
          → ((step g n r.head r.tail (edit d)).answer ≡ accepted (change g.first (last_usable g n) tab d).values) ↔ P
      accepts d l w = edit-accepted g n r.head r.tail d (opens d l) w

      -- an accepted rename has 36 units: row 1 does not hold
      named : (k : ℕ) (name : List ℕ) → (step g n r.head r.tail (edit (rename k name))).answer ≡ accepted []
          → (length name ≡ 36) × UsedSlot tab k × NameOk name × OtherFree tab k name
      named k name a =
          let e = accepted-none g n r.head r.tail (edit (rename k name)) [] a in
          let l = (row1 g n r.head r.tail (lengths_of (rename k name))
          (open-common g n r.head r.tail (rename k name) (edit-open g n r.head r.tail (rename k name) e))).2 in
          let w = (accepts (rename k name) l (rename-rows tab k g.first (last_usable g n) name)).0 a in
          (eqb-true _ _ l, w.0, w.1.0, w.1.1)

      new-passes : (p : NewPartition) → Passes g n r p → NewOk tab p
      new-passes p e =
          let d = add p in
          let w = refusal-before (open_rows g n r.head r.tail (lengths_of d)) (add_rows tab p) e in
          let l = (row1 g n r.head r.tail (lengths_of d) (open-common g n r.head r.tail d w.0)).2 in
          new-get tab p
          (eqb-true _ _ (and_l _ _ (and_l _ _ l)), eqb-true _ _ (and_r _ _ (and_l _ _ l)), eqb-true _ _ (and_r _ _ l)) w.1

      passes-new : (p : NewPartition) → NewOk tab p → Passes g n r p
      passes-new p w =
          let d = add p in
          let l = w.lengths in
          refusal-append (open_rows g n r.head r.tail (lengths_of d)) (add_rows tab p)
          (opens d (and_i _ _ (and_i _ _ (eq-eqb _ _ l.0) (eq-eqb _ _ l.1)) (eq-eqb _ _ l.2)))
          ∙ new-make tab p w

-- ---- the theorems

pub demand3_from : Demand3From
demand3_from g wide n es r s cs = sound g n (after_all (step g n) cs r) (keeps-all g wide n cs r (starts-kept g n es r s)).0

pub demand3 : Demand3
demand3 g n guid h t f cs = (
  ap (λ (o : Outcome). o.answer) (formatted g n guid h t f),
  demand3_from g f.wide n (zeros 16384) (start_after (format g n guid h t)) (format-starts g n guid h t f) cs,
)

pub not_empty_from : NotEmptyFrom
not_empty_from g wide n es r range s cs =
    let k = keeps-all g wide n cs r (starts-kept g n es r s) in
    subst (λ (tb : List ℕ). Serves g n tb (after_all (step g n) cs r))
    (k.1 ∙ ap (λ (tb : List ℕ). applied g.first (last_usable g n) tb cs (answers (step g n) cs r)) s.table)
    (serves g n (after_all (step g n) cs r) k.0 range)

pub not_empty : NotEmpty
not_empty g n guid h t f cs =
    not_empty_from g f.wide n (zeros 16384) (start_after (format g n guid h t)) f.range (format-starts g n guid h t f) cs

pub refused_stays : RefusedStays
refused_stays g n k guid h t c = (λ a. step-refused g n h t c k (refused-row g n h t c k a), formats (option_cases (refusal (format_rows g n guid h t))))
  where
    formats : (refusal (format_rows g n guid h t) ≡ none) ⊎ ((j : ℕ) × (refusal (format_rows g n guid h t) ≡ some j))
        → (format g n guid h t).answer ≡ refused k → format g n guid h t ≡ outcome (refused k) h t
    formats (inl e) a = let b = ap (λ (o : Outcome). o.answer) (format-accepted g n guid h t e) in let z : ◌≡◌ {A = ℕ} 0 1 = cc in absurd (omega arith)
    formats (inr w) a =
        let b = ap (λ (o : Outcome). o.answer) (format-refused g n guid h t w.0 w.1) in
        let q : w.0 ≡ k = cc in
        format-refused g n guid h t k (w.1 ∙ ap some q)

pub books_difference : BooksDifference
books_difference l k size reply = (λ h. (omega arith, omega arith), λ h. (omega arith, omega arith))

pub edit_reads_back : EditReadsBack
edit_reads_back g n h t d wide e =
    let w = edit-held g wide n h t d e in
    subst (λ (o : Outcome). (state g n o.head o.tail ≡ 1) × (table_of g n o.head o.tail ≡ edited g.first (last_usable g n) (table_of g n h t) d))
    (sym (step-accepted g n h t (edit d) e)) (w.reads, w.table)

pub repair_reads_back : RepairReadsBack
repair_reads_back g n h t wide e =
    let l = row1 g n h t true e in
    let w = repair-holds g wide n h t l.0 l.1 (row10 g n h t true e) in
    subst (λ (o : Outcome).
    (o.answer ≡ accepted (state g n h t ∷ [])) × (state g n o.head o.tail ≡ 1) × (table_of g n o.head o.tail ≡ table_of g n h t))
    (sym (step-accepted g n h t repair e)) (repair-answer g n h t, w.reads, w.table)
