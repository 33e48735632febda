-- Stale bytes, which an unused entry holds behind its type GUID: nothing that is judged or answered goes by them, and an add leaves none.
use mathlib.Core.Path.{◌≡◌, refl, sym, ap, ap₂, subst, subst₂, ◌∙◌}
use mathlib.Core.Logic.{◌⊎◌, inl, inr, ⊎_elim}
use mathlib.Core.Bool.{Bool, true, false, not, cond}
use mathlib.Core.List.{List, [], ◌∷◌, ◌++◌, map}
use mathlib.Core.Option.{Option, none, some}
use Prim.Native.Nat.{ℕ, suc, ◌+◌, ◌-◌, ◌*◌, ◌<◌}
use native.Mathlib.Omega.{arith}
use lib.Dec.{leb, eqb}
use lib.ListN.{length, get_or, set, get_or-map}
use borrow.Author.Tests.{eqb-true, eq-eqb, ne_eqb}
use Rattle.octets.specs.Tests.{◌and◌, any, find_ix}
use Rattle.octets.specs.Rows.{Row, pick_row, refusal}
use Rattle.octets.specs.Bytes.{le, part, put, zeros, is_zero}
use Rattle.octets.proofs.Bools.{and_l, and_r, and_i, and-false-l, and-t, bool_cases, eq-from, clash}
use Rattle.octets.proofs.Tests.{map_same, any-map, find_ix-map}
use Rattle.octets.proofs.Equal.{zero-zeros}
use Rattle.octets.proofs.Parts.{length-zeros}
use Rattle.octets.proofs.Rows.{rows_from, pick_true, pick-false}
use Rattle.octets.proofs.Chunks.{length-chunks}
use Rattle.gpt_model.specs.Table.{unique_of, partition_name_of, name_bytes, unused, no_blocks, range_of, entry_ok, entries, ranges_of, good_table}
use Rattle.gpt_model.specs.Disk.{Shape, last_usable, primary, backup, guid_in, state, table_of, with_table}
use Rattle.gpt_model.specs.Attributes.{used_offends, first_offending}
use Rattle.gpt_model.specs.declared.Rule.{Rule}
use Rattle.gpt_model.specs.Calls.{Edit, add, delete, resize, rename, Call, read, free_counts, repair, check, edit, accepted, Outcome, unless_refused}
use Rattle.gpt_model.specs.Calls.{entry_of, carries, other_entries, or_zero, slot_rows, lowest_unused, new_entry, start_for, table_rows, change, edited}
use Rattle.gpt_model.specs.Calls.{lengths_of, rows_of, accepted_outcome, step}
use Rattle.gpt_model.specs.Stored.{EntryUsed, SameUsed}
use Rattle.gpt_model.specs.Claims.{ClearedReads, GoodByUsed, AnswersByUsed, AddOverwrites}
use Rattle.gpt_model.proofs.Fields.{part-put-at, new-whole}
use Rattle.gpt_model.proofs.Entries.{map-set, unused-type, unused-nil, range-unused, range-nil, unused-ok, PairOk}
use Rattle.gpt_model.proofs.Entries.{entry_at, good-at, good-pair, good-make, at_same}
use Rattle.gpt_model.proofs.Edits.{FitsEdit}
use Rattle.gpt_model.proofs.Outcomes.{step-accepted, accepted-none, repair-answer, row1, row2, row10, read_none, state-is}
use Rattle.gpt_model.proofs.Steps.{lens, len-table, edit-fits, edit-held}
use Rattle.gpt_model.proofs.StoredTable.{entry-is, used-is}
use Rattle.gpt_model.proofs.Rewritten.{length-was, reads-again}

-- ---- two tables with the same used entries

same_back : (es es' : List ℕ) → SameUsed es es' → SameUsed es' es
same_back es es' s i h = ⊎_elim (λ u. inl (u.1, u.0)) (λ e. inr (sym e)) (s i h)

module _ (es es' : List ℕ) (s : SameUsed es es') where
  unused-at : (tb : List ℕ) (i : ℕ) → i < 128 → (¬ EntryUsed tb i) → unused (entry_at tb i) ≡ true
  unused-at tb i h n = ⊎_elim (λ q. q) (λ q. absurd (n (sym (used-is tb i h) ∙ q))) (bool_cases (unused (entry_at tb i)))

  both : (i : ℕ) → i < 128 → ((unused (entry_at es i) ≡ true) × (unused (entry_at es' i) ≡ true)) ⊎ (entry_at es i ≡ entry_at es' i)
  both i h = ⊎_elim (λ u. inl (unused-at es i h u.0, unused-at es' i h u.1)) (λ e. inr (entry-is es i h ∙ e ∙ sym (entry-is es' i h))) (s i h)

  -- what takes every unused entry for the empty one
  by-used : {B : Type 0} (f : List ℕ → B) → ((e : List ℕ) → unused e ≡ true → f e ≡ f []) → map f (entries es) ≡ map f (entries es')
  by-used f w =
      map_same f (entries es) (entries es') [] (length-chunks 128 128 es ∙ sym (length-chunks 128 128 es'))
      (λ i h. ⊎_elim (λ u. w _ u.0 ∙ sym (w _ u.1)) (λ e. ap f e) (both i (omega (arith, length-chunks 128 128 es))))

  entry-by : {B : Type 0} (f : List ℕ → B) → ((e : List ℕ) → unused e ≡ true → f e ≡ f []) → (k : ℕ) → f (entry_of es k) ≡ f (entry_of es' k)
  entry-by {B = B} f w k =
      sym (get_or-map f (entries es) (k - 1) []) ∙ ap (λ (l : List B). get_or l (k - 1) (f [])) (by-used f w) ∙ get_or-map f (entries es') (k - 1) []

  any-by : (p : List ℕ → Bool) → ((e : List ℕ) → unused e ≡ true → p e ≡ p []) → any p (entries es) ≡ any p (entries es')
  any-by p w = any-map p (entries es) ∙ ap (any (λ b. b)) (by-used p w) ∙ sym (any-map p (entries es'))

  index-by : (p : List ℕ → Bool) → ((e : List ℕ) → unused e ≡ true → p e ≡ p []) → find_ix p (entries es) ≡ find_ix p (entries es')
  index-by p w = find_ix-map p (entries es) ∙ ap (find_ix (λ b. b)) (by-used p w) ∙ sym (find_ix-map p (entries es'))

  as-nil : (e : List ℕ) → unused e ≡ true → unused e ≡ unused []
  as-nil e q = q ∙ sym unused-nil

  same-ranges : ranges_of es ≡ ranges_of es'
  same-ranges = by-used range_of (λ e q. range-unused e q ∙ sym range-nil)

  -- whichever part of an entry is asked
  none-carried : (part_of : List ℕ → List ℕ) (bytes e : List ℕ) → unused e ≡ true → carries part_of bytes e ≡ carries part_of bytes []
  none-carried part_of bytes e q = and-false-l _ _ (ap not q) ∙ sym (and-false-l _ _ (ap not unused-nil))

  same-carried : (part_of : List ℕ → List ℕ) (bytes : List ℕ) → any (carries part_of bytes) (entries es) ≡ any (carries part_of bytes) (entries es')
  same-carried part_of bytes = any-by (carries part_of bytes) (none-carried part_of bytes)

  same-others : (k : ℕ) (part_of : List ℕ → List ℕ) (bytes : List ℕ)
      → any (carries part_of bytes) (other_entries es k) ≡ any (carries part_of bytes) (other_entries es' k)
  same-others k part_of bytes =
      let p = carries part_of bytes in
      any-map p (other_entries es k)
      ∙ ap (any (λ b. b)) (map-set p (entries es) (k - 1) [] ∙ ap (λ (l : List Bool). set l (k - 1) (p [])) (by-used p (none-carried part_of bytes))
      ∙ sym (map-set p (entries es') (k - 1) []))
      ∙ sym (any-map p (other_entries es' k))

  same-lowest : lowest_unused es ≡ lowest_unused es'
  same-lowest = index-by unused as-nil

  -- an entry without its stale bytes
  abbrev seen : List ℕ → List ℕ
  seen e = cond (unused e) [] e

  same-used : (k : ℕ) → unused (entry_of es k) ≡ false → entry_of es k ≡ entry_of es' k
  same-used k u =
      let u' = sym (entry-by unused as-nil k) ∙ u in
      sym (ap (λ (b : Bool). cond b [] (entry_of es k)) u) ∙ entry-by seen (λ e q. rw (q, unused-nil) refl) k
      ∙ ap (λ (b : Bool). cond b [] (entry_of es' k)) u'

  same-offending : (rule : Rule) → first_offending rule es ≡ first_offending rule es'
  unfolding first_offending
  same-offending rule =
      let none : (e : List ℕ) → unused e ≡ true → used_offends rule e ≡ used_offends rule [] =
      λ e q. and-false-l _ _ (ap not q) ∙ sym (and-false-l _ _ (ap not unused-nil)) in
      ap₂ (λ (b : Bool) (k : ℕ). cond b (suc k) 0) (any-by (used_offends rule) none) (index-by (used_offends rule) none)

  module _ (first last : ℕ) where
    same-refusal : (d : Edit) → refusal (table_rows first last es d) ≡ refusal (table_rows first last es' d)
    same-refusal (add p) = rw (same-carried unique_of p.unique, same-carried partition_name_of (name_bytes p.name), any-by unused as-nil, same-ranges)
    same-refusal (delete k) = rw (entry-by unused as-nil k)
    same-refusal (rename k name) = rw (entry-by unused as-nil k, same-others k partition_name_of (name_bytes name))
    same-refusal (resize k size) = go (bool_cases (unused (entry_of es k)))
      where
        behind : List ℕ → List Row
        behind tb = rows_from 20 (table_rows first last tb (resize k size))

        -- 12 or 13, whatever the rows behind them are
        stops : (tb : List ℕ) (rs : List Row) → unused (entry_of tb k) ≡ true
            → refusal (slot_rows tb k ++ rs) ≡ pick_row (not (leb 1 k and leb k 128)) 12 (some 13)
        stops tb rs q = ap (pick_row (not (leb 1 k and leb k 128)) 12) (pick_true _ 13 _ q)

        go : (unused (entry_of es k) ≡ true) ⊎ (unused (entry_of es k) ≡ false)
            → refusal (table_rows first last es (resize k size)) ≡ refusal (table_rows first last es' (resize k size))
        go (inl q) = stops es (behind es) q ∙ sym (stops es' (behind es') (sym (entry-by unused as-nil k) ∙ q))
        go (inr q) = rw (same-used k q, same-ranges)

    same-values : (d : Edit) → (change first last es d).values ≡ (change first last es' d).values
    same-values (add p) = rw (same-lowest, same-ranges)
    same-values (delete k) = refl
    same-values (resize k size) = refl
    same-values (rename k name) = refl

    good-same : good_table first last es ≡ true → good_table first last es' ≡ true
    good-same k = good-make first last es' each two
      where
        each : (i : ℕ) → i < 128 → entry_ok first last (entry_at es' i) ≡ true
        each i h =
            ⊎_elim (λ u. unused-ok first last _ u.1) (λ e. subst (λ (x : List ℕ). entry_ok first last x ≡ true) e (good-at first last es k i h)) (both i h)

        two : (i j : ℕ) → i < 128 → j < 128 → i < j → PairOk (entry_at es' i) (entry_at es' j)
        two i j hi hj l u v = go (both i hi) (both j hj) u v
          where
            go : ((unused (entry_at es i) ≡ true) × (unused (entry_at es' i) ≡ true)) ⊎ (entry_at es i ≡ entry_at es' i)
                → ((unused (entry_at es j) ≡ true) × (unused (entry_at es' j) ≡ true)) ⊎ (entry_at es j ≡ entry_at es' j)
                → PairOk (entry_at es' i) (entry_at es' j)
            go (inl p) q a b = absurd (clash p.1 a)
            go (inr p) (inl q) a b = absurd (clash q.1 b)
            go (inr p) (inr q) a b = subst₂ PairOk p q (good-pair first last es k i j hi hj (λ r. omega arith)) a b

pub good_by_used : GoodByUsed
good_by_used first last es es' s = eq-from _ _ (good-same es es' s first last) (good-same es' es (same_back es es' s) first last)

-- ---- a disk that reads as state s

module _ (g : Shape) (n : ℕ) (h t : List ℕ) (s : ℕ) (reads : (step g n h t read).answer ≡ accepted (s ∷ [])) where
  -- an edit is refused for its lengths, for the state, or by the table
  edit-refusal : (d : Edit)
      → refusal (rows_of g n h t (edit d))
      ≡ pick_row (not (lengths_of d)) 1 (pick_row (not (eqb s 1)) 11 (refusal (table_rows g.first (last_usable g n) (table_of g n h t) d)))
  edit-refusal d =
      let w = row1 g n h t true (read_none g n h t s reads) in
      let behind = refusal (rows_from 2 (rows_of g n h t (edit d))) in
      let rest = refusal (table_rows g.first (last_usable g n) (table_of g n h t) d) in
      ap (λ (b : Bool). pick_row (not b) 1 behind) (sym (and-t (and_i _ _ (eq-eqb _ _ w.0) (eq-eqb _ _ w.1)) refl))
      ∙ ap (pick_row (not (lengths_of d)) 1)
      (pick-false _ 2 _ (ap not (row2 g n h t true (read_none g n h t s reads)))
      ∙ pick-false _ 10 _ (ne_eqb _ _ (row10 g n h t true (read_none g n h t s reads)))
      ∙ ap (λ (x : ℕ). pick_row (not (eqb x 1)) 11 rest) (state-is g n h t s reads))

module _ (g : Shape) (n : ℕ) (h t h' t' : List ℕ) where
  -- refused alike, and with the same values where it is accepted
  same_answer : (c : Call) → refusal (rows_of g n h t c) ≡ refusal (rows_of g n h' t' c)
      → (accepted_outcome g n h t c).answer ≡ (accepted_outcome g n h' t' c).answer → (step g n h t c).answer ≡ (step g n h' t' c).answer
  unfolding step
  same_answer c r a = go (refusal (rows_of g n h t c)) ∙ ap (λ (q : Option ℕ). (unless_refused q h' t' (accepted_outcome g n h' t' c)).answer) r
    where
      go : (q : Option ℕ) → (unless_refused q h t (accepted_outcome g n h t c)).answer ≡ (unless_refused q h' t' (accepted_outcome g n h' t' c)).answer
      go none = a
      go (some k) = refl

pub answers_by_used : AnswersByUsed
answers_by_used g n h t h' t' s reads reads' used c = go c
  where
    es : List ℕ
    es = table_of g n h t

    es' : List ℕ
    es' = table_of g n h' t'

    common : refusal (rows_of g n h t read) ≡ refusal (rows_of g n h' t' read)
    common = read_none g n h t s reads ∙ sym (read_none g n h' t' s reads')

    go : (c : Call) → (step g n h t c).answer ≡ (step g n h' t' c).answer
    go read = reads ∙ sym reads'
    go free_counts = same_answer g n h t h' t' free_counts common (rw (same-ranges es es' used))
    go repair =
        same_answer g n h t h' t' repair common
        (repair-answer g n h t
        ∙ ap (λ (x : ℕ). accepted (x ∷ [])) (state-is g n h t s reads ∙ sym (state-is g n h' t' s reads'))
        ∙ sym (repair-answer g n h' t'))
    go (check rule) = same_answer g n h t h' t' (check rule) common (ap (λ (k : ℕ). accepted (k ∷ [])) (same-offending es es' used rule))
    go (edit d) =
        same_answer g n h t h' t' (edit d)
        (edit-refusal g n h t s reads d
        ∙ ap (λ (q : Option ℕ). pick_row (not (lengths_of d)) 1 (pick_row (not (eqb s 1)) 11 q)) (same-refusal es es' used g.first (last_usable g n) d)
        ∙ sym (edit-refusal g n h' t' s reads' d))
        (ap accepted (same-values es es' used g.first (last_usable g n) d))

-- ---- a type GUID cleared by another tool

pub cleared_reads : ClearedReads
cleared_reads g n h t i wide hi one =
    let w = reads-again g n h t wide i hi one (zeros 16) 0 (omega (arith, length-zeros 16)) in
    let ok = unused-ok g.first (last_usable g n) e un in
    subst (λ (x : ℕ).
    let es' = put x (zeros 16) es in
    let h' = with_table g n primary (guid_in g primary h) es' h in
    let t' = with_table g n backup (guid_in g backup t) es' t in
    ((step g n h' t' read).answer ≡ accepted (1 ∷ [])) × (table_of g n h' t' ≡ es') × (ranges_of es' ≡ set (ranges_of es) i no_blocks))
    (omega arith) (let v = w ok (λ j hj ne a b. absurd (clash un a)) in (v.0, v.1, v.2 ∙ ap (set (ranges_of es) i) (range-unused e un)))
  where
    es : List ℕ
    es = table_of g n h t

    e : List ℕ
    e = put 0 (zeros 16) (entry_at es i)

    un : unused e ≡ true
    un =
        unused-type e
        ∙ ap is_zero (part-put-at (zeros 16) (entry_at es i) 0 16 (length-zeros 16) (omega (arith, length-was g n h t wide i hi one)))
        ∙ zero-zeros 16

-- ---- an add

pub add_overwrites : AddOverwrites
add_overwrites g n h t p i s wide a =
    subst₂
    (λ (j b : ℕ). part (j * 128) 128 (table_of g n (step g n h t (edit (add p))).head (step g n h t (edit (add p))).tail)
    ≡ p.kind ++ p.unique ++ le 8 b ++ le 8 (b + p.size - 1) ++ le 8 p.attributes ++ name_bytes p.name)
    slot_is start_is
    (ap (part (j * 128) 128) table
    ∙ sym (entry-is (edited first last es (add p)) j f.index)
    ∙ at_same first last es len j (new_entry p b) f.index f.len
    ∙ new-whole p b (eqb-true _ _ (and_l _ _ (and_l _ _ l))) (eqb-true _ _ (and_r _ _ (and_l _ _ l))) (eqb-true _ _ (and_r _ _ l)))
  where
    first : ℕ
    first = g.first

    last : ℕ
    last = last_usable g n

    es : List ℕ
    es = table_of g n h t

    j : ℕ
    j = lowest_unused es

    b : ℕ
    b = or_zero (start_for first last es p)

    e : refusal (rows_of g n h t (edit (add p))) ≡ none
    e = accepted-none g n h t (edit (add p)) (suc i ∷ s ∷ []) a

    answered : accepted (suc j ∷ b ∷ []) ≡ accepted (suc i ∷ s ∷ [])
    answered = ap (λ (o : Outcome). o.answer) (sym (step-accepted g n h t (edit (add p)) e)) ∙ a

    slot_is : j ≡ i
    slot_is = let q = answered in cc

    start_is : b ≡ s
    start_is = let q = answered in cc

    l : lengths_of (add p) ≡ true
    l = (lens g wide n h t (add p) e).2

    len : length es ≡ 16384
    len = len-table g wide n h t (add p) e

    f : FitsEdit first last es (add p)
    f = edit-fits g wide n h t (add p) e

    table : table_of g n (step g n h t (edit (add p))).head (step g n h t (edit (add p))).tail ≡ edited first last es (add p)
    table = ap (λ (o : Outcome). table_of g n o.head o.tail) (step-accepted g n h t (edit (add p)) e) ∙ (edit-held g wide n h t (add p) e).table
