-- The rows of a call by its stages: those before an edit's own, then its own over the table that reading uses.
use mathlib.Core.Path.{◌≡◌, refl, sym, ap, ◌∙◌}
use mathlib.Core.Logic.{◌≢◌}
use mathlib.Core.Bool.{Bool, true, false, not}
use mathlib.Core.List.{List, ◌++◌}
use mathlib.Core.Option.{Option, none, some}
use Prim.Native.Nat.{ℕ, ◌*◌, ◌≤◌, ◌<◌}
use native.Mathlib.Omega.{arith}
use lib.Dec.{eqb}
use lib.ListN.{length}
use borrow.Author.Tests.{eqb-true, eqb-false, leb-true, eq-eqb}
use Rattle.octets.specs.Tests.{◌and◌}
use Rattle.octets.specs.Rows.{Row, refusal}
use Rattle.octets.proofs.Bools.{and_l, and_r, and_i, not_f}
use Rattle.octets.proofs.Rows.{rows_from, passes, refusal-append, refusal-first, refusal-before}
use Rattle.gpt_model.specs.Ranges.{lowest_start}
use Rattle.gpt_model.specs.Table.{ranges_of}
use Rattle.gpt_model.specs.Disk.{Shape, most_blocks, last_usable, in_range, primary, backup, lent_bytes, entries_in, state, table_of}
use Rattle.gpt_model.specs.declared.NewPartition.{NewPartition}
use Rattle.gpt_model.specs.Calls.{Edit, add, delete, resize, rename, edit}
use Rattle.gpt_model.specs.Calls.{slot_rows, add_rows, start_for, table_rows, is_none, lengths_of, lengths_ok, lent_rows, open_rows, rows_of}
use Rattle.gpt_model.specs.Calls.{format_rows}
use Rattle.gpt_model.proofs.Outcomes.{edit-decides, edit-stops}
use Rattle.gpt_model.proofs.Accepts.{alignment-least}
use Rattle.gpt_model.proofs.States.{one-primary}
use Rattle.gpt_room.specs.Answers.{placed}
use Rattle.gpt_model.specs.declared.Block.{Block}
use Rattle.std.specs.Prelude as std
use Rattle.std.specs.Prelude.{Some, None, Result, Ok, Err, ok_or}
use denote.Enum.Bare.{sameb}
use Rattle.gpt_copies.specs.contracts.State.{the_type}
use Rattle.octets.specs.Rows.{pick_row}
use Rattle.gpt_checks.specs.Refusals.{number_of}
use Rattle.gpt_checks.specs.declared.Refusal.{Refusal}
use Rattle.gpt_checks.specs.declared.Refusal.TheVariants.{NeitherGood, NoRoom}
use Rattle.gpt_copies.specs.States.{state_number}
use Rattle.std.specs.Prelude.{Option as Found}
use Rattle.gpt_copies.specs.declared.State.{State}
use Rattle.gpt_copies.specs.declared.State.TheVariants.{Both, Differ, PrimaryOnly, BackupOnly}
use Rattle.gpt_checks.proofs.Rows.{slot-number}
use Rattle.gpt_checks.specs.Checks.{stop_of}

-- 10, 11, by the state k of the two copies
abbrev state_rows : ℕ → Option ℕ
state_rows k = pick_row (eqb k 0) 10 (pick_row (not (eqb k 1)) 11 none)

neither-row : (o : Found State) (r : Refusal) → Err r ≡ ok_or o NeitherGood → some (number_of r) ≡ state_rows (state_number o)
unfolding pick_row
neither-row None r e = let z : r ≡ NeitherGood = cc in ap (λ (x : Refusal). some (number_of x)) z
neither-row (Some x) r e = cc

differ-row : (o : Found State) (x : State) → Ok x ≡ ok_or o NeitherGood → pick_row (not (sameb the_type x Both)) 11 none ≡ state_rows (state_number o)
unfolding pick_row
differ-row None x e = cc
differ-row (Some Both) x e = let z : x ≡ Both = cc in rw z
differ-row (Some Differ) x e = let z : x ≡ Differ = cc in rw z
differ-row (Some PrimaryOnly) x e = let z : x ≡ PrimaryOnly = cc in rw z
differ-row (Some BackupOnly) x e = let z : x ≡ BackupOnly = cc in rw z

module _ (g : Shape) (n : ℕ) (h t : List ℕ) where
  -- ---- rows 1 and 2

  pub record Lent : Type 0 where
    pub head : length h ≡ lent_bytes g primary
    pub tail : length t ≡ lent_bytes g backup
    pub least : 2 * g.first ≤ n
    pub most : n ≤ most_blocks

  lent_by : (b : Bool) → not (lengths_ok g h t and b) ≡ false → not (in_range g n) ≡ false → Lent
  lent_by b p q =
      let l = and_l _ _ (not_f _ p) in
      let r = not_f _ q in
      record { head = eqb-true _ _ (and_l _ _ l); tail = eqb-true _ _ (and_r _ _ l); least = leb-true _ _ (and_l _ _ r); most = leb-true _ _ (and_r _ _ r) }

  pub lent-facts : refusal (lent_rows g n h t true) ≡ none → Lent
  lent-facts e = lent_by true (passes 1 (lent_rows g n h t true) e) (passes 2 (lent_rows g n h t true) e)

  pub format-facts : (guid : List ℕ) → refusal (format_rows g n guid h t) ≡ none → Lent
  format-facts guid e = lent_by (eqb (length guid) 16) (passes 1 (format_rows g n guid h t) e) (passes 2 (format_rows g n guid h t) e)

  pub edit-facts : (d : Edit) → refusal (rows_of g n h t (edit d)) ≡ none → Lent
  edit-facts d e = lent_by (lengths_of d) (passes 1 (rows_of g n h t (edit d)) e) (passes 2 (rows_of g n h t (edit d)) e)

  -- ---- rows 1, 2, 10, 11

  abbrev later : List Row
  later = rows_from 10 (open_rows g n h t true)

  -- by the state o that the code finds
  module _ (e : refusal (lent_rows g n h t true) ≡ none) (o : Found State) (q : state_number o ≡ state g n h t) where
    opening : state_rows (state_number o) ≡ refusal (open_rows g n h t true)
    opening = ap state_rows q ∙ sym (refusal-append (lent_rows g n h t true) later e)

    pub open-neither : (r : Refusal) → Err r ≡ ok_or o NeitherGood → some (number_of r) ≡ refusal (open_rows g n h t true)
    open-neither r w = neither-row o r w ∙ opening

    pub open-differ : (x : State) → Ok x ≡ ok_or o NeitherGood → (b : Bool) → b ≡ not (sameb the_type x Both)
        → pick_row b 11 none ≡ refusal (open_rows g n h t true)
    open-differ x w b z = rw z (differ-row o x w ∙ opening)

  -- the rows before an edit's own, where GUIDs and name have the lengths of their types
  open_is : (d : Edit) → lengths_of d ≡ true → refusal (open_rows g n h t (lengths_of d)) ≡ refusal (open_rows g n h t true)
  open_is d l = ap (λ (b : Bool). refusal (open_rows g n h t b)) l

  module _ (e : refusal (open_rows g n h t true) ≡ none) where
    pub open-facts : Lent
    open-facts = lent-facts (refusal-before (lent_rows g n h t true) later e).0

    -- the table that reading uses, as the code finds it in the head
    pub table_is : entries_in g primary h ≡ table_of g n h t
    table_is = sym (one-primary g n h t (eqb-true _ _ (not_f _ (passes 11 (open_rows g n h t true) e))))

    -- an edit's own rows, over a part tb of the head that holds the table
    pub own-rows : (d : Edit) → lengths_of d ≡ true → (tb : List ℕ) → tb ≡ entries_in g primary h
        → refusal (table_rows g.first (last_usable g n) tb d) ≡ refusal (rows_of g n h t (edit d))
    own-rows d l tb is =
        ap (λ (es : List ℕ). refusal (table_rows g.first (last_usable g n) es d)) (is ∙ table_is) ∙ sym (edit-decides g n h t d (open_is d l ∙ e))

    pub placed-in : (tb : List ℕ) → tb ≡ entries_in g primary h → (p : NewPartition) (s : ℕ) → start_for g.first (last_usable g n) tb p ≡ some s
        → start_for g.first (last_usable g n) (table_of g n h t) p ≡ some s
    placed-in tb is p s q = sym (ap (λ (es : List ℕ). start_for g.first (last_usable g n) es p) (is ∙ table_is)) ∙ q

  pub open-stops : (d : Edit) → lengths_of d ≡ true → (k : ℕ) → refusal (open_rows g n h t true) ≡ some k → some k ≡ refusal (rows_of g n h t (edit d))
  open-stops d l k e = sym (edit-stops g n h t d k (open_is d l ∙ e))

  -- ---- R29: Rename the same, then 23 (a4: 26 last). R30: Resize as delete, then 20, 25

  module _ (k : ℕ) where
    abbrev slotted : List Row
    slotted = rows_of g n h t (edit (delete k))

    pub delete-open : refusal slotted ≡ none → refusal (open_rows g n h t true) ≡ none
    delete-open e = (refusal-before (open_rows g n h t true) (slot_rows (table_of g n h t) k) e).0

    pub delete-slot : refusal slotted ≡ none → (1 ≤ k) × (k ≤ 128)
    delete-slot e = slot-number k (passes 12 slotted e)

    -- where the name has its length, the rows of renaming are those of a delete, then 23 and 26
    module _ (name : List ℕ) (l : length name ≡ 36) where
      abbrev named : List Row
      named = rows_from 23 (rows_of g n h t (edit (rename k name)))

      abbrev renamed : Option ℕ
      renamed = refusal (rows_of g n h t (edit (rename k name)))

      rename-is : refusal (slotted ++ named) ≡ renamed
      rename-is =
          sym (ap (λ (b : Bool). refusal (open_rows g n h t b ++ table_rows g.first (last_usable g n) (table_of g n h t) (rename k name)))
          (eq-eqb (length name) 36 l))

      pub rename-stops : (j : ℕ) → refusal slotted ≡ some j → some j ≡ renamed
      rename-stops j e = sym (refusal-first slotted named j e) ∙ rename-is

      pub rename-goes_on : refusal slotted ≡ none → refusal named ≡ renamed
      rename-goes_on e = sym (refusal-append slotted named e) ∙ rename-is

    module _ (size : ℕ) where
      abbrev own : List Row
      own = rows_from 20 (rows_of g n h t (edit (resize k size)))

      abbrev resized : Option ℕ
      resized = refusal (rows_of g n h t (edit (resize k size)))

      pub resize-stops : (j : ℕ) → refusal slotted ≡ some j → some j ≡ resized
      resize-stops j e = sym (refusal-first slotted own j e)

      pub resize-goes_on : refusal slotted ≡ none → refusal own ≡ resized
      resize-goes_on e = sym (refusal-append slotted own e)

-- ---- adding, from row 20 on, over the table es

pub add-lengths : (p : NewPartition) → length p.kind ≡ 16 → length p.unique ≡ 16 → length p.name ≡ 36 → lengths_of (add p) ≡ true
add-lengths p a b c = and_i _ _ (and_i _ _ (eq-eqb _ _ a) (eq-eqb _ _ b)) (eq-eqb _ _ c)

-- 25: no start
room-row : (o : std.Option Block) → pick_row (is_none (placed o)) 25 none ≡ stop_of (ok_or o NoRoom)
unfolding pick_row
room-row (Some b) = refl
room-row None = refl

module _ (g : Shape) (n : ℕ) (es : List ℕ) (p : NewPartition) where
  abbrev before25 : List Row
  before25 = add_rows es p

  abbrev from25 : List Row
  from25 = rows_from 25 (table_rows g.first (last_usable g n) es (add p))

  abbrev start : Option ℕ
  start = start_for g.first (last_usable g n) es p

  abbrev rows : Option ℕ
  rows = refusal (table_rows g.first (last_usable g n) es (add p))

  pub add-size : refusal before25 ≡ none → 0 < p.size
  add-size e = let w : p.size ≢ 0 = eqb-false p.size 0 (passes 20 before25 e) in omega arith

  pub add-alignment : refusal before25 ≡ none → 0 < p.alignment
  add-alignment e = alignment-least p.alignment (not_f _ (passes 27 before25 e))

  pub start-stops : (k : ℕ) → refusal before25 ≡ some k → some k ≡ rows
  start-stops k e = sym (refusal-first before25 from25 k e)

  -- what the search for a start answers, between the usable blocks f and l
  module _ (e : refusal before25 ≡ none) (q : std.Option Block) (f l : ℕ) (ef : f ≡ g.first) (el : l ≡ last_usable g n)
      (r : placed q ≡ lowest_start (ranges_of es) f l p.size p.alignment) where
    placed-is : placed q ≡ start
    placed-is = r ∙ rw (ef, el)

    pub start-found : stop_of (ok_or q NoRoom) ≡ rows
    start-found = sym (refusal-append before25 from25 e ∙ ap (λ (o : Option ℕ). pick_row (is_none o) 25 none) (sym placed-is) ∙ room-row q)
