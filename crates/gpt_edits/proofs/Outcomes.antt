-- The ways out of an edit whose rows do not hold: the one entry that it writes.
use mathlib.Core.Path.{◌≡◌, sym, ap, ◌∙◌}
use mathlib.Core.Logic.{◌≢◌}
use mathlib.Core.Bool.{true}
use mathlib.Core.List.{List, [], ◌∷◌}
use mathlib.Core.Option.{none, some}
use Prim.Native.Nat.{ℕ, ◌+◌, ◌-◌, ◌≤◌, ◌<◌}
use native.Mathlib.Numerals.{add-one}
use native.Mathlib.Omega.{arith}
use lib.ListN.{length, get_or}
use borrow.Author.Tests.{eqb-true, eqb-false}
use Rattle.octets.specs.Tests.{any, find_ix}
use Rattle.octets.specs.Bytes.{le, put, put_chunk}
use Rattle.octets.specs.Rows.{refusal}
use Rattle.octets.proofs.Bools.{not_f}
use Rattle.octets.proofs.Chunks.{length-chunks}
use Rattle.octets.proofs.Rows.{passes}
use Rattle.octets.proofs.Tests.{find_ix-get}
use Rattle.gpt_model.specs.Table.{first_of, name_bytes, unused, entries, ranges_of}
use Rattle.gpt_model.specs.Disk.{Shape, last_usable, primary, backup, guid_in, entries_in, table_of, with_table}
use Rattle.gpt_model.specs.declared.NewPartition.{NewPartition}
use Rattle.gpt_model.specs.Calls.{Edit, add, delete, resize, rename, edit, new_entry, start_for, table_rows, or_zero, Change, change, edited, lengths_of}
use Rattle.gpt_model.specs.Calls.{rows_of, accepted, outcome, step}
use Rattle.gpt_model.proofs.Room.{room-get, start-some}
use Rattle.gpt_model.proofs.States.{one-primary, one-backup}
use Rattle.gpt_model.proofs.Outcomes.{step-accepted, edit-open, edit-table, open-common, row1, row11}
use Rattle.gpt_checks.proofs.Rows.{slot-number}
use Rattle.gpt_checks.proofs.Judged.{edit-facts}

module _ (g : Shape) (n : ℕ) (h t : List ℕ) (d : Edit) (e : refusal (rows_of g n h t (edit d)) ≡ none) where
  abbrev last : ℕ
  last = last_usable g n

  -- the table that reading uses, as the code finds it in the head
  abbrev tab : List ℕ
  tab = entries_in g primary h

  table_is : table_of g n h t ≡ tab
  table_is = one-primary g n h t (row11 g n h t d (edit-open g n h t d e))

  pub own-rows : refusal (table_rows g.first last tab d) ≡ none
  own-rows = sym (ap (λ (es : List ℕ). refusal (table_rows g.first last es d)) table_is) ∙ edit-table g n h t d e

  pub same_tables : entries_in g primary h ≡ entries_in g backup t
  same_tables = sym table_is ∙ one-backup g n h t (row11 g n h t d (edit-open g n h t d e))

  pub right-lengths : lengths_of d ≡ true
  right-lengths = (row1 g n h t (lengths_of d) (open-common g n h t d (edit-open g n h t d e))).2

  -- the entry that the code writes is the edit's, at its index, and the answer its values
  pub edit-made : (c : Change) (h' t' : List ℕ) → c ≡ change g.first last tab d
      → h' ≡ with_table g n primary (guid_in g primary h) (put_chunk 128 c.index c.entry tab) h
      → t' ≡ with_table g n backup (guid_in g backup t) (put_chunk 128 c.index c.entry tab) t
      → outcome (accepted c.values) h' t' ≡ step g n h t (edit d)
  edit-made c h' t' q a b =
      rw (a, b, q)
      (ap (λ (es : List ℕ). outcome (accepted (change g.first last es d).values)
      (with_table g n primary (guid_in g primary h) (edited g.first last es d) h)
      (with_table g n backup (guid_in g backup t) (edited g.first last es d) t)) (sym table_is)
      ∙ sym (step-accepted g n h t (edit d) e))

-- ---- the edits of a slot

module _ (g : Shape) (n : ℕ) (h t : List ℕ) (k : ℕ) where
  pub delete-slot : refusal (rows_of g n h t (edit (delete k))) ≡ none → (1 ≤ k) × (k ≤ 128)
  delete-slot e = slot-number k (passes 12 (rows_of g n h t (edit (delete k))) e)

  -- entry k of the table, by a part tb of the head that holds the table
  module _ (tb part : List ℕ) (p : tb ≡ entries_in g primary h) (q : part ≡ get_or (entries tb) (k - 1) []) where
    part-is : part ≡ get_or (entries (entries_in g primary h)) (k - 1) []
    part-is = q ∙ ap (λ (x : List ℕ). get_or (entries x) (k - 1) []) p

    pub renamed-is : (new name : List ℕ) → new ≡ put 56 (name_bytes name) part
        → record { values = []; index = k - 1; entry = new } ≡ change g.first (last_usable g n) (entries_in g primary h) (rename k name)
    renamed-is new name r = ap (λ (x : List ℕ). record { values = []; index = k - 1; entry = x }) (r ∙ ap (put 56 (name_bytes name)) part-is)

    pub resized-is : (new : List ℕ) (size : ℕ) → new ≡ put 40 (le 8 (first_of part + size - 1)) part
        → record { values = []; index = k - 1; entry = new } ≡ change g.first (last_usable g n) (entries_in g primary h) (resize k size)
    resized-is new size r =
        ap (λ (x : List ℕ). record { values = []; index = k - 1; entry = x })
        (r ∙ ap (λ (x : List ℕ). put 40 (le 8 (first_of x + size - 1)) x) part-is)

    -- the last block that a resize writes is a number of 64 bits
    pub resize-bound : (size : ℕ) → refusal (rows_of g n h t (edit (resize k size))) ≡ none → first_of part + size < 18446744073709551616
    resize-bound size e =
        let f = not_f _ (passes 25 (table_rows g.first (last_usable g n) (entries_in g primary h) (resize k size)) (own-rows g n h t (resize k size) e)) in
        let w = (room-get _ _ _ _ f).0 in
        let m = (edit-facts g n h t (resize k size) e).most in
        omega (arith, ap first_of part-is)

  pub rename-slot : (name : List ℕ) → refusal (rows_of g n h t (edit (rename k name))) ≡ none → (1 ≤ k) × (k ≤ 128) × (length name ≡ 36)
  rename-slot name e =
      let w = slot-number k (passes 12 (rows_of g n h t (edit (rename k name))) e) in
      (w.0, w.1, eqb-true _ _ (right-lengths g n h t (rename k name) e))

  pub resize-slot : (size : ℕ) → refusal (rows_of g n h t (edit (resize k size))) ≡ none → (1 ≤ k) × (k ≤ 128) × (0 < size)
  resize-slot size e =
      let w = slot-number k (passes 12 (rows_of g n h t (edit (resize k size))) e) in
      let z : size ≢ 0 = eqb-false size 0 (passes 20 (rows_of g n h t (edit (resize k size))) e) in
      (w.0, w.1, omega arith)

-- ---- adding

module _ (g : Shape) (n : ℕ) (h t : List ℕ) (p : NewPartition) (e : refusal (rows_of g n h t (edit (add p))) ≡ none) where
  abbrev d : Edit
  d = add p

  abbrev es : List ℕ
  es = entries_in g primary h

  pub add-size : 0 < p.size
  add-size = let z : p.size ≢ 0 = eqb-false p.size 0 (passes 20 (rows_of g n h t (edit d)) e) in omega arith

  placed-in : (s : ℕ) → start_for g.first (last_usable g n) (table_of g n h t) p ≡ some s → start_for g.first (last_usable g n) es p ≡ some s
  placed-in s r = sym (ap (λ (x : List ℕ). start_for g.first (last_usable g n) x p) (table_is g n h t d e)) ∙ r

  -- some slot is unused
  unused-in : any unused (entries es) ≡ true
  unused-in = not_f _ (passes 24 (table_rows g.first (last_usable g n) es d) (own-rows g n h t d e))

  pub some-slot : (tb : List ℕ) → tb ≡ es → any unused (entries tb) ≡ true
  some-slot tb is = ap (λ (x : List ℕ). any unused (entries x)) is ∙ unused-in

  -- the slot that is taken, by a part tb of the head that holds the table
  module _ (tb : List ℕ) (i : ℕ) (is : tb ≡ es) (q : i ≡ find_ix unused (entries tb)) where
    lowest-is : i ≡ find_ix unused (entries es)
    lowest-is = q ∙ ap (λ (x : List ℕ). find_ix unused (entries x)) is

    pub add-index : i < 128
    add-index =
        let w = (find_ix-get unused (entries es) [] unused-in).0 in
        omega (arith, length-chunks 128 128 es, lowest-is)

    pub add_is : (new : List ℕ) (s : ℕ) → start_for g.first (last_usable g n) (table_of g n h t) p ≡ some s → new ≡ new_entry p s
        → record { values = (i + 1) ∷ s ∷ []; index = i; entry = new } ≡ change g.first (last_usable g n) es d
    add_is new s r w =
        let z : s ≡ or_zero (start_for g.first (last_usable g n) es p) = sym (ap or_zero (placed-in s r)) in
        rw (w, add-one, lowest-is, z)

  -- the last block is a number of 64 bits
  pub add-bound : (s : ℕ) → start_for g.first (last_usable g n) (table_of g n h t) p ≡ some s → s + p.size < 18446744073709551616
  add-bound s r =
      let w = (start-some (ranges_of (table_of g n h t)) g.first (last_usable g n) p.size p.alignment s r).1.1.0 in
      let m = (edit-facts g n h t d e).most in
      omega arith
