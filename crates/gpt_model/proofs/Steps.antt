-- What every call keeps: the disk reads as state 1, its table is the one that the accepted calls make, and the ledger agrees with it.
use mathlib.Core.Path.{◌≡◌, refl, sym, ap, subst, ◌∙◌}
use mathlib.Core.Bool.{true}
use mathlib.Core.List.{List, [], ◌∷◌, map}
use mathlib.Core.Option.{Option, none, some}
use Prim.Native.Nat.{ℕ, suc, ◌+◌, ◌≤◌}
use native.Mathlib.Omega.{arith}
use lib.ListN.{length, get_or, set, length-map, get_or-map}
use borrow.Author.Tests.{leb-true}
use Rattle.octets.specs.Rows.{refusal}
use Rattle.octets.proofs.Bools.{and_r}
use Rattle.octets.proofs.Chunks.{length_put_chunk}
use Rattle.gpt_model.specs.Table.{no_blocks, range_size, range_of, ranges_of, good_table}
use Rattle.gpt_model.specs.Disk.{Shape, last_usable, primary, backup, lent_bytes, guid_in, state, table_of, with_table}
use Rattle.gpt_model.specs.Calls.{Edit, Call, read, free_counts, repair, check, edit, refused, Outcome, outcome, table_rows, change, edited, lengths_of}
use Rattle.gpt_model.specs.Calls.{rows_of, accepted_outcome, step}
use Rattle.gpt_model.specs.Lists.{Ledger, book_edit, book, Snapshot, after_one, after_all, answers, table_next, applied, total}
use Rattle.gpt_model.proofs.Counts.{total-set}
use Rattle.gpt_model.proofs.Entries.{map-set, get_or-range, length-ranges_of, entry_at, ranges-put, good-put}
use Rattle.gpt_model.proofs.Edits.{FitsEdit, replied, fits}
use Rattle.gpt_model.proofs.Copies.{length-entries}
use Rattle.gpt_model.proofs.States.{Holds, one-primary, readable-good, edit-holds}
use Rattle.gpt_model.proofs.Outcomes.{step-refused, step-accepted, row1, row2, row11, open-common, edit-open, edit-table}

-- ---- an edit that no row refuses

module _ (first last : ℕ) (es : List ℕ) (len : length es ≡ 16384) (d : Edit) (f : FitsEdit first last es d) where
  abbrev i : ℕ
  i = (change first last es d).index

  abbrev e : List ℕ
  e = (change first last es d).entry

  pub length-edited : length (edited first last es d) ≡ 16384
  length-edited = length_put_chunk 128 128 i e es f.len f.index len

  pub edited-good : good_table first last es ≡ true → good_table first last (edited first last es d) ≡ true
  edited-good k = good-put first last es len i e f.index f.len k f.ok f.pair

  sizes-edited : map range_size (ranges_of (edited first last es d)) ≡ set (map range_size (ranges_of es)) i (range_size (range_of e))
  sizes-edited = ap (map range_size) (ranges-put first last es len i e f.index f.len) ∙ map-set range_size (ranges_of es) i (range_of e)

-- the ledger agrees with the table: per slot the size, and the sums
pub record Agrees (es : List ℕ) (l : Ledger) : Type 0 where
  pub sizes : l.sizes ≡ map range_size (ranges_of es)
  pub sum : total (map range_size (ranges_of es)) + l.back ≡ l.granted

pub edit-agrees : (first last : ℕ) (es : List ℕ) (len : length es ≡ 16384) (d : Edit) (f : FitsEdit first last es d) (l : Ledger)
    → Agrees es l → Agrees (edited first last es d) (book_edit l d (replied first last es d))
edit-agrees first last es len d f l v =
    let i : ℕ = (change first last es d).index in
    let s : ℕ = range_size (range_of (change first last es d).entry) in
    let p = sizes-edited first last es len d f in
    let z : get_or (map range_size (ranges_of es)) (change first last es d).index 0 ≡ range_size (range_of (entry_at es (change first last es d).index)) =
    get_or-map range_size (ranges_of es) (change first last es d).index no_blocks ∙ ap range_size (get_or-range es (change first last es d).index) in
    record {
      sizes = f.sizes l v.sizes ∙ ap (λ (x : List ℕ). set x i s) v.sizes ∙ sym p;
      sum =
          let a = total-set (map range_size (ranges_of es)) i s (omega (arith, length-map (ranges_of es) range_size, length-ranges_of es, f.index)) in
          let b = ap total p in
          let c = f.balance l v.sizes in
          let d = v.sum in
          omega arith;
    }

-- ---- what every call keeps

-- the disk reads as state 1, and the ledger agrees with the table that is read
pub record Kept (g : Shape) (n : ℕ) (r : Snapshot) : Type 0 where
  pub len_head : length r.head ≡ lent_bytes g primary
  pub len_tail : length r.tail ≡ lent_bytes g backup
  pub reads : state g n r.head r.tail ≡ 1
  pub agrees : Agrees (table_of g n r.head r.tail) r.ledger

pub kept : (g : Shape) (n : ℕ) (r : Snapshot) (es : List ℕ) → Holds g n r.head r.tail es → Agrees es r.ledger → Kept g n r
kept g n r es w v =
    record { len_head = w.len_head; len_tail = w.len_tail; reads = w.reads; agrees = subst (λ (x : List ℕ). Agrees x r.ledger) (sym w.table) v }

-- an edit that no row refuses: the entry that it writes fits, and both copies hold the edited table
module _ (g : Shape) (wide : 92 ≤ g.block) (n : ℕ) (h t : List ℕ) (d : Edit) (e : refusal (rows_of g n h t (edit d)) ≡ none) where
  pub lens : (length h ≡ lent_bytes g primary) × (length t ≡ lent_bytes g backup) × (lengths_of d ≡ true)
  lens = row1 g n h t (lengths_of d) (open-common g n h t d (edit-open g n h t d e))

  one : state g n h t ≡ 1
  one = row11 g n h t d (edit-open g n h t d e)

  pub len-table : length (table_of g n h t) ≡ 16384
  len-table = ap length (one-primary g n h t one) ∙ length-entries g wide primary h lens.0

  good : good_table g.first (last_usable g n) (table_of g n h t) ≡ true
  good = readable-good g n h t (λ z. let w = one in omega arith)

  pub edit-fits : FitsEdit g.first (last_usable g n) (table_of g n h t) d
  edit-fits =
      let small : n ≤ 4294967296 = leb-true _ _ (and_r _ _ (row2 g n h t (lengths_of d) (open-common g n h t d (edit-open g n h t d e)))) in
      fits g.first (last_usable g n) (omega arith) (table_of g n h t) len-table good d lens.2 (edit-table g n h t d e)

  pub edit-held : Holds g n (with_table g n primary (guid_in g primary h) (edited g.first (last_usable g n) (table_of g n h t) d) h)
      (with_table g n backup (guid_in g backup t) (edited g.first (last_usable g n) (table_of g n h t) d) t)
      (edited g.first (last_usable g n) (table_of g n h t) d)
  edit-held =
      edit-holds g wide n h t lens.0 lens.1 _ (length-edited g.first (last_usable g n) (table_of g n h t) len-table d edit-fits)
      (edited-good g.first (last_usable g n) (table_of g n h t) len-table d edit-fits good) one

module _ (g : Shape) (wide : 92 ≤ g.block) (n : ℕ) (r : Snapshot) (v : Kept g n r) where
  abbrev es : List ℕ
  es = table_of g n r.head r.tail

  -- what is to be shown of an outcome o of the call c: the ledger agrees with the table, which is the one that the call makes
  abbrev After : Call → Outcome → Type 0
  After c o =
      Kept g n (record { head = o.head; tail = o.tail; ledger = book r.ledger c o.answer })
      × (table_of g n o.head o.tail ≡ table_next g.first (last_usable g n) es c o.answer)

  after-accepted : (c : Call) → refusal (rows_of g n r.head r.tail c) ≡ none → After c (accepted_outcome g n r.head r.tail c)
  after-accepted read e = (v, refl)
  after-accepted free_counts e = (v, refl)
  after-accepted repair e = rw v.reads (v, refl)
  after-accepted (check rule) e = (v, refl)
  after-accepted (edit d) e =
      let f = edit-fits g wide n r.head r.tail d e in
      let w = edit-held g wide n r.head r.tail d e in
      (kept g n _ _ w (edit-agrees g.first (last_usable g n) es (len-table g wide n r.head r.tail d e) d f r.ledger v.agrees), w.table)

  after-refused : (c : Call) (k : ℕ) → After c (outcome (refused k) r.head r.tail)
  after-refused read k = (v, refl)
  after-refused free_counts k = (v, refl)
  after-refused repair k = (v, refl)
  after-refused (check rule) k = (v, refl)
  after-refused (edit d) k = (v, refl)

  pub keeps : (c : Call) → After c (step g n r.head r.tail c)
  keeps c = go (refusal (rows_of g n r.head r.tail c)) refl
    where
      go : (q : Option ℕ) → refusal (rows_of g n r.head r.tail c) ≡ q → After c (step g n r.head r.tail c)
      go none e = subst (After c) (sym (step-accepted g n r.head r.tail c e)) (after-accepted c e)
      go (some k) e = subst (After c) (sym (step-refused g n r.head r.tail c k e)) (after-refused c k)

-- after a list
pub keeps-all : (g : Shape) → 92 ≤ g.block → (n : ℕ) (cs : List Call) (r : Snapshot) → Kept g n r
    → Kept g n (after_all (step g n) cs r)
    × (table_of g n (after_all (step g n) cs r).head (after_all (step g n) cs r).tail
    ≡ applied g.first (last_usable g n) (table_of g n r.head r.tail) cs (answers (step g n) cs r))
keeps-all g wide n [] r v = (v, refl)
keeps-all g wide n (c ∷ cs) r v =
    let w = keeps g wide n r v c in
    let k = keeps-all g wide n cs (after_one (step g n) c r) w.0 in
    (k.0, k.1 ∙ ap (λ (x : List ℕ). applied g.first (last_usable g n) x cs (answers (step g n) cs (after_one (step g n) c r))) w.1)

-- what every such edit that no row refuses keeps of the table, every list of such edits keeps
module _ (g : Shape) (wide : 92 ≤ g.block) (n : ℕ) (P : List ℕ → Type 0) (Such : Edit → Type 0)
    (edits : (es : List ℕ) (d : Edit) → Such d → length es ≡ 16384 → lengths_of d ≡ true → refusal (table_rows g.first (last_usable g n) es d) ≡ none
    → FitsEdit g.first (last_usable g n) es d → P es → P (edited g.first (last_usable g n) es d)) where
  module _ (r : Snapshot) (p : P (table_of g n r.head r.tail)) where
    abbrev Next : Call → Outcome → Type 0
    Next c o = P (table_next g.first (last_usable g n) (table_of g n r.head r.tail) c o.answer)

    next-accepted : (c : Call) → ((d : Edit) → c ≡ edit d → Such d) → refusal (rows_of g n r.head r.tail c) ≡ none
        → Next c (accepted_outcome g n r.head r.tail c)
    next-accepted read s e = p
    next-accepted free_counts s e = p
    next-accepted repair s e = p
    next-accepted (check rule) s e = p
    next-accepted (edit d) s e =
        edits (table_of g n r.head r.tail) d (s d refl) (len-table g wide n r.head r.tail d e) (lens g wide n r.head r.tail d e).2
        (edit-table g n r.head r.tail d e) (edit-fits g wide n r.head r.tail d e) p

    next-refused : (c : Call) (k : ℕ) → Next c (outcome (refused k) r.head r.tail)
    next-refused read k = p
    next-refused free_counts k = p
    next-refused repair k = p
    next-refused (check rule) k = p
    next-refused (edit d) k = p

    next-keeps : (c : Call) → ((d : Edit) → c ≡ edit d → Such d) → Next c (step g n r.head r.tail c)
    next-keeps c s = go (refusal (rows_of g n r.head r.tail c)) refl
      where
        go : (q : Option ℕ) → refusal (rows_of g n r.head r.tail c) ≡ q → Next c (step g n r.head r.tail c)
        go none e = subst (Next c) (sym (step-accepted g n r.head r.tail c e)) (next-accepted c s e)
        go (some k) e = subst (Next c) (sym (step-refused g n r.head r.tail c k e)) (next-refused c k)

  pub holds_after : (cs : List Call) → ((k : ℕ) (d : Edit) → get_or cs k read ≡ edit d → Such d) → (r : Snapshot) → Kept g n r
      → P (table_of g n r.head r.tail) → P (table_of g n (after_all (step g n) cs r).head (after_all (step g n) cs r).tail)
  holds_after [] s r v p = p
  holds_after (c ∷ cs) s r v p =
      let w = keeps g wide n r v c in
      holds_after cs (λ k. s (suc k)) (after_one (step g n) c r) w.0 (subst P (sym w.1) (next-keeps r p c (s 0)))
