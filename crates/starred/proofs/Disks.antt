-- Samples 1 to 5.
-- A list of edits is computed on the table alone, with no CRC; `answers-table` carries the answers over to head and tail.
use mathlib.Core.Path.{◌≡◌, refl, ap, ap₂, ◌∙◌}
use mathlib.Core.Bool.{Bool, true, not}
use mathlib.Core.List.{List, [], ◌∷◌, ◌++◌, map}
use mathlib.Core.Option.{Option, none, some}
use Prim.Native.Nat.{ℕ, suc, ◌+◌, ◌-◌, ◌^◌, ◌≤◌, ◌<◌}
use native.Mathlib.Omega.{arith}
use lib.Dec.{eqb}
use lib.ListN.{length, get_or, take, drop, replicate}
use borrow.Author.Tests.{eq-eqb}
use Rattle.octets.specs.Tests.{◌and◌, ◌or◌, all}
use Rattle.octets.specs.Rows.{pick_row, refusal}
use Rattle.octets.specs.Bytes.{le, unle, part, field, put, zeros, same, chunks, put_chunk}
use Rattle.octets.proofs.Bools.{and_l, and_r, and_i}
use Rattle.octets.proofs.Numbers.{length-le, unle-le}
use Rattle.octets.proofs.Parts.{length-zeros}
use Rattle.octets.proofs.Rows.{pick_true, pick-false}
use Rattle.gpt_model.specs.Table.{BlockRange, no_blocks, spans, unused, range_of, ranges_of}
use Rattle.gpt_model.specs.Disk.{Shape, disk512, last_usable, in_range, Side, primary, backup, block0, header_fields, header_in, header_crc, header, table_of}
use Rattle.gpt_model.specs.Ranges.{block_in, all_from, room_at, lowest_from, lowest_start, count_from, taken, free_count}
use Rattle.gpt_model.specs.Attributes.{offends}
use Rattle.gpt_model.specs.Calls.{Edit, Call, read, free_counts, repair, check, edit, Answer, refused, accepted, Outcome, table_rows, change, lengths_of}
use Rattle.gpt_model.specs.Calls.{lengths_ok, rows_of, step, format}
use Rattle.gpt_model.specs.Lists.{Ledger, book, Snapshot, after_one, after_all, answers, table_next, applied, start_after, ranges_in}
use Rattle.gpt_model.specs.Claims.{Formats}
use Rattle.gpt_model.proofs.Fields.{length-write_all, behind}
use Rattle.gpt_model.proofs.Copies.{header-reads, written-header}
use Rattle.gpt_model.proofs.Outcomes.{step-refused, step-accepted, edit-decides, open_none}
use Rattle.gpt_model.proofs.Steps.{Kept, keeps}
use Rattle.gpt_model.proofs.Demand3.{format-refused, formatted, format-starts, starts-kept, not_empty}
use Rattle.starred.specs.Claims.{After, lengths_in, edits2, edits4, edits5, Sample1, Sample2, Sample3, Sample4, Sample5}

-- ---- answers on the table alone

abbrev pick_answer : Option ℕ → List ℕ → Answer
pick_answer none values = accepted values
pick_answer (some k) values = refused k

abbrev answer_t : ℕ → ℕ → List ℕ → Edit → Answer
answer_t first last es d = pick_answer (refusal (table_rows first last es d)) (change first last es d).values

abbrev answers_t : ℕ → ℕ → List ℕ → List Edit → List Answer
answers_t first last es [] = []
answers_t first last es (d ∷ ds) =
    let a = answer_t first last es d in a ∷ answers_t first last (table_next first last es (edit d) a) ds

module _ (g : Shape) (wide : 92 ≤ g.block) (n : ℕ) (range : in_range g n ≡ true) where
  answer-table : (r : Snapshot) (d : Edit) → Kept g n r → lengths_of d ≡ true
      → (step g n r.head r.tail (edit d)).answer ≡ answer_t g.first (last_usable g n) (table_of g n r.head r.tail) d
  answer-table r d v l = go (refusal (table_rows g.first (last_usable g n) (table_of g n r.head r.tail) d)) refl
    where
      rows : refusal (rows_of g n r.head r.tail (edit d)) ≡ refusal (table_rows g.first (last_usable g n) (table_of g n r.head r.tail) d)
      rows = edit-decides g n r.head r.tail d (open_none g n r.head r.tail d v.len_head v.len_tail l range v.reads)

      go : (q : Option ℕ) → refusal (table_rows g.first (last_usable g n) (table_of g n r.head r.tail) d) ≡ q
          → (step g n r.head r.tail (edit d)).answer ≡ answer_t g.first (last_usable g n) (table_of g n r.head r.tail) d
      go none e = rw e (ap (λ (o : Outcome). o.answer) (step-accepted g n r.head r.tail (edit d) (rows ∙ e)))
      go (some k) e = rw e (ap (λ (o : Outcome). o.answer) (step-refused g n r.head r.tail (edit d) k (rows ∙ e)))

  answers-table : (ds : List Edit) (r : Snapshot) (es : List ℕ) → Kept g n r → table_of g n r.head r.tail ≡ es → all lengths_of ds ≡ true
      → answers (step g n) (map edit ds) r ≡ answers_t g.first (last_usable g n) es ds
  answers-table [] r es v q l = refl
  answers-table (d ∷ ds) r es v q l =
      let w = keeps g wide n r v (edit d) in
      let a : (step g n r.head r.tail (edit d)).answer ≡ answer_t g.first (last_usable g n) es d =
      answer-table r d v (and_l _ _ l) ∙ ap (λ (x : List ℕ). answer_t g.first (last_usable g n) x d) q in
      ap₂ ◌∷◌ a
      (answers-table ds (after_one (step g n) (edit d) r) (table_next g.first (last_usable g n) es (edit d) (answer_t g.first (last_usable g n) es d)) w.0
      (w.1 ∙ ap₂ (λ (x : List ℕ) (y : Answer). table_next g.first (last_usable g n) x (edit d) y) q a) (and_r _ _ l))

-- the ledger after a list, from calls and replies alone
abbrev book_all : Ledger → List Call → List Answer → Ledger
book_all l [] replies = l
book_all l (c ∷ cs) [] = l
book_all l (c ∷ cs) (a ∷ replies) = book_all (book l c a) cs replies

ledger-run : (g : Shape) (n : ℕ) (cs : List Call) (r : Snapshot) → (after_all (step g n) cs r).ledger ≡ book_all r.ledger cs (answers (step g n) cs r)
ledger-run g n [] r = refl
ledger-run g n (c ∷ cs) r = ledger-run g n cs (after_one (step g n) c r)

-- ---- a list of edits on a freshly formatted disk of 512-byte blocks, by the answers on the table alone

record Computed (n : ℕ) (ds : List Edit) (replies : List Answer) (a : List Answer) (r : Snapshot) : Type 0 where
  replied : a ≡ replies
  table : ranges_in disk512 n r ≡ ranges_of (applied 34 (n - 34) (zeros 16384) (map edit ds) replies)
  ledger : r.ledger ≡ book_all (record { granted = 0; back = 0; sizes = replicate 128 0 }) (map edit ds) replies

computed : (n : ℕ) (ds : List Edit) (replies : List Answer) → all lengths_of ds ≡ true → answers_t 34 (n - 34) (zeros 16384) ds ≡ replies
    → After n ds (Computed n ds replies)
computed n ds replies l q guid h t f =
    let s = format-starts disk512 n guid h t f in
    let r = start_after (format disk512 n guid h t) in
    let a = answers-table disk512 f.wide n f.range ds r (zeros 16384) (starts-kept disk512 n (zeros 16384) r s) s.table l ∙ q in
    record {
      replied = a;
      table = ap ranges_of ((not_empty disk512 n guid h t f (map edit ds)).table ∙ ap (applied 34 (n - 34) (zeros 16384) (map edit ds)) a);
      ledger = ledger-run disk512 n (map edit ds) r ∙ ap (book_all r.ledger (map edit ds)) a;
    }

-- ---- the samples

small : not (in_range disk512 67) ≡ true
unfolding ◌and◌
small = refl

pub sample1 : Sample1
sample1 guid h t lg lh lt = (
  ap (λ (o : Outcome). o.answer) (format-refused disk512 67 guid h t 2 (rows (eqb (length guid) 16) _ (eq-eqb _ _ lg))),
  λ c l. ap (λ (o : Outcome). o.answer) (step-refused disk512 67 h t c 2 (calls c l)),
)
  where
    rows : (b : Bool) (o : Option ℕ) → b ≡ true → pick_row (not (lengths_ok disk512 h t and b)) 1 (pick_row (not (in_range disk512 67)) 2 o) ≡ some 2
    rows b o l = pick-false _ _ _ (ap not (and_i _ _ (and_i _ _ (eq-eqb _ _ lh) (eq-eqb _ _ lt)) l)) ∙ pick_true _ _ _ small

    calls : (c : Call) → lengths_in c ≡ true → refusal (rows_of disk512 67 h t c) ≡ some 2
    calls read l = rows true _ refl
    calls free_counts l = rows true _ refl
    calls repair l = rows true _ refl
    calls (check rule) l = rows true _ refl
    calls (edit d) l = rows (lengths_of d) _ l

answers2 : answers_t 34 34 (zeros 16384) edits2 ≡ accepted (1 ∷ 34 ∷ []) ∷ refused 25 ∷ []
unfolding zeros put put_chunk chunks range_of unused part le unle same lowest_start room_at lowest_from all_from block_in pick_row offends ◌or◌ ◌and◌
answers2 = refl

slots2 : ranges_of (applied 34 34 (zeros 16384) (map edit edits2) (accepted (1 ∷ 34 ∷ []) ∷ refused 25 ∷ [])) ≡ spans 34 34 ∷ replicate 127 no_blocks
unfolding zeros put put_chunk chunks range_of unused part le unle same lowest_start room_at lowest_from all_from block_in ◌or◌ ◌and◌
slots2 = refl

lengths2 : all lengths_of edits2 ≡ true
unfolding ◌and◌
lengths2 = refl

pub sample2 : Sample2
sample2 = (refl, refl, λ guid h t f. let w = computed 68 edits2 _ lengths2 answers2 guid h t f in (w.replied, ap (take 1) (w.table ∙ slots2)))

-- a number of the header that a formatting writes
module _ (n : ℕ) (guid h t : List ℕ) (f : Formats disk512 n guid h t) where
  head-header : header_in disk512 primary (format disk512 n guid h t).head ≡ header disk512 n primary guid (zeros 16384)
  head-header =
      ap (λ (o : Outcome). header_in disk512 primary o.head) (formatted disk512 n guid h t f)
      ∙ written-header disk512 f.wide n primary guid (zeros 16384) _ (length-zeros 16384) (length-write_all (block0 n) (zeros 17408) ∙ length-zeros 17408)

  tail-header : header_in disk512 backup (format disk512 n guid h t).tail ≡ header disk512 n backup guid (zeros 16384)
  tail-header =
      ap (λ (o : Outcome). header_in disk512 backup o.tail) (formatted disk512 n guid h t f)
      ∙ written-header disk512 f.wide n backup guid (zeros 16384) _ (length-zeros 16384) (length-zeros 16896)

-- by the field's place in the list
number : (side : Side) (guid : List ℕ) (i at x : ℕ) → i < 14
    → get_or (header_fields disk512 100 side guid (zeros 16384) (header_crc disk512 100 side guid (zeros 16384))) i (0, []) ≡ (at, le 8 x)
    → behind (at + 8) (drop (suc i) (header_fields disk512 100 side guid (zeros 16384) (header_crc disk512 100 side guid (zeros 16384)))) ≡ true
    → at + 8 ≤ 92 → x < 256 ^ 8 → field at 8 (header disk512 100 side guid (zeros 16384)) ≡ x
unfolding header
number side guid i at x h e b l s = ap unle (header-reads disk512 100 side guid (zeros 16384) _ i at 8 (le 8 x) h e b (length-le 8 x) l) ∙ unle-le 8 x s

pub sample3 : Sample3
unfolding ◌and◌
sample3 = (
  refl,
  refl,
  refl,
  λ guid h t f. (
    ap (field 48 8) (head-header 100 guid h t f) ∙ number primary guid 8 48 66 (omega arith) refl refl (omega arith) (omega arith),
    ap (field 32 8) (head-header 100 guid h t f) ∙ number primary guid 6 32 99 (omega arith) refl refl (omega arith) (omega arith),
    ap (field 48 8) (tail-header 100 guid h t f) ∙ number backup guid 8 48 66 (omega arith) refl refl (omega arith) (omega arith),
    ap (field 24 8) (tail-header 100 guid h t f) ∙ number backup guid 5 24 99 (omega arith) refl refl (omega arith) (omega arith),
    ap (field 72 8) (tail-header 100 guid h t f) ∙ number backup guid 10 72 67 (omega arith) refl refl (omega arith) (omega arith),
  ),
)

-- the replies to the first edits of sample 4, to all of them, and to those of sample 5 after them
abbrev replies2 : List Answer
replies2 = accepted (1 ∷ 34 ∷ []) ∷ accepted (2 ∷ 44 ∷ []) ∷ []

abbrev replies4 : List Answer
replies4 = replies2 ++ (accepted [] ∷ accepted (1 ∷ 49 ∷ []) ∷ accepted (3 ∷ 34 ∷ []) ∷ [])

abbrev replies5 : List Answer
replies5 = replies4 ++ (refused 25 ∷ accepted [] ∷ [])

answers_are : (answers_t 34 66 (zeros 16384) (take 2 edits4) ≡ replies2) × (answers_t 34 66 (zeros 16384) edits4 ≡ replies4)
    × (answers_t 34 66 (zeros 16384) edits5 ≡ replies5)
unfolding zeros put put_chunk chunks range_of unused part le unle same lowest_start room_at lowest_from all_from block_in pick_row offends ◌or◌ ◌and◌
answers_are = (refl, refl, refl)

lengths_are : (all lengths_of (take 2 edits4) ≡ true) × (all lengths_of edits4 ≡ true) × (all lengths_of edits5 ≡ true)
unfolding ◌and◌
lengths_are = (refl, refl, refl)

slots_are : (ranges_of (applied 34 66 (zeros 16384) (map edit (take 2 edits4)) replies2) ≡ spans 34 43 ∷ spans 44 48 ∷ replicate 126 no_blocks)
    × (ranges_of (applied 34 66 (zeros 16384) (map edit edits4) replies4) ≡ spans 49 59 ∷ spans 44 48 ∷ spans 34 43 ∷ replicate 125 no_blocks)
    × (ranges_of (applied 34 66 (zeros 16384) (map edit edits5) replies5) ≡ spans 49 66 ∷ spans 44 48 ∷ spans 34 43 ∷ replicate 125 no_blocks)
unfolding zeros put put_chunk chunks range_of unused part le unle same lowest_start room_at lowest_from all_from block_in ◌or◌ ◌and◌
slots_are = (refl, refl, refl)

counts_are : (taken (spans 49 59 ∷ spans 44 48 ∷ spans 34 43 ∷ replicate 125 no_blocks) 34 66 ≡ 26)
    × (free_count (spans 49 59 ∷ spans 44 48 ∷ spans 34 43 ∷ replicate 125 no_blocks) 34 66 ≡ 7)
    × (free_count (spans 49 66 ∷ spans 44 48 ∷ spans 34 43 ∷ replicate 125 no_blocks) 34 66 ≡ 0)
unfolding taken free_count count_from block_in ◌or◌ ◌and◌
counts_are = (refl, refl, refl)

pub sample4 : Sample4
sample4 = (
  λ guid h t f. let w = computed 100 (take 2 edits4) replies2 lengths_are.0 answers_are.0 guid h t f in ap (take 2) (w.table ∙ slots_are.0),
  λ guid h t f.
      let w = computed 100 edits4 replies4 lengths_are.1 answers_are.1 guid h t f in
      let s = w.table ∙ slots_are.1 in (
        w.replied,
        ap (take 3) s,
        ap (λ (x : List BlockRange). taken x 34 66) s ∙ counts_are.0,
        ap (λ (l : Ledger). l.granted) w.ledger,
        ap (λ (l : Ledger). l.back) w.ledger,
        ap (λ (x : List BlockRange). free_count x 34 66) s ∙ counts_are.1,
      ),
)

pub sample5 : Sample5
sample5 guid h t f =
    let w = computed 100 edits5 replies5 lengths_are.2 answers_are.2 guid h t f in
    (ap (drop 5) w.replied, ap (λ (x : List BlockRange). free_count x 34 66) (w.table ∙ slots_are.2) ∙ counts_are.2)
