-- What is claimed of the definitions: the statements of the theorems, proved under the same names in lower case. A reader relies on these.
use Rattle.std.specs.Prelude.{◌≡◌, ◌⊎◌, ◌≢◌, ◌↔◌, true, false, List, [], ◌∷◌, ◌++◌, map, ℕ, suc, ◌+◌, ◌-◌, ◌*◌, ◌≤◌, ◌<◌, length, get_or, set}
use Rattle.std.specs.Prelude.{None, Some}
use Rattle.std.proofs.Math.Option.{none}
use Rattle.octets.specs.Rows.{refusal}
use Rattle.octets.specs.Bytes.{le, part, put, zeros, is_zero, flat}
use Rattle.gpt_model.specs.Table.{entry_bytes, unique_of, first_of, last_of, unused, no_blocks, slot_count, table_bytes, ranges_of, good_table}
use Rattle.gpt_model.specs.Disk.{Shape, disk512, disk4096, last_usable, usable, in_range, Side, primary, backup, entries_block, lent_bytes}
use Rattle.gpt_model.specs.Disk.{header_at, entries_at, header_bytes, guid_in, good_copy, state, lent, table_of, with_table}
use Rattle.gpt_model.specs.Ranges.{block_in, in_some, FreeFrom, AlignedFrom, taken}
use Rattle.gpt_model.specs.declared.NewPartition.{NewPartition}
use Rattle.gpt_model.specs.Calls.{Edit, add, delete, resize, rename, Call, read, free_counts, repair, edit, refused, accepted, outcome}
use Rattle.gpt_model.specs.Calls.{entry_of, add_rows, change, edited, lengths_of, open_rows, rows_of, step, format}
use Rattle.gpt_model.specs.Unaligned.{add_unaligned}
use Rattle.gpt_model.specs.Sizes.{shape_of, step_by, format_by}
use Rattle.gpt_model.specs.Lists.{Ledger, size_was, book_edit, Snapshot, after_all, answers, applied, start_after, ranges_in, StartsAfresh}
use Rattle.gpt_model.specs.Stored.{unit_bytes, EntryNamed, NamesDiffer, SameUsed, EntryHolds, HeadGood, TailGood, SizesOk, ReadSays, FormatSays}
use Rattle.gpt_model.specs.Stored.{BreaksRule, Outside, EditSays, RepairSays}

-- ---- demand 3

-- an add that comes next passes its checks before the one for room
abbrev pub Passes : Shape → ℕ → Snapshot → NewPartition → Type 0
Passes g n r p = refusal (open_rows g n r.head r.tail (lengths_of (add p)) ++ add_rows (table_of g n r.head r.tail) p) ≡ none

pub record Sound (g : Shape) (n : ℕ) (r : Snapshot) : Type 0 where
  -- No usable block lies in two partitions.
  pub one : (b i j : ℕ) → g.first ≤ b → b ≤ last_usable g n → i < slot_count → j < slot_count
      → block_in b (get_or (ranges_in g n r) i no_blocks) ≡ true → block_in b (get_or (ranges_in g n r) j no_blocks) ≡ true → i ≡ j
  -- The blocks lying in partitions, counted one by one, equal all blocks granted by accepted calls less all given back.
  pub counted : taken (ranges_in g n r) g.first (last_usable g n) + r.ledger.back ≡ r.ledger.granted
  -- An add that comes next, once its earlier checks pass, is refused for room exactly when no run of as many free blocks as it asks exists, freed ones
  -- included. e4: "No room", in demand 3 too, then means that no such aligned start has enough free blocks from it on.
  pub room : (p : NewPartition) → Passes g n r p
      → ((step g n r.head r.tail (edit (add p))).answer ≡ refused 25) ↔ ((s : ℕ) → ¬ AlignedFrom g n (ranges_in g n r) p.size p.alignment s)

-- a formatting with any N in its range and any nonzero disk GUID, whatever head and tail held, on any shape whose blocks have room for a header
pub record Formats (g : Shape) (n : ℕ) (guid h t : List ℕ) : Type 0 where
  pub wide : header_bytes ≤ g.block
  pub range : in_range g n ≡ true
  pub len_guid : length guid ≡ 16
  pub nonzero : is_zero guid ≡ false
  pub len_head : length h ≡ lent_bytes g primary
  pub len_tail : length t ≡ lent_bytes g backup

-- from every start afresh
abbrev pub Demand3From : Type 0
Demand3From =
    (g : Shape) → header_bytes ≤ g.block → (n : ℕ) (es : List ℕ) (r : Snapshot) → StartsAfresh g n es r
    → (cs : List Call) → Sound g n (after_all (step g n) cs r)

-- what holds of every list of calls, refused ones included, that follows a formatting, and of what stands after it; the formatting is accepted
abbrev pub AfterLists : (List Call → Shape → ℕ → Snapshot → Type 0) → Type 0
AfterLists Holds =
    (g : Shape) (n : ℕ) (guid h t : List ℕ) → Formats g n guid h t
    → (cs : List Call) → ((format g n guid h t).answer ≡ accepted []) × Holds cs g n (after_all (step g n) cs (start_after (format g n guid h t)))

-- the same of the calls that name that block size, for a disk of that shape with N from least on and head and tail of those lengths
abbrev pub AfterListsAt : ℕ → Shape → ℕ → ℕ → ℕ → (List Call → Shape → ℕ → Snapshot → Type 0) → Type 0
AfterListsAt size g least head tail Holds =
    (n : ℕ) (guid h t : List ℕ) → least ≤ n → n ≤ 4294967296 → length guid ≡ 16 → is_zero guid ≡ false → length h ≡ head → length t ≡ tail
    → (cs : List Call)
    → ((format_by size n guid h t).answer ≡ accepted []) × Holds cs g n (after_all (step_by size n) cs (start_after (format_by size n guid h t)))

-- Q2: N .. is 68 to 4,294,967,296. Q3: the head .. (17,408 bytes), and the tail .. (16,896 bytes).
abbrev pub AfterListsAt512 : (List Call → Shape → ℕ → Snapshot → Type 0) → Type 0
AfterListsAt512 Holds = AfterListsAt 512 disk512 68 17408 16896 Holds

-- l1: the head is 6 blocks (24,576 bytes), the tail 5 (20,480); .. and N is 12 to 4,294,967,296.
abbrev pub AfterListsAt4096 : (List Call → Shape → ℕ → Snapshot → Type 0) → Type 0
AfterListsAt4096 Holds = AfterListsAt 4096 disk4096 12 24576 20480 Holds

-- D19: Demand 3 is one claim about the whole list, not one for each call.
abbrev pub Demand3 : Type 0
Demand3 = AfterLists (λ cs. Sound)

abbrev pub Demand3At512 : Type 0
Demand3At512 = AfterListsAt512 (λ cs. Sound)

abbrev pub Demand3At4096 : Type 0
Demand3At4096 = AfterListsAt4096 (λ cs. Sound)

-- D22: a resize grants or gives back the difference from it: what it grants gives nothing back, and what it gives back grants nothing
abbrev pub BooksDifference : Type 0
BooksDifference =
    (l : Ledger) (k size reply : ℕ) → let m = book_edit l (resize k size) reply in
    (size_was l k ≤ size → (m.granted + size_was l k ≡ l.granted + size) × (m.back ≡ l.back))
    × (size ≤ size_was l k → (m.granted ≡ l.granted) × (m.back + size ≡ l.back + size_was l k))

-- ---- demand 3 is not empty. P2: These imposters are shut out: refusing all calls, a constant reply or no writes, doing only the first add, made-up free
-- counts.

-- slot k can be edited: its number is one of 1 to 128, and it is used
abbrev pub UsedSlot : List ℕ → ℕ → Type 0
UsedSlot es k = (1 ≤ k) × (k ≤ slot_count) × (unused (entry_of es k) ≡ false)

-- (R12) no nonzero unit comes after a zero one
abbrev pub NameOk : List ℕ → Type 0
NameOk name = (i j : ℕ) → i < j → get_or name i 0 ≡ 0 → get_or name j 0 ≡ 0

-- (D18) with size blocks from its first on, slot k ends at the last usable block or before, and no block of it lies in another slot's range
abbrev pub FitsAlone : ℕ → List ℕ → ℕ → ℕ → Type 0
FitsAlone last es k size =
    let f = first_of (entry_of es k) in
    (f + size ≤ suc last) × ((b i : ℕ) → f ≤ b → b < f + size → i < slot_count → i ≢ k - 1 → block_in b (get_or (ranges_of es) i no_blocks) ≡ false)

-- what an add is given is right: each line denies one row, 20 to 23
pub record GivenOk (es : List ℕ) (p : NewPartition) : Type 0 where
  pub blocks : p.size ≢ 0
  pub aligned : (p.alignment ≡ 1) ⊎ (p.alignment ≡ 8) ⊎ (p.alignment ≡ 2048)
  pub typed : is_zero p.kind ≡ false
  pub own : (is_zero p.unique ≡ false) × ((k : ℕ) → UsedSlot es k → unique_of (entry_of es k) ≢ p.unique)
  pub named : NameOk p.name

-- (26) the name is empty or no used entry carries it
abbrev pub NameFree : List ℕ → List ℕ → Type 0
NameFree es name = (is_zero (unit_bytes name) ≡ true) ⊎ ((i : ℕ) → ¬ EntryNamed es i name)

-- so is what the rows after them ask: 26, no bit is set that the rule wants zero (28), and a slot is unused (24)
pub record NewOk (es : List ℕ) (p : NewPartition) : Type 0 where
  pub lengths : (length p.kind ≡ 16) × (length p.unique ≡ 16) × (length p.name ≡ 36)
  pub given : GivenOk es p
  pub single : NameFree es p.name
  pub kept : ¬ BreaksRule p.rule p.attributes
  pub slot : (k : ℕ) × (1 ≤ k) × (k ≤ slot_count) × (unused (entry_of es k) ≡ true)

-- an add is accepted when it comes next, with the table es
abbrev pub AcceptsNew : Shape → ℕ → List ℕ → Snapshot → NewPartition → Type 0
AcceptsNew g n es r p = (step g n r.head r.tail (edit (add p))).answer ≡ accepted (change g.first (last_usable g n) es (add p)).values

-- an edit that answers nothing else is accepted when it comes next
abbrev pub Accepts : Shape → ℕ → Snapshot → Edit → Type 0
Accepts g n r d = (step g n r.head r.tail (edit d)).answer ≡ accepted []

pub record Serves (g : Shape) (n : ℕ) (es : List ℕ) (r : Snapshot) : Type 0 where
  -- the disk reads as state 1, with the table es, and repair finds state 1 and changes nothing
  pub reads : state g n r.head r.tail ≡ 1
  pub table : table_of g n r.head r.tail ≡ es
  pub reading : (step g n r.head r.tail read).answer ≡ accepted (1 ∷ [])
  pub repairing : step g n r.head r.tail repair ≡ outcome (accepted (1 ∷ [])) r.head r.tail
  -- rows 10 and 11 do not hold
  pub not10 : (c : Call) → (step g n r.head r.tail c).answer ≢ refused 10
  pub not11 : (c : Call) → (step g n r.head r.tail c).answer ≢ refused 11
  -- (D12) free counts: the usable blocks that lie in no partition, and the longest run of such: one of that length stands somewhere, and no longer one does
  pub counts : (free : ℕ) × (longest : ℕ) × ((step g n r.head r.tail free_counts).answer ≡ accepted (free ∷ longest ∷ []))
      × (free + taken (ranges_in g n r) g.first (last_usable g n) ≡ usable g n)
      × ((s : ℕ) × FreeFrom g n (ranges_in g n r) longest s)
      × ((size s : ℕ) → FreeFrom g n (ranges_in g n r) size s → size ≤ longest)
  -- an add's checks before the one for room pass exactly when what it is given is right and a slot is unused
  pub passes : (p : NewPartition) → Passes g n r p ↔ NewOk es p
  -- and then it is accepted exactly when an aligned start has as many free blocks from it on as it asks
  pub fits : (p : NewPartition) → Passes g n r p → AcceptsNew g n es r p ↔ ((s : ℕ) × AlignedFrom g n (ranges_in g n r) p.size p.alignment s)
  -- at alignment 1, exactly when its size is at most the longest run, as free counts answer it
  pub fits_at_one : (p : NewPartition) → Passes g n r p → p.alignment ≡ 1 → (free longest : ℕ)
      → (step g n r.head r.tail free_counts).answer ≡ accepted (free ∷ longest ∷ []) → AcceptsNew g n es r p ↔ (p.size ≤ longest)
  -- a delete is accepted exactly when its slot is used
  pub deletes : (k : ℕ) → Accepts g n r (delete k) ↔ UsedSlot es k
  -- a rename, exactly when it has 36 units, its slot is used, no nonzero unit comes after a zero one, and the name is empty or no other used entry carries it
  pub renames : (k : ℕ) (name : List ℕ)
      → Accepts g n r (rename k name)
      ↔ ((length name ≡ 36) × UsedSlot es k × NameOk name
      × ((is_zero (unit_bytes name) ≡ true) ⊎ ((i : ℕ) → suc i ≢ k → ¬ EntryNamed es i name)))
  -- a resize, exactly when its slot is used, its size is not zero, and no block of the new range lies past N−34 or in another partition
  pub resizes : (k size : ℕ) → Accepts g n r (resize k size) ↔ (UsedSlot es k × ((0 < size) × FitsAlone (last_usable g n) es k size))

-- after every list the table is that which the accepted calls, applied in order to the table of the start, make
abbrev pub NotEmptyFrom : Type 0
NotEmptyFrom =
    (g : Shape) → header_bytes ≤ g.block → (n : ℕ) (es : List ℕ) (r : Snapshot) → in_range g n ≡ true → StartsAfresh g n es r → (cs : List Call)
    → Serves g n (applied g.first (last_usable g n) es cs (answers (step g n) cs r)) (after_all (step g n) cs r)

-- from a formatting, that which they make of the empty table
abbrev pub NotEmpty : Type 0
NotEmpty =
    (g : Shape) (n : ℕ) (guid h t : List ℕ) → Formats g n guid h t → (cs : List Call)
    → let r = start_after (format g n guid h t) in
    Serves g n (applied g.first (last_usable g n) (zeros table_bytes) cs (answers (step g n) cs r)) (after_all (step g n) cs r)

-- ---- names

-- On a disk that this library formatted, no two used entries carry the same name after any list of calls, unless it is empty: the boot loader finds each by
-- its name.
abbrev pub NamesDifferIn : Shape → ℕ → Snapshot → Type 0
NamesDifferIn g n r = NamesDiffer (table_of g n r.head r.tail)

abbrev pub OneByName : Type 0
OneByName = AfterLists (λ cs. NamesDifferIn)

abbrev pub OneByNameAt512 : Type 0
OneByNameAt512 = AfterListsAt512 (λ cs. NamesDifferIn)

abbrev pub OneByNameAt4096 : Type 0
OneByNameAt4096 = AfterListsAt4096 (λ cs. NamesDifferIn)

-- and from every start afresh with a table whose names differ
abbrev pub OneByNameFrom : Type 0
OneByNameFrom =
    (g : Shape) → header_bytes ≤ g.block → (n : ℕ) (es : List ℕ) (r : Snapshot) → StartsAfresh g n es r → NamesDiffer es
    → (cs : List Call) → NamesDifferIn g n (after_all (step g n) cs r)

-- a4: 26, after 23 and before 24 (in rename, last): exactly where no row before it holds, the name is not empty and another used entry carries it
abbrev pub TakenNameRefused : Type 0
TakenNameRefused =
    (g : Shape) (n : ℕ) (h t : List ℕ)
    → let es = table_of g n h t in
    ((p : NewPartition)
    → ((step g n h t (edit (add p))).answer ≡ refused 26)
    ↔ ((refusal (open_rows g n h t (lengths_of (add p))) ≡ none) × GivenOk es p × (is_zero (unit_bytes p.name) ≡ false)
    × ((i : ℕ) × EntryNamed es i p.name)))
    × ((k : ℕ) (name : List ℕ)
    → ((step g n h t (edit (rename k name))).answer ≡ refused 26)
    ↔ ((refusal (open_rows g n h t (lengths_of (rename k name))) ≡ none) × UsedSlot es k × NameOk name
    × (is_zero (unit_bytes name) ≡ false) × ((i : ℕ) × (suc i ≢ k) × EntryNamed es i name)))

-- Whatever bytes another tool writes into entry i alone, `width` of them from its byte `at` on, in both copies and with right CRCs, the disk still reads as
-- state 1, with that table, and each entry has the blocks that it had.
abbrev pub AnyBytesRead : ℕ → ℕ → Type 0
AnyBytesRead at width =
    (g : Shape) (n : ℕ) (h t : List ℕ) (i : ℕ) (bytes : List ℕ) → header_bytes ≤ g.block → i < slot_count → length bytes ≡ width
    → (step g n h t read).answer ≡ accepted (1 ∷ [])
    → let es = put (i * entry_bytes + at) bytes (table_of g n h t) in
    let h' = with_table g n primary (guid_in g primary h) es h in
    let t' = with_table g n backup (guid_in g backup t) es t in
    ((step g n h' t' read).answer ≡ accepted (1 ∷ [])) × (table_of g n h' t' ≡ es) × (ranges_of es ≡ ranges_of (table_of g n h t))

-- a3: Disks that already hold doubles still read, whatever an entry has as name
abbrev pub AnyNameReads : Type 0
AnyNameReads = AnyBytesRead 56 72

-- ---- demand 1. R1: A refusal returns its number alone .. and changes no lent byte.

abbrev pub RefusedStays : Type 0
RefusedStays =
    (g : Shape) (n k : ℕ) (guid h t : List ℕ) (c : Call)
    → ((step g n h t c).answer ≡ refused k → step g n h t c ≡ outcome (refused k) h t)
    × ((format g n guid h t).answer ≡ refused k → format g n guid h t ≡ outcome (refused k) h t)

-- ---- demand 2: What is written reads back as the same table

abbrev pub EditReadsBack : Type 0
EditReadsBack =
    (g : Shape) (n : ℕ) (h t : List ℕ) (d : Edit) → header_bytes ≤ g.block → refusal (rows_of g n h t (edit d)) ≡ none
    → let o = step g n h t (edit d) in
    (state g n o.head o.tail ≡ 1) × (table_of g n o.head o.tail ≡ edited g.first (last_usable g n) (table_of g n h t) d)

-- from every state that can be read: 1, 2, 3, 4
abbrev pub RepairReadsBack : Type 0
RepairReadsBack =
    (g : Shape) (n : ℕ) (h t : List ℕ) → header_bytes ≤ g.block → refusal (rows_of g n h t repair) ≡ none
    → let o = step g n h t repair in
    (o.answer ≡ accepted (state g n h t ∷ [])) × (state g n o.head o.tail ≡ 1) × (table_of g n o.head o.tail ≡ table_of g n h t)

-- D23: Each edit changes that entry and the two CRCs, in both copies, and no other byte.
abbrev pub EditTouches : Type 0
EditTouches =
    (g : Shape) (n : ℕ) (h t : List ℕ) (d : Edit) → header_bytes ≤ g.block → refusal (rows_of g n h t (edit d)) ≡ none
    → let o = step g n h t (edit d) in
    (side : Side) → (length (lent side o.head o.tail) ≡ length (lent side h t))
    × ((k : ℕ) → Outside (entries_at g side + (change g.first (last_usable g n) (table_of g n h t) d).index * entry_bytes) entry_bytes k
    → Outside (header_at g side + 16) 4 k → Outside (header_at g side + 88) 4 k
    → get_or (lent side o.head o.tail) k 0 ≡ get_or (lent side h t) k 0)

-- (D18) a resize to the present size is accepted and changes no byte, where the head's list holds bytes, the copies are both good and the same and the
-- slot is used
abbrev pub ResizeToSame : Type 0
ResizeToSame =
    (g : Shape) (n : ℕ) (h t : List ℕ) (k : ℕ) → header_bytes ≤ g.block → ((i : ℕ) → get_or h i 0 < 256) → refusal (rows_of g n h t (edit (delete k))) ≡ none
    → let e = entry_of (table_of g n h t) k in
    step g n h t (edit (resize k (suc (last_of e) - first_of e))) ≡ outcome (accepted []) h t

-- ---- the alignment of an add

-- With alignment 1 every answer and every byte is that of an add that takes no alignment.
abbrev pub AlignmentOne : Type 0
AlignmentOne = (g : Shape) (n : ℕ) (h t : List ℕ) (p : NewPartition) → p.alignment ≡ 1 → step g n h t (edit (add p)) ≡ add_unaligned g n h t p

-- e5: 27 for any other alignment, after 20: exactly where no row before 20 holds, nor 20, and whatever comes after
abbrev pub OtherAlignmentRefused : Type 0
OtherAlignmentRefused =
    (g : Shape) (n : ℕ) (h t : List ℕ) (p : NewPartition)
    → ((step g n h t (edit (add p))).answer ≡ refused 27)
    ↔ ((refusal (open_rows g n h t (lengths_of (add p))) ≡ none) × (p.size ≢ 0) × (p.alignment ≢ 1) × (p.alignment ≢ 8) × (p.alignment ≢ 2048))

-- ---- stale bytes: what an unused entry holds behind its type GUID

-- f1: By UEFI a zero type GUID alone marks an unused entry. Where another tool deletes by clearing the type GUID of entry i alone, in both copies and with
-- right CRCs, the disk still reads as state 1, and entry i alone gives up its blocks.
abbrev pub ClearedReads : Type 0
ClearedReads =
    (g : Shape) (n : ℕ) (h t : List ℕ) (i : ℕ) → header_bytes ≤ g.block → i < slot_count → (step g n h t read).answer ≡ accepted (1 ∷ [])
    → let es = put (i * entry_bytes) (zeros 16) (table_of g n h t) in
    let h' = with_table g n primary (guid_in g primary h) es h in
    let t' = with_table g n backup (guid_in g backup t) es t in
    ((step g n h' t' read).answer ≡ accepted (1 ∷ [])) × (table_of g n h' t' ≡ es) × (ranges_of es ≡ set (ranges_of (table_of g n h t)) i no_blocks)

-- f2: the entry rules ignore the other bytes: a table is good or not by its used entries alone
abbrev pub GoodByUsed : Type 0
GoodByUsed = (first last : ℕ) (es es' : List ℕ) → SameUsed es es' → good_table first last es ≡ good_table first last es'

-- and what every call answers on two disks that read as the same state goes by them alone: refusals, slot and first block of an add, free counts, the slot
-- that the check finds
abbrev pub AnswersByUsed : Type 0
AnswersByUsed =
    (g : Shape) (n : ℕ) (h t h' t' : List ℕ) (s : ℕ) → (step g n h t read).answer ≡ accepted (s ∷ []) → (step g n h' t' read).answer ≡ accepted (s ∷ [])
    → SameUsed (table_of g n h t) (table_of g n h' t') → (c : Call) → (step g n h t c).answer ≡ (step g n h' t' c).answer

-- f4: adding overwrites all of them: the entry's 128 bytes are what the add was given and its first and last block, one behind the other
abbrev pub AddOverwrites : Type 0
AddOverwrites =
    (g : Shape) (n : ℕ) (h t : List ℕ) (p : NewPartition) (i s : ℕ) → header_bytes ≤ g.block
    → let o = step g n h t (edit (add p)) in
    o.answer ≡ accepted (suc i ∷ s ∷ [])
    → part (i * entry_bytes) entry_bytes (table_of g n o.head o.tail)
    ≡ p.kind ++ p.unique ++ le 8 s ++ le 8 (s + p.size - 1) ++ le 8 p.attributes ++ flat (map (le 2) p.name)

-- ---- the definitions go by what Stored says in bytes

-- a block lies in a partition of the table es, by the definitions, exactly when the bytes say so
abbrev pub InSomeByBytes : Type 0
InSomeByBytes = (es : List ℕ) (b : ℕ) → (in_some (ranges_of es) b ≡ true) ↔ ((i : ℕ) × (i < slot_count) × EntryHolds es i b)

-- D8: A copy is good when every named header field, both CRCs and all entry rules hold.
abbrev pub GoodByBytes : Type 0
GoodByBytes =
    (g : Shape) (n : ℕ) (h t : List ℕ) → SizesOk g n h t
    → ((good_copy g n primary h ≡ true) ↔ HeadGood g n h) × ((good_copy g n backup t ≡ true) ↔ TailGood g n t)

abbrev pub ReadByBytes : Type 0
ReadByBytes = (g : Shape) (n : ℕ) (h t : List ℕ) → SizesOk g n h t → ReadSays g n h t (step g n h t read).answer (table_of g n h t)

-- P2: formatting is accepted for every legal N and nonzero GUID. It is refused for every other
abbrev pub FormatWrites : Type 0
FormatWrites =
    (g : Shape) (n : ℕ) (guid h t : List ℕ) → 512 ≤ g.block
    → let o = format g n guid h t in
    ((o.answer ≡ accepted []) ↔ (SizesOk g n h t × (length guid ≡ 16) × (is_zero guid ≡ false)))
    × (o.answer ≡ accepted [] → FormatSays g n guid o.head o.tail)

abbrev pub EditWrites : Type 0
EditWrites =
    (g : Shape) (n : ℕ) (h t : List ℕ) (d : Edit) → header_bytes ≤ g.block → refusal (rows_of g n h t (edit d)) ≡ none
    → let o = step g n h t (edit d) in EditSays g n d o.answer (table_of g n h t) (table_of g n o.head o.tail)

-- R3: Accepted, .. repair [answers] the state found, as reading does
abbrev pub RepairWrites : Type 0
RepairWrites =
    (g : Shape) (n : ℕ) (h t : List ℕ) → SizesOk g n h t
    → let o = step g n h t repair in (o.answer ≡ (step g n h t read).answer) × RepairSays g n h t o

-- ---- the two block sizes. Every claim above is over every shape; a call that names a block size is the call on a disk of its shape

-- 512 and 4,096 have a shape, and no other number
abbrev pub ShapesBySize : Type 0
ShapesBySize = (shape_of 512 ≡ Some disk512) × (shape_of 4096 ≡ Some disk4096) × ((size : ℕ) → size ≢ 512 → size ≢ 4096 → shape_of size ≡ None)

abbrev pub OnItsShape : Type 0
OnItsShape =
    (size n : ℕ) (h t : List ℕ) (g : Shape) → shape_of size ≡ Some g
    → ((c : Call) → step_by size n h t c ≡ step g n h t c) × ((guid : List ℕ) → format_by size n guid h t ≡ format g n guid h t)

-- l7: 6 for another block size, before all others: whatever the call, its lengths and N
abbrev pub OtherSizeRefused : Type 0
OtherSizeRefused =
    (size n : ℕ) (h t : List ℕ) → size ≢ 512 → size ≢ 4096
    → ((c : Call) → step_by size n h t c ≡ outcome (refused 6) h t) × ((guid : List ℕ) → format_by size n guid h t ≡ outcome (refused 6) h t)

-- head and tail are whole blocks: all before the first usable block, and one less
abbrev pub WholeBlocks : Type 0
WholeBlocks =
    (size : ℕ) (g : Shape) → shape_of size ≡ Some g
    → (size ≡ g.block) × (lent_bytes g primary ≡ g.first * g.block) × (lent_bytes g backup ≡ (g.first - 1) * g.block)

-- The numbers of a disk of 512-byte blocks. Q2: N .. is 68 to 4,294,967,296. Q3: the head .. (17,408 bytes), and the tail .. (16,896 bytes).
-- D1: first usable 34, last usable N−34. D2: entries from N−33. So N−67 blocks are usable.
pub record Numbers512 : Type 0 where
  pub head : lent_bytes disk512 primary ≡ 17408
  pub tail : lent_bytes disk512 backup ≡ 16896
  pub range : (n : ℕ) → (in_range disk512 n ≡ true) ↔ ((68 ≤ n) × (n ≤ 4294967296))
  pub first : disk512.first ≡ 34
  pub blocks : (n : ℕ) → 68 ≤ n → (last_usable disk512 n ≡ n - 34) × (entries_block disk512 backup n ≡ n - 33) × (usable disk512 n ≡ n - 67)

-- l1: In the next delivery the head is 6 blocks (24,576 bytes), the tail 5 (20,480); usable blocks run from 6 to N−6, backup entries start at N−5,
-- and N is 12 to 4,294,967,296. So N−11 blocks are usable.
pub record Numbers4096 : Type 0 where
  pub head : lent_bytes disk4096 primary ≡ 24576
  pub tail : lent_bytes disk4096 backup ≡ 20480
  pub range : (n : ℕ) → (in_range disk4096 n ≡ true) ↔ ((12 ≤ n) × (n ≤ 4294967296))
  pub first : disk4096.first ≡ 6
  pub blocks : (n : ℕ) → 12 ≤ n → (last_usable disk4096 n ≡ n - 6) × (entries_block disk4096 backup n ≡ n - 5) × (usable disk4096 n ≡ n - 11)
