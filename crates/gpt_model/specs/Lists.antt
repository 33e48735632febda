-- Lists of calls: the ledger of blocks granted and given back, and what stands after a list. Definitions only.
use Rattle.std.specs.Prelude.{◌≡◌, List, [], ◌∷◌, map, ℕ, ◌+◌, ◌-◌, length, get_or, set, replicate}
use Rattle.gpt_model.specs.Table.{BlockRange, range_size, slot_count, ranges_of}
use Rattle.gpt_model.specs.Disk.{Shape, primary, backup, lent_bytes, state, table_of}
use Rattle.gpt_model.specs.Calls.{Edit, add, delete, resize, rename, Call, read, free_counts, repair, check, edit, Answer, refused, accepted, Outcome}
use Rattle.gpt_model.specs.Calls.{edited}

-- ---- D22: The sums come from calls and replies alone

pub record Ledger : Type 0 where
  pub granted : ℕ
  pub back : ℕ
  -- for each slot the size last accepted
  pub sizes : List ℕ

abbrev pub size_was : Ledger → ℕ → ℕ
size_was l k = get_or l.sizes (k - 1) 0

-- D22: an accepted add grants the size asked, a delete gives back the size last accepted for that slot, a resize grants or gives back the difference
-- from it (of two truncated differences one is 0); rename [does] neither. k is the first value of the reply: an add's slot.
abbrev pub book_edit : Ledger → Edit → ℕ → Ledger
book_edit l (add p) k = record { granted = l.granted + p.size; back = l.back; sizes = set l.sizes (k - 1) p.size }
book_edit l (delete k) _ = record { granted = l.granted; back = l.back + size_was l k; sizes = set l.sizes (k - 1) 0 }
book_edit l (resize k size) _ =
    record { granted = l.granted + (size - size_was l k); back = l.back + (size_was l k - size); sizes = set l.sizes (k - 1) size }
book_edit l (rename k name) _ = l

-- D22: repair and refused calls do neither
abbrev pub book : Ledger → Call → Answer → Ledger
book l read a = l
book l free_counts a = l
book l repair a = l
book l (check rule) a = l
book l (edit d) (refused k) = l
book l (edit d) (accepted values) = book_edit l d (get_or values 0 0)

-- ---- a list of calls: each gets the head and tail that the one before it left

-- head, tail and ledger between two calls
pub record Snapshot : Type 0 where
  pub head : List ℕ
  pub tail : List ℕ
  pub ledger : Ledger

-- `does` says what a call does to head and tail: `step` of a shape and N, or `step_by` of a block size and N
module _ (does : List ℕ → List ℕ → Call → Outcome) where
  abbrev pub after_one : Call → Snapshot → Snapshot
  after_one c r = let o = does r.head r.tail c in record { head = o.head; tail = o.tail; ledger = book r.ledger c o.answer }

  abbrev pub after_all : List Call → Snapshot → Snapshot
  after_all [] r = r
  after_all (c ∷ cs) r = after_all cs (after_one c r)

  abbrev pub answers : List Call → Snapshot → List Answer
  answers [] r = []
  answers (c ∷ cs) r = (does r.head r.tail c).answer ∷ answers cs (after_one c r)

-- the table es after the call c was answered a: an accepted edit writes its one entry
abbrev pub table_next : ℕ → ℕ → List ℕ → Call → Answer → List ℕ
table_next first last es read a = es
table_next first last es free_counts a = es
table_next first last es repair a = es
table_next first last es (check rule) a = es
table_next first last es (edit d) (refused k) = es
table_next first last es (edit d) (accepted values) = edited first last es d

-- the accepted calls, applied in order
abbrev pub applied : ℕ → ℕ → List ℕ → List Call → List Answer → List ℕ
applied first last es [] replies = es
applied first last es (c ∷ cs) [] = es
applied first last es (c ∷ cs) (a ∷ replies) = applied first last (table_next first last es c a) cs replies

-- D20: The list follows an accepted formatting. Nothing is granted yet
abbrev pub start_after : Outcome → Snapshot
start_after o = record { head = o.head; tail = o.tail; ledger = record { granted = 0; back = 0; sizes = replicate slot_count 0 } }

-- what the entries that reading uses take
abbrev pub ranges_in : Shape → ℕ → Snapshot → List BlockRange
ranges_in g n r = ranges_of (table_of g n r.head r.tail)

abbrev pub total : List ℕ → ℕ
total [] = 0
total (k ∷ ks) = k + total ks

-- the list starts afresh with the table es, its partitions granted, each to its slot in its size; formatting is the case of no entries
pub record StartsAfresh (g : Shape) (n : ℕ) (es : List ℕ) (r : Snapshot) : Type 0 where
  pub len_head : length r.head ≡ lent_bytes g primary
  pub len_tail : length r.tail ≡ lent_bytes g backup
  pub reads : state g n r.head r.tail ≡ 1
  pub table : table_of g n r.head r.tail ≡ es
  pub sizes : r.ledger.sizes ≡ map range_size (ranges_of es)
  pub granted : r.ledger.granted ≡ total (map range_size (ranges_of es))
  pub back : r.ledger.back ≡ 0
