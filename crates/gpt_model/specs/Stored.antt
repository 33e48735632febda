-- What stands in head and tail, byte by byte, and what reading, formatting, edits and repair say in bytes; Claims holds the definitions to it.
-- The rules are said here a second time, in byte positions: no field, entry or byte position is taken from Table, Disk or Calls.
use Rattle.std.specs.Prelude.{◌≡◌, ◌⊎◌, ◌≢◌, ◌↔◌, true, false, List, [], ◌∷◌, map, ℕ, suc, ◌+◌, ◌-◌, ◌*◌, ◌^◌, ◌≤◌, ◌<◌, length, get_or}
use Rattle.octets.specs.Ascii.{ascii}
use Rattle.octets.specs.Bytes.{le, unle, part, put, zeros, is_zero, flat}
use Rattle.crc_lanes.specs.Crc.{crc32}
use Rattle.gpt_model.specs.Table.{ranges_of}
use Rattle.gpt_model.specs.Disk.{Shape}
use Rattle.gpt_model.specs.Ranges.{AlignedFrom}
use Rattle.gpt_model.specs.declared.NewPartition.{NewPartition}
use Rattle.gpt_model.specs.declared.Rule.{Rule}
use Rattle.gpt_model.specs.declared.Rule.TheVariants.{Present, Earlier}
use Rattle.gpt_model.specs.Calls.{Edit, add, delete, resize, rename, Answer, refused, accepted, Outcome}

-- ---- a table: 128 entries of 128 bytes, counted from 0

-- D5: type GUID 0, unique GUID 16, first block 32, last block (inclusive) 40
abbrev pub entry_type : List ℕ → ℕ → List ℕ
entry_type es i = part (i * 128) 16 es

abbrev pub entry_unique : List ℕ → ℕ → List ℕ
entry_unique es i = part (i * 128 + 16) 16 es

abbrev pub entry_first : List ℕ → ℕ → ℕ
entry_first es i = unle (part (i * 128 + 32) 8 es)

abbrev pub entry_last : List ℕ → ℕ → ℕ
entry_last es i = unle (part (i * 128 + 40) 8 es)

-- D5: attributes 48
abbrev pub entry_attributes : List ℕ → ℕ → ℕ
entry_attributes es i = unle (part (i * 128 + 48) 8 es)

-- D5: name 56 as 36 16-bit units
abbrev pub entry_name_bytes : List ℕ → ℕ → List ℕ
entry_name_bytes es i = part (i * 128 + 56) 72 es

-- D6: An entry is unused when its type GUID is zero; a used entry is one that is not unused.
abbrev pub EntryUsed : List ℕ → ℕ → Type 0
EntryUsed es i = is_zero (entry_type es i) ≡ false

-- the two tables have the same used entries: each entry is used in neither, or has the same bytes in both
abbrev pub SameUsed : List ℕ → List ℕ → Type 0
SameUsed es es' = (i : ℕ) → i < 128 → ((¬ EntryUsed es i) × (¬ EntryUsed es' i)) ⊎ (part (i * 128) 128 es ≡ part (i * 128) 128 es')

-- the bytes of a name that is given as units
abbrev pub unit_bytes : List ℕ → List ℕ
unit_bytes units = flat (map (le 2) units)

-- a1: a name already carried by another used slot, comparing all 72 bytes. Entry i is used and carries the name
abbrev pub EntryNamed : List ℕ → ℕ → List ℕ → Type 0
EntryNamed es i units = (i < 128) × EntryUsed es i × (entry_name_bytes es i ≡ unit_bytes units)

-- no two used entries carry the same name. a2: An empty name may repeat.
abbrev pub NamesDiffer : List ℕ → Type 0
NamesDiffer es =
    (i j : ℕ) → i < 128 → j < 128 → i ≢ j → EntryUsed es i → EntryUsed es j → entry_name_bytes es i ≡ entry_name_bytes es j
    → is_zero (entry_name_bytes es i) ≡ true

-- k1: Some firmware wants attribute bits 1 to 47 zero; today only 3 to 47 are. The rule wants bit b zero
abbrev pub WantsZero : Rule → ℕ → Type 0
WantsZero Present b = (3 ≤ b) × (b ≤ 47)
WantsZero Earlier b = (1 ≤ b) × (b ≤ 47)

-- bit b of the number x is set: x is an odd multiple of 2 ^ b, and a rest that is less
abbrev pub BitSet : ℕ → ℕ → Type 0
BitSet b x = (q : ℕ) × (r : ℕ) × (x ≡ (2 * q + 1) * 2 ^ b + r) × (r < 2 ^ b)

-- some bit that the rule wants zero is set
abbrev pub BreaksRule : Rule → ℕ → Type 0
BreaksRule rule x = (b : ℕ) × WantsZero rule b × BitSet b x

abbrev pub EntryOffends : Rule → List ℕ → ℕ → Type 0
EntryOffends rule es i = (i < 128) × EntryUsed es i × BreaksRule rule (entry_attributes es i)

abbrev pub NoneOffends : Rule → List ℕ → Type 0
NoneOffends rule es = (i : ℕ) → ¬ EntryOffends rule es i

-- D21: A block lies in a partition when it is one of first to last of a used entry
abbrev pub EntryHolds : List ℕ → ℕ → ℕ → Type 0
EntryHolds es i b = EntryUsed es i × (entry_first es i ≤ b) × (b ≤ entry_last es i)

pub record TableRules (first last : ℕ) (es : List ℕ) : Type 0 where
  -- D7: A used entry has a nonzero unique GUID
  pub unique : (i : ℕ) → i < 128 → EntryUsed es i → is_zero (entry_unique es i) ≡ false
  -- and 34 ≤ first ≤ last ≤ N−34
  pub range : (i : ℕ) → i < 128 → EntryUsed es i → (first ≤ entry_first es i) × (entry_first es i ≤ entry_last es i) × (entry_last es i ≤ last)
  -- unique GUIDs differ
  pub differ : (i j : ℕ) → i < 128 → j < 128 → i ≢ j → EntryUsed es i → EntryUsed es j → entry_unique es i ≢ entry_unique es j
  -- ranges share no block
  pub apart : (i j b : ℕ) → i < 128 → j < 128 → i ≢ j → EntryHolds es i b → ¬ EntryHolds es j b

-- ---- a header: the 92 bytes x, with the table es

-- D1: Header fields at byte .. All stored numbers are little-endian (Q6).
pub record HeaderSays (own other first last table : ℕ) (es x : List ℕ) : Type 0 where
  pub signature : part 0 8 x ≡ ascii "EFI PART"
  pub revision : part 8 4 x ≡ 0 ∷ 0 ∷ 1 ∷ 0 ∷ []
  pub header_size : part 12 4 x ≡ le 4 92
  -- D4: The header CRC covers 92 bytes with its own field as zero.
  pub header_crc : part 16 4 x ≡ le 4 (crc32 (put 16 (zeros 4) x))
  pub reserved : part 20 4 x ≡ zeros 4
  pub own_block : part 24 8 x ≡ le 8 own
  pub other_block : part 32 8 x ≡ le 8 other
  pub first_usable : part 40 8 x ≡ le 8 first
  pub last_usable : part 48 8 x ≡ le 8 last
  pub entries_block : part 72 8 x ≡ le 8 table
  pub entry_count : part 80 4 x ≡ le 4 128
  pub entry_size : part 84 4 x ≡ le 4 128
  -- 88 CRC of all 16,384 entry bytes
  pub entries_crc : part 88 4 x ≡ le 4 (crc32 es)

-- ---- head and tail. At 512-byte blocks the first usable block is 34: the head's header stands at byte 512, its entries at 1,024. At 4,096-byte blocks
-- these are 6, 4,096 and 8,192

-- the head: block 0, the header's block, the entries. D2: The primary header is block 1 with entries from 2
abbrev pub HeadGood : Shape → ℕ → List ℕ → Type 0
HeadGood g n h =
    let es = part (2 * g.block) 16384 h in
    HeaderSays 1 (n - 1) g.first (n - g.first) 2 es (part g.block 92 h) × TableRules g.first (n - g.first) es

-- the tail: the entries, the header's block. D2: the backup header is block N−1 with entries from N−33
abbrev pub TailGood : Shape → ℕ → List ℕ → Type 0
TailGood g n t =
    let es = part 0 16384 t in
    HeaderSays (n - 1) 1 g.first (n - g.first) (suc (n - g.first)) es (part 16384 92 t) × TableRules g.first (n - g.first) es

-- D10: equal disk GUID and entries
abbrev pub Alike : Shape → List ℕ → List ℕ → Type 0
Alike g h t = (part (g.block + 56) 16 h ≡ part (16384 + 56) 16 t) × (part (2 * g.block) 16384 h ≡ part 0 16384 t)

-- head and tail have their lengths, and N is in its range
pub record SizesOk (g : Shape) (n : ℕ) (h t : List ℕ) : Type 0 where
  pub wide : 92 ≤ g.block
  pub head : length h ≡ 2 * g.block + 16384
  pub tail : length t ≡ 16384 + g.block
  pub low : 2 * g.first ≤ n
  pub high : n ≤ 4294967296

-- ---- what reading answers

-- D10: Reading answers: 1 both good with equal disk GUID and entries, 2 both good but different (primary used), 3 primary only, 4 backup only. R7: 10: neither
pub record ReadSays (g : Shape) (n : ℕ) (h t : List ℕ) (a : Answer) (es : List ℕ) : Type 0 where
  pub one : (a ≡ accepted (1 ∷ [])) ↔ (HeadGood g n h × TailGood g n t × Alike g h t)
  pub two : (a ≡ accepted (2 ∷ [])) ↔ (HeadGood g n h × TailGood g n t × (¬ Alike g h t))
  pub three : (a ≡ accepted (3 ∷ [])) ↔ (HeadGood g n h × (¬ TailGood g n t))
  pub four : (a ≡ accepted (4 ∷ [])) ↔ ((¬ HeadGood g n h) × TailGood g n t)
  pub neither : (a ≡ refused 10) ↔ ((¬ HeadGood g n h) × (¬ TailGood g n t))
  -- D11: the 16,384 entry bytes inside whichever of the two lent buffers was used
  pub in_head : a ≢ accepted (4 ∷ []) → es ≡ part (2 * g.block) 16384 h
  pub in_tail : a ≡ accepted (4 ∷ []) → es ≡ part 0 16384 t

-- ---- what the check answers

-- by what reading answers, a, and the table es that it uses
pub record CheckSays (rule : Rule) (h t es : List ℕ) (a : Answer) (o : Outcome) : Type 0 where
  -- no byte changes
  pub stays : (o.head ≡ h) × (o.tail ≡ t)
  -- k6: the check has 1, 2, 10: it is refused exactly where reading is, with the same number
  pub refuses : (k : ℕ) → (o.answer ≡ refused k) ↔ (a ≡ refused k)
  -- k3: the check answers the first used slot that offends, or 0. Slot i + 1 is entry i
  pub finds : (i : ℕ) → (o.answer ≡ accepted (suc i ∷ []))
      ↔ (((s : ℕ) × (a ≡ accepted (s ∷ []))) × EntryOffends rule es i × ((j : ℕ) → j < i → ¬ EntryOffends rule es j))
  pub passes : (o.answer ≡ accepted (0 ∷ [])) ↔ (((s : ℕ) × (a ≡ accepted (s ∷ []))) × NoneOffends rule es)

-- ---- what formatting writes

pub record FormatSays (g : Shape) (n : ℕ) (guid h t : List ℕ) : Type 0 where
  -- D13: Formatting writes both copies with no entries
  pub head : HeadGood g n h
  pub tail : TailGood g n t
  pub guids : (part (g.block + 56) 16 h ≡ guid) × (part (16384 + 56) 16 t ≡ guid)
  pub entries : (part (2 * g.block) 16384 h ≡ zeros 16384) × (part 0 16384 t ≡ zeros 16384)
  -- D14: All header tails are zero.
  pub tails : (part (g.block + 92) (g.block - 92) h ≡ zeros (g.block - 92)) × (part (16384 + 92) (g.block - 92) t ≡ zeros (g.block - 92))
  -- D13: and block 0: zeros, except at 446 the record 00, 00 02 00, EE, FF FF FF, 1, N−1 (last two 32-bit), and 55 AA at 510.
  pub block0 : part 0 446 h ≡ zeros 446
  pub at446 : part 446 8 h ≡ 0 ∷ 0 ∷ 2 ∷ 0 ∷ 0xEE ∷ 0xFF ∷ 0xFF ∷ 0xFF ∷ []
  pub at454 : part 454 4 h ≡ le 4 1
  pub at458 : part 458 4 h ≡ le 4 (n - 1)
  pub at462 : part 462 48 h ≡ zeros 48
  pub at510 : part 510 2 h ≡ 0x55 ∷ 0xAA ∷ []
  -- l2: and zero after
  pub at512 : part 512 (g.block - 512) h ≡ zeros (g.block - 512)

-- ---- what an edit writes into the table

-- D5: name 56 as 36 16-bit units
abbrev pub EntryName : List ℕ → ℕ → List ℕ → Type 0
EntryName es i name = (u : ℕ) → u < 36 → part (i * 128 + 56 + 2 * u) 2 es ≡ le 2 (get_or name u 0)

-- byte k is none of the w bytes from at on
abbrev pub Outside : ℕ → ℕ → ℕ → Type 0
Outside at w k = (k < at) ⊎ (at + w ≤ k)

-- every byte but the w bytes from at on is as it was
abbrev pub StaysBut : ℕ → ℕ → List ℕ → List ℕ → Type 0
StaysBut at w es es' = (k : ℕ) → Outside at w k → get_or es' k 0 ≡ get_or es k 0

-- what an add of p writes into entry i, at start s
pub record AddSays (g : Shape) (n : ℕ) (p : NewPartition) (es es' : List ℕ) (i s : ℕ) : Type 0 where
  -- D15: and takes the lowest unused slot
  pub slot : (i < 128) × (¬ EntryUsed es i) × ((j : ℕ) → j < i → EntryUsed es j)
  -- and the lowest start with enough free blocks. e1: the lowest multiple of it with room enough
  pub start : AlignedFrom g n (ranges_of es) p.size p.alignment s
      × ((b : ℕ) → b < s → ¬ AlignedFrom g n (ranges_of es) p.size p.alignment b)
  -- D15: Add is given type, unique GUID (16 stored bytes each), size in blocks, attributes and name (36 units)
  pub type_guid : entry_type es' i ≡ p.kind
  pub unique_guid : entry_unique es' i ≡ p.unique
  pub first : part (i * 128 + 32) 8 es' ≡ le 8 s
  pub last : part (i * 128 + 40) 8 es' ≡ le 8 (s + p.size - 1)
  pub bits : part (i * 128 + 48) 8 es' ≡ le 8 p.attributes
  pub units : EntryName es' i p.name
  pub others : StaysBut (i * 128) 128 es es'

-- the answer a of an edit, the table es before it and es' after it
abbrev pub EditSays : Shape → ℕ → Edit → Answer → List ℕ → List ℕ → Type 0
-- R3: Accepted, add answers slot and first block
EditSays g n (add p) a es es' = (i : ℕ) × (s : ℕ) × (a ≡ accepted (suc i ∷ s ∷ [])) × AddSays g n p es es' i s
-- D16: Delete zeroes the slot.
EditSays g n (delete k) a es es' = (a ≡ accepted []) × (part ((k - 1) * 128) 128 es' ≡ zeros 128) × StaysBut ((k - 1) * 128) 128 es es'
-- D18: Resize sets the last block alone, to the size asked
EditSays g n (resize k size) a es es' =
    (a ≡ accepted []) × (part ((k - 1) * 128 + 40) 8 es' ≡ le 8 (entry_first es (k - 1) + size - 1)) × StaysBut ((k - 1) * 128 + 40) 8 es es'
-- D17: Rename sets the entry's 72 name bytes alone, to 36 given units.
EditSays g n (rename k name) a es es' = (a ≡ accepted []) × EntryName es' (k - 1) name × StaysBut ((k - 1) * 128 + 56) 72 es es'

-- ---- what repair writes

-- D24: Repair in state 1 changes nothing; otherwise it writes the other copy's 33 blocks from the good one (state 2: from the primary), header tail zero.
pub record RepairSays (g : Shape) (n : ℕ) (h t : List ℕ) (o : Outcome) : Type 0 where
  pub one : o.answer ≡ accepted (1 ∷ []) → (o.head ≡ h) × (o.tail ≡ t)
  pub primary_used : (s : ℕ) → o.answer ≡ accepted (s ∷ []) → s ≢ 1 → s ≢ 4
      → (o.head ≡ h) × TailGood g n o.tail × Alike g h o.tail × (part (16384 + 92) (g.block - 92) o.tail ≡ zeros (g.block - 92))
  pub backup_used : o.answer ≡ accepted (4 ∷ [])
      → (o.tail ≡ t) × HeadGood g n o.head × Alike g o.head t × (part (g.block + 92) (g.block - 92) o.head ≡ zeros (g.block - 92))
      × (part 0 g.block o.head ≡ part 0 g.block h)
