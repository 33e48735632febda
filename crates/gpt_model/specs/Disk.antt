-- A disk: its shape, the two copies of header and table in head and tail, what reading finds, what a write leaves. Definitions only.
use Rattle.std.specs.Prelude.{Bool, true, false, cond, List, [], ◌∷◌, ◌++◌, ℕ, suc, ◌+◌, ◌-◌, ◌*◌, leb, eqb}
use Rattle.octets.specs.Tests.{◌and◌}
use Rattle.octets.specs.Bytes.{le, part, put, zeros, same}
use Rattle.crc_lanes.specs.Crc.{crc32}
use Rattle.gpt_model.specs.declared.Shape as declared
use Rattle.gpt_model.specs.Table.{write_all, entry_bytes, slot_count, table_bytes, good_table}

-- ---- quantities

-- the bytes of a block, and the first usable block (src/lib.rt); all definitions and theorems are over these two
abbrev pub Shape : Type 0
Shape = declared.Shape

-- Q1: A disk has 512-byte blocks. D1: first usable 34
abbrev pub disk512 : Shape
disk512 = record { block = 512; first = 34 }

-- l1: usable blocks run from 6 to N−6. The numbers of the two shapes stand nowhere else.
abbrev pub disk4096 : Shape
disk4096 = record { block = 4096; first = 6 }

-- D1: last usable N−34. l1: usable blocks run from 6 to N−6
abbrev pub last_usable : Shape → ℕ → ℕ
last_usable g n = n - g.first

-- how many blocks are usable: those from the first to the last
abbrev pub usable : Shape → ℕ → ℕ
usable g n = suc (last_usable g n) - g.first

-- Q2: N, its block count, is 68 to 4,294,967,296. l1: N is 12 to 4,294,967,296
abbrev pub most_blocks : ℕ
most_blocks = 4294967296

abbrev pub in_range : Shape → ℕ → Bool
in_range g n = leb (2 * g.first) n and leb n most_blocks

-- D2: The primary header is block 1 with entries from 2; the backup header is block N−1 with entries from N−33.
pub data Side : Type 0 where
  primary backup : Side

abbrev pub other : Side → Side
other primary = backup
other backup = primary

abbrev pub header_block : Side → ℕ → ℕ
header_block primary n = 1
header_block backup n = n - 1

-- the backup's entries begin behind the last usable block
abbrev pub entries_block : Shape → Side → ℕ → ℕ
entries_block g primary n = 2
entries_block g backup n = suc (last_usable g n)

-- Q3: Callers lend the head, blocks 0 to 33 (17,408 bytes), and the tail, the last 33 blocks (16,896 bytes). l1: the head is 6 blocks (24,576 bytes),
-- the tail 5 (20,480)
-- The head is block 0, the header's block, the entries; the tail is the entries, the header's block.
abbrev pub lent_bytes : Shape → Side → ℕ
lent_bytes g primary = 2 * g.block + table_bytes
lent_bytes g backup = table_bytes + g.block

abbrev pub header_at : Shape → Side → ℕ
header_at g primary = g.block
header_at g backup = table_bytes

abbrev pub entries_at : Shape → Side → ℕ
entries_at g primary = 2 * g.block
entries_at g backup = 0

-- ---- a copy: its header and its entries, the primary's in the head, the backup's in the tail

abbrev pub header_bytes : ℕ
header_bytes = 92

abbrev pub header_in : Shape → Side → List ℕ → List ℕ
header_in g side b = part (header_at g side) header_bytes b

abbrev pub guid_in : Shape → Side → List ℕ → List ℕ
guid_in g side b = part 56 16 (header_in g side b)

abbrev pub entries_in : Shape → Side → List ℕ → List ℕ
entries_in g side b = part (entries_at g side) table_bytes b

-- D1: Header fields at byte 0 signature "EFI PART", 8 revision 00 00 01 00, 12 header size 92, 16 header CRC, 20 reserved zero, 24 own block,
-- 32 other header's block, 40 first usable 34, 48 last usable N−34, 56 disk GUID, 72 first block of entries, 80 count 128, 84 entry size 128,
-- 88 CRC of all 16,384 entry bytes.
abbrev pub header_fields : Shape → ℕ → Side → List ℕ → List ℕ → ℕ → List (ℕ × List ℕ)
header_fields g n side guid es crc =
    (0, 0x45 ∷ 0x46 ∷ 0x49 ∷ 0x20 ∷ 0x50 ∷ 0x41 ∷ 0x52 ∷ 0x54 ∷ [])
    ∷ (8, 0 ∷ 0 ∷ 1 ∷ 0 ∷ [])
    ∷ (12, le 4 header_bytes)
    ∷ (16, le 4 crc)
    ∷ (20, le 4 0)
    ∷ (24, le 8 (header_block side n))
    ∷ (32, le 8 (header_block (other side) n))
    ∷ (40, le 8 g.first)
    ∷ (48, le 8 (last_usable g n))
    ∷ (56, guid)
    ∷ (72, le 8 (entries_block g side n))
    ∷ (80, le 4 slot_count)
    ∷ (84, le 4 entry_bytes)
    ∷ (88, le 4 (crc32 es))
    ∷ []

unfoldable pub header_with : Shape → ℕ → Side → List ℕ → List ℕ → ℕ → List ℕ
header_with g n side guid es crc = write_all (header_fields g n side guid es crc) (zeros header_bytes)

-- D4: The header CRC covers 92 bytes with its own field as zero.
unfoldable pub header_crc : Shape → ℕ → Side → List ℕ → List ℕ → ℕ
header_crc g n side guid es = crc32 (header_with g n side guid es 0)

-- the header that N, side, disk GUID and entries decide
unfoldable pub header : Shape → ℕ → Side → List ℕ → List ℕ → List ℕ
header g n side guid es = header_with g n side guid es (header_crc g n side guid es)

-- D8: A copy is good when every named header field, both CRCs and all entry rules hold. The named fields fill all 92 bytes.
-- D9: Not judged on reading: names, attributes, disk GUID, block 0, bytes 92 to 511 of a header block.
unfoldable pub good_copy : Shape → ℕ → Side → List ℕ → Bool
good_copy g n side b =
    same (header_in g side b) (header g n side (guid_in g side b) (entries_in g side b)) and good_table g.first (last_usable g n) (entries_in g side b)

-- ---- reading

-- D10: Reading answers: 1 both good with equal disk GUID and entries, 2 both good but different (primary used), 3 primary only, 4 backup only. 0: neither.
abbrev pub state_of : Bool → Bool → Bool → ℕ
state_of true true true = 1
state_of true true false = 2
state_of true false equal = 3
state_of false true equal = 4
state_of false false equal = 0

abbrev pub same_copies : Shape → List ℕ → List ℕ → Bool
same_copies g h t = same (guid_in g primary h) (guid_in g backup t) and same (entries_in g primary h) (entries_in g backup t)

unfoldable pub state : Shape → ℕ → List ℕ → List ℕ → ℕ
state g n h t = state_of (good_copy g n primary h) (good_copy g n backup t) (same_copies g h t)

-- the copy that reading uses, by the state
abbrev pub used_side : ℕ → Side
used_side s = cond (eqb s 4) backup primary

abbrev pub lent : Side → List ℕ → List ℕ → List ℕ
lent primary h t = h
lent backup h t = t

-- D11: the 16,384 entry bytes inside whichever of the two lent buffers was used. They lie in `lent side h t`, from `entries_at g side` on.
unfoldable pub table_of : Shape → ℕ → List ℕ → List ℕ → List ℕ
table_of g n h t = entries_in g (used_side (state g n h t)) (lent (used_side (state g n h t)) h t)

-- ---- writing

-- the one writer: the lent bytes b with the table es and its header in the copy of that side, every other byte as it was
unfoldable pub with_table : Shape → ℕ → Side → List ℕ → List ℕ → List ℕ → List ℕ
with_table g n side guid es b = put (header_at g side) (header g n side guid es) (put (entries_at g side) es b)

-- the same with a zero header tail
abbrev pub with_copy : Shape → ℕ → Side → List ℕ → List ℕ → List ℕ → List ℕ
with_copy g n side guid es b = with_table g n side guid es (put (header_at g side) (zeros g.block) b)

-- D13: block 0: zeros, except at 446 the record 00, 00 02 00, EE, FF FF FF, 1, N−1 (last two 32-bit), and 55 AA at 510.
-- l2: Block 0 is as before in its first 512 bytes and zero after.
abbrev pub block0 : ℕ → List (ℕ × List ℕ)
block0 n = (446, (0 ∷ 0 ∷ 2 ∷ 0 ∷ 0xEE ∷ 0xFF ∷ 0xFF ∷ 0xFF ∷ []) ++ (le 4 1 ++ le 4 (n - 1))) ∷ (510, 0x55 ∷ 0xAA ∷ []) ∷ []

-- head and tail of a disk with the table es and nothing else. D14: All header tails are zero.
abbrev pub fresh_head : Shape → ℕ → List ℕ → List ℕ → List ℕ
fresh_head g n guid es = with_table g n primary guid es (write_all (block0 n) (zeros (lent_bytes g primary)))

abbrev pub fresh_tail : Shape → ℕ → List ℕ → List ℕ → List ℕ
fresh_tail g n guid es = with_table g n backup guid es (zeros (lent_bytes g backup))
