-- An entry, and the table of 128 entries. Definitions only.
use Rattle.std.specs.Prelude.{Bool, true, false, not, List, [], ◌∷◌, map, ℕ, suc, ◌-◌, leb, ltb}
use Rattle.octets.specs.Tests.{◌and◌, ◌or◌, all, pairs}
use Rattle.octets.specs.Bytes.{le, part, field, put, is_zero, same, chunks, flat}

-- fields written at their byte positions, one after the other
abbrev pub write_all : List (ℕ × List ℕ) → List ℕ → List ℕ
write_all [] xs = xs
write_all (f ∷ fs) xs = write_all fs (put f.0 f.1 xs)

-- D5: An entry: type GUID 0, unique GUID 16, first block 32, last block (inclusive) 40, attributes 48, name 56 as 36 16-bit units.
abbrev pub entry_bytes : ℕ
entry_bytes = 128

abbrev pub type_of : List ℕ → List ℕ
type_of e = part 0 16 e

abbrev pub unique_of : List ℕ → List ℕ
unique_of e = part 16 16 e

abbrev pub first_of : List ℕ → ℕ
first_of e = field 32 8 e

abbrev pub last_of : List ℕ → ℕ
last_of e = field 40 8 e

abbrev pub attributes_of : List ℕ → ℕ
attributes_of e = field 48 8 e

abbrev pub partition_name_of : List ℕ → List ℕ
partition_name_of e = part 56 72 e

-- the 72 bytes of a name, given as units
abbrev pub name_bytes : List ℕ → List ℕ
name_bytes units = flat (map (le 2) units)

-- D6: An entry is unused when its type GUID is zero. All else goes by this definition; a used entry is one that is not unused.
unfoldable pub unused : List ℕ → Bool
unused e = is_zero (type_of e)

-- what an entry takes: nothing where it is unused, else the blocks from its first to its last
pub data BlockRange : Type 0 where
  no_blocks : BlockRange
  spans : ℕ → ℕ → BlockRange

-- D5: last block (inclusive)
abbrev pub range_size : BlockRange → ℕ
range_size no_blocks = 0
range_size (spans f l) = suc l - f

unfoldable pub range_of : List ℕ → BlockRange
range_of e = elim (unused e) [ true ↦ no_blocks | false ↦ spans (first_of e) (last_of e) ]

-- D7: 34 ≤ first ≤ last ≤ N−34
unfoldable pub bounded : ℕ → ℕ → BlockRange → Bool
bounded first last no_blocks = true
bounded first last (spans f l) = leb first f and leb f l and leb l last

-- D7: ranges share no block
unfoldable pub apart : BlockRange → BlockRange → Bool
apart no_blocks t = true
apart (spans f l) no_blocks = true
apart (spans f l) (spans g m) = ltb l g or ltb m f

-- D7: A used entry has a nonzero unique GUID and 34 ≤ first ≤ last ≤ N−34. f2: the entry rules ignore the other bytes of an unused one
unfoldable pub entry_ok : ℕ → ℕ → List ℕ → Bool
entry_ok first last e = unused e or (not (is_zero (unique_of e)) and bounded first last (range_of e))

-- D7: unique GUIDs differ; ranges share no block
unfoldable pub pair_ok : List ℕ → List ℕ → Bool
pair_ok e d = unused e or unused d or (not (same (unique_of e) (unique_of d)) and apart (range_of e) (range_of d))

-- D1: 80 count 128, 84 entry size 128, 88 CRC of all 16,384 entry bytes.
abbrev pub slot_count : ℕ
slot_count = 128

abbrev pub table_bytes : ℕ
table_bytes = 16384

abbrev pub entries : List ℕ → List (List ℕ)
entries es = chunks entry_bytes slot_count es

abbrev pub ranges_of : List ℕ → List BlockRange
ranges_of es = map range_of (entries es)

-- D8: all entry rules hold.
unfoldable pub good_table : ℕ → ℕ → List ℕ → Bool
good_table first last es = all (entry_ok first last) (entries es) and pairs pair_ok (entries es)
