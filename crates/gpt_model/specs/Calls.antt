-- The calls: their refusals in order, their answers, and head and tail afterwards. Definitions only.
use Rattle.std.specs.Prelude.{Bool, true, false, not, cond, List, [], ◌∷◌, ◌++◌, ℕ, suc, ◌+◌, ◌-◌, leb, eqb, length, get_or, set}
use Rattle.std.proofs.Math.Option.{Option, none, some}
use Rattle.octets.specs.Tests.{◌and◌, ◌or◌, any, find_ix}
use Rattle.octets.specs.Rows.{Row, row, refusal}
use Rattle.octets.specs.Bytes.{le, put, zeros, is_zero, same, put_chunk}
use Rattle.gpt_model.specs.Table.{write_all, no_blocks, entry_bytes, slot_count, table_bytes}
use Rattle.gpt_model.specs.Table.{unique_of, first_of, partition_name_of, name_bytes, unused, entries, ranges_of}
use Rattle.gpt_model.specs.Disk.{Shape, last_usable, in_range, primary, backup, lent_bytes, guid_in, entries_in, state, table_of}
use Rattle.gpt_model.specs.Disk.{with_table, with_copy, fresh_head, fresh_tail}
use Rattle.gpt_model.specs.declared.NewPartition.{NewPartition}
use Rattle.gpt_model.specs.declared.Rule.{Rule}
use Rattle.gpt_model.specs.Ranges.{room_at, is_alignment, lowest_start, free_count, longest_free}
use Rattle.gpt_model.specs.Attributes.{offends, first_offending}

-- D15: Add is given type, unique GUID (16 stored bytes each), size in blocks, attributes and name (36 units). e1: a stated alignment, 1, 8 or 2,048 blocks
-- k2: The caller names the rule when adding
abbrev pub new_partition : List ℕ → List ℕ → ℕ → ℕ → ℕ → Rule → List ℕ → NewPartition
new_partition kind unique size alignment attributes rule name =
    record { kind = kind; unique = unique; size = size; alignment = alignment; attributes = attributes; rule = rule; name = name }

-- a slot is named by its number, from 1 on
pub data Edit : Type 0 where
  add : NewPartition → Edit
  delete : ℕ → Edit
  resize : ℕ → ℕ → Edit
  rename : ℕ → List ℕ → Edit

-- every call but formatting. k2: The caller names the rule when adding and when checking a table
pub data Call : Type 0 where
  read free_counts repair : Call
  check : Rule → Call
  edit : Edit → Call

-- R1: A refusal returns its number alone. What else is answered is a list of values; reading answers the state, free counts two numbers.
-- R3: Accepted, add answers slot and first block, repair the state found, .. other writers only that they accepted.
pub data Answer : Type 0 where
  refused : ℕ → Answer
  accepted : List ℕ → Answer

-- what a call answers, and head and tail afterwards
pub record Outcome : Type 0 where
  pub answer : Answer
  pub head : List ℕ
  pub tail : List ℕ

abbrev pub outcome : Answer → List ℕ → List ℕ → Outcome
outcome a h t = record { answer = a; head = h; tail = t }

-- R1: and changes no lent byte. R2: a call for which none holds is accepted. Its outcome is o.
abbrev pub unless_refused : Option ℕ → List ℕ → List ℕ → Outcome → Outcome
unless_refused none h t o = o
unless_refused (some k) h t o = outcome (refused k) h t

-- ---- an edit on the table alone: its rows, and the one entry that it writes

-- R12: name: a nonzero 16-bit unit after a zero one
abbrev pub bad_name : List ℕ → Bool
bad_name [] = false
bad_name (u ∷ us) = cond (eqb u 0) (not (is_zero us)) (bad_name us)

abbrev pub entry_of : List ℕ → ℕ → List ℕ
entry_of es k = get_or (entries es) (k - 1) []

-- R11: already in a used slot. a1: already carried by another used slot. The entry e is used, and a part of it, as unique GUID or name, has these bytes
abbrev pub carries : (List ℕ → List ℕ) → List ℕ → List ℕ → Bool
carries part_of bytes e = not (unused e) and same (part_of e) bytes

-- a1: a name already carried by another used slot, comparing all 72 bytes. a2: An empty name may repeat. `among` are the entries of the other slots
abbrev pub name_taken : List (List ℕ) → List ℕ → Bool
name_taken among name = not (is_zero (name_bytes name)) and any (carries partition_name_of (name_bytes name)) among

-- the entries, that of slot k left empty
abbrev pub other_entries : List ℕ → ℕ → List (List ℕ)
other_entries es k = set (entries es) (k - 1) []

abbrev pub is_none : Option ℕ → Bool
is_none none = true
is_none (some s) = false

abbrev pub or_zero : Option ℕ → ℕ
or_zero none = 0
or_zero (some s) = s

pub record Change : Type 0 where
  pub values : List ℕ
  pub index : ℕ
  pub entry : List ℕ

-- R9: 12 / 13: partition number not 1 to 128 / slot unused
abbrev pub slot_rows : List ℕ → ℕ → List Row
slot_rows es k = row (not (leb 1 k and leb k slot_count)) 12 ∷ row (unused (entry_of es k)) 13 ∷ []

-- R10: 20: size zero. R11: 21 / 22: type GUID zero / unique GUID zero or already in a used slot. R13: 24 / 25: no unused slot / no room
-- e5: 27 for any other alignment, after 20. a4: 26, after 23 and before 24. k6: 28 in adding, after 26 and before 24
abbrev pub add_rows : List ℕ → NewPartition → List Row
add_rows es p =
    row (eqb p.size 0) 20
    ∷ row (not (is_alignment p.alignment)) 27
    ∷ row (is_zero p.kind) 21
    ∷ row (is_zero p.unique or any (carries unique_of p.unique) (entries es)) 22
    ∷ row (bad_name p.name) 23
    ∷ row (name_taken (entries es) p.name) 26
    ∷ row (offends p.rule p.attributes) 28
    ∷ row (not (any unused (entries es))) 24
    ∷ []

-- D18: it gets 25 exactly when a block of the new range lies past N−34 or in another partition
abbrev pub fits_at : ℕ → List ℕ → ℕ → ℕ → Bool
fits_at last es k size = room_at (set (ranges_of es) (k - 1) no_blocks) last size (first_of (entry_of es k))

-- D15: takes the lowest unused slot. Counted from 0
abbrev pub lowest_unused : List ℕ → ℕ
lowest_unused es = find_ix unused (entries es)

-- the fields of a new partition's entry, where it starts at block s
-- D5: type GUID 0, unique GUID 16, first block 32, last block (inclusive) 40, attributes 48, name 56 as 36 16-bit units.
abbrev pub new_fields : NewPartition → ℕ → List (ℕ × List ℕ)
new_fields p s =
    (0, p.kind)
    ∷ (16, p.unique)
    ∷ (32, le 8 s)
    ∷ (40, le 8 (s + p.size - 1))
    ∷ (48, le 8 p.attributes)
    ∷ (56, name_bytes p.name)
    ∷ []

abbrev pub new_entry : NewPartition → ℕ → List ℕ
new_entry p s = write_all (new_fields p s) (zeros entry_bytes)

module _ (first last : ℕ) (es : List ℕ) where
  -- D15: and the lowest start with enough free blocks. e2: Adding and the string builder pass it on
  abbrev pub start_for : NewPartition → Option ℕ
  start_for p = lowest_start (ranges_of es) first last p.size p.alignment

  -- R27: Add: 1, 2, 10, 11, 20, 21, 22, 23, 24, 25. e5: 27 for any other alignment, after 20. a4: 26, after 23 and before 24 (in rename, last).
  -- k6: 28 in adding, after 26 and before 24.
  -- R28: Delete: 1, 2, 10, 11, 12, 13. R29: Rename the same, then 23. R30: Resize as delete, then 20, 25.
  abbrev pub table_rows : Edit → List Row
  table_rows (add p) = add_rows es p ++ (row (is_none (start_for p)) 25 ∷ [])
  table_rows (delete k) = slot_rows es k
  table_rows (resize k size) = slot_rows es k ++ (row (eqb size 0) 20 ∷ row (not (fits_at last es k size)) 25 ∷ [])
  table_rows (rename k name) = slot_rows es k ++ (row (bad_name name) 23 ∷ row (name_taken (other_entries es k) name) 26 ∷ [])

  -- what an edit answers, and the one entry that it writes, counted from 0
  -- D16: Delete zeroes the slot. D18: Resize sets the last block alone, to the size asked.
  -- D17: Rename sets the entry's 72 name bytes alone, to 36 given units.
  abbrev pub change : Edit → Change
  change (add p) =
      let slot = lowest_unused es in
      let start = or_zero (start_for p) in
      record { values = suc slot ∷ start ∷ []; index = slot; entry = new_entry p start }
  change (delete k) = record { values = []; index = k - 1; entry = zeros entry_bytes }
  change (resize k size) = record { values = []; index = k - 1; entry = put 40 (le 8 (first_of (entry_of es k) + size - 1)) (entry_of es k) }
  change (rename k name) = record { values = []; index = k - 1; entry = put 56 (name_bytes name) (entry_of es k) }

  -- D23: Each edit changes that entry
  abbrev pub edited : Edit → List ℕ
  edited d = put_chunk entry_bytes (change d).index (change d).entry es

-- ---- the calls on head and tail

-- R4: a lent buffer has a wrong length. Right ones: of what an edit is lent besides head and tail; of head and tail.
abbrev pub lengths_of : Edit → Bool
lengths_of (add p) = eqb (length p.kind) 16 and eqb (length p.unique) 16 and eqb (length p.name) 36
lengths_of (delete k) = true
lengths_of (resize k size) = true
lengths_of (rename k name) = eqb (length name) 36

abbrev pub lengths_ok : Shape → List ℕ → List ℕ → Bool
lengths_ok g h t = eqb (length h) (lent_bytes g primary) and eqb (length t) (lent_bytes g backup)

module _ (g : Shape) (n : ℕ) (h t : List ℕ) where
  -- what every call is refused for first; `lengths`: what it is lent besides head and tail has the right lengths. R5: 2: N outside its range
  abbrev pub lent_rows : Bool → List Row
  lent_rows lengths = row (not (lengths_ok g h t and lengths)) 1 ∷ row (not (in_range g n)) 2 ∷ []

  -- what every call but formatting is refused for first. R26: Read, repair, free counts: 1, 2, 10. k6: the check has 1, 2, 10. R7: 10: neither GPT copy is good
  abbrev pub common_rows : Bool → List Row
  common_rows lengths = lent_rows lengths ++ (row (eqb (state g n h t) 0) 10 ∷ [])

  -- R8: 11: an edit, and the copies are not both good and the same
  abbrev pub open_rows : Bool → List Row
  open_rows lengths = common_rows lengths ++ (row (not (eqb (state g n h t) 1)) 11 ∷ [])

  abbrev pub rows_of : Call → List Row
  rows_of read = common_rows true
  rows_of free_counts = common_rows true
  rows_of repair = common_rows true
  rows_of (check rule) = common_rows true
  rows_of (edit d) = open_rows (lengths_of d) ++ table_rows g.first (last_usable g n) (table_of g n h t) d

  -- D24: Repair in state 1 changes nothing; otherwise it writes the other copy's 33 blocks from the good one (state 2: from the primary), header tail zero.
  abbrev pub repaired : ℕ → Outcome
  repaired s =
      cond (eqb s 1) (outcome (accepted (s ∷ [])) h t)
      (cond (eqb s 4) (outcome (accepted (s ∷ [])) (with_copy g n primary (guid_in g backup t) (entries_in g backup t) h) t)
      (outcome (accepted (s ∷ [])) h (with_copy g n backup (guid_in g primary h) (entries_in g primary h) t)))

  -- the outcome of a call that no row refuses
  abbrev pub accepted_outcome : Call → Outcome
  accepted_outcome read = outcome (accepted (state g n h t ∷ [])) h t
  accepted_outcome free_counts =
      let t' = ranges_of (table_of g n h t) in
      outcome (accepted (free_count t' g.first (last_usable g n) ∷ longest_free t' g.first (last_usable g n) ∷ [])) h t
  accepted_outcome repair = repaired (state g n h t)
  accepted_outcome (check rule) = outcome (accepted (first_offending rule (table_of g n h t) ∷ [])) h t
  -- D23: Each edit changes that entry and the two CRCs, in both copies, and no other byte.
  accepted_outcome (edit d) =
      let es = edited g.first (last_usable g n) (table_of g n h t) d in
      outcome (accepted (change g.first (last_usable g n) (table_of g n h t) d).values) (with_table g n primary (guid_in g primary h) es h)
      (with_table g n backup (guid_in g backup t) es t)

  unfoldable pub step : Call → Outcome
  step c = unless_refused (refusal (rows_of c)) h t (accepted_outcome c)

-- R25: Order: format 1, 2, 3. R6: 3: disk GUID all zero (formatting)
abbrev pub format_rows : Shape → ℕ → List ℕ → List ℕ → List ℕ → List Row
format_rows g n guid h t = lent_rows g n h t (eqb (length guid) 16) ++ (row (is_zero guid) 3 ∷ [])

-- D13: Formatting writes both copies with no entries and block 0
unfoldable pub format : Shape → ℕ → List ℕ → List ℕ → List ℕ → Outcome
format g n guid h t =
    let es = zeros table_bytes in
    unless_refused (refusal (format_rows g n guid h t)) h t (outcome (accepted []) (fresh_head g n guid es) (fresh_tail g n guid es))
