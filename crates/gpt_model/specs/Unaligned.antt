-- Adding as rules D15 and R27 have it, with the rows of a4 and k6 and without an alignment: what an add at alignment 1 is to be. Definitions only.
use Rattle.std.specs.Prelude.{not, List, [], ◌∷◌, ◌++◌, ℕ, suc, ◌-◌, eqb}
use Rattle.std.proofs.Math.Option.{Option}
use Rattle.octets.specs.Tests.{◌or◌, any}
use Rattle.octets.specs.Rows.{Row, row, refusal}
use Rattle.octets.specs.Bytes.{is_zero, put_chunk}
use Rattle.gpt_model.specs.Table.{entry_bytes, unique_of, unused, entries, ranges_of}
use Rattle.gpt_model.specs.Disk.{Shape, last_usable, primary, backup, guid_in, table_of, with_table}
use Rattle.gpt_model.specs.Ranges.{room_at, lowest_from}
use Rattle.gpt_model.specs.Attributes.{offends}
use Rattle.gpt_model.specs.declared.NewPartition.{NewPartition}
use Rattle.gpt_model.specs.Calls.{add, accepted, Outcome, outcome, unless_refused, bad_name, carries, name_taken, is_none, or_zero}
use Rattle.gpt_model.specs.Calls.{lowest_unused, new_entry, lengths_of, open_rows}

module _ (g : Shape) (n : ℕ) (h t : List ℕ) (p : NewPartition) where
  abbrev es : List ℕ
  es = table_of g n h t

  -- D15: and the lowest start with enough free blocks
  abbrev pub start_unaligned : Option ℕ
  start_unaligned = lowest_from (room_at (ranges_of es) (last_usable g n) p.size) g.first (suc (last_usable g n) - g.first)

  -- R27: Add: 1, 2, 10, 11, 20, 21, 22, 23, 24, 25. a4: 26, after 23 and before 24. k6: 28 in adding, after 26 and before 24
  abbrev pub rows_unaligned : List Row
  rows_unaligned =
      open_rows g n h t (lengths_of (add p))
      ++ (row (eqb p.size 0) 20
      ∷ row (is_zero p.kind) 21
      ∷ row (is_zero p.unique or any (carries unique_of p.unique) (entries es)) 22
      ∷ row (bad_name p.name) 23
      ∷ row (name_taken (entries es) p.name) 26
      ∷ row (offends p.rule p.attributes) 28
      ∷ row (not (any unused (entries es))) 24
      ∷ row (is_none start_unaligned) 25
      ∷ [])

  -- D15: takes the lowest unused slot. R3: add answers slot and first block. D23: in both copies
  abbrev pub add_unaligned : Outcome
  add_unaligned =
      let slot = lowest_unused es in
      let start = or_zero start_unaligned in
      let es' = put_chunk entry_bytes slot (new_entry p start) es in
      unless_refused (refusal rows_unaligned) h t
      (outcome (accepted (suc slot ∷ start ∷ [])) (with_table g n primary (guid_in g primary h) es' h) (with_table g n backup (guid_in g backup t) es' t))
