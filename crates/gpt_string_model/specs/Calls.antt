-- The call that makes a disk of a layout string: its refusals in order, head and tail afterwards, and what it grants. Definitions only.
use Rattle.std.specs.Prelude.{true, not, List, [], ◌∷◌, ◌++◌, ℕ, ◌-◌, length, replicate}
use Rattle.octets.specs.Rows.{Row, row, refusal}
use Rattle.octets.specs.Bytes.{zeros, is_zero}
use Rattle.gpt_model.specs.Table.{slot_count, table_bytes}
use Rattle.gpt_model.specs.Disk.{Shape, fresh_head, fresh_tail}
use Rattle.gpt_model.specs.Calls.{refused, accepted, Outcome, outcome, unless_refused, lent_rows}
use Rattle.gpt_model.specs.Sizes.{shape_of, on_shape}
use Rattle.gpt_model.specs.Lists.{Snapshot, total}
use Rattle.gpt_string_model.specs.Text.{is_layout, disk_guid_of, wanted_in}
use Rattle.gpt_string_model.specs.Build.{Built, faulty, complete, build, grants}

-- b1: should become a formatted head and tail: with the table that was built, or, refused, as they were
abbrev pub written_disk : Shape → ℕ → List ℕ → List ℕ → List ℕ → Built → Outcome
written_disk g n guid h t (faulty k) = outcome (refused k) h t
written_disk g n guid h t (complete es) = outcome (accepted []) (fresh_head g n guid es) (fresh_tail g n guid es)

module _ (g : Shape) (n alignment : ℕ) (text h t : List ℕ) where
  -- b10: 1, 2, then 70 for the text as a whole, 3. b6: A breach of this, or a bad GUID, is 70.
  abbrev pub string_rows : List Row
  string_rows = lent_rows g n h t true ++ (row (not (is_layout text)) 70 ∷ row (is_zero (disk_guid_of text)) 3 ∷ [])

  -- the table of a text that these rows do not refuse
  abbrev pub table_in : Built
  table_in = build g n alignment (zeros table_bytes) (wanted_in text)

  unfoldable pub build_string : Outcome
  build_string = unless_refused (refusal string_rows) h t (written_disk g n (disk_guid_of text) h t table_in)

  -- b9: In demand 3 an accepted string counts as formatting; every partition is then a grant, to its slot, of its size in blocks
  abbrev pub start_built : Snapshot
  start_built =
      let sizes = grants g n alignment (zeros table_bytes) (wanted_in text) in record {
        head = build_string.head;
        tail = build_string.tail;
        ledger = record { granted = total sizes; back = 0; sizes = sizes ++ replicate (slot_count - length sizes) 0 };
      }

-- l3: The caller names the block size.
unfoldable pub build_by : ℕ → ℕ → ℕ → List ℕ → List ℕ → List ℕ → Outcome
build_by size n alignment text h t = on_shape (shape_of size) h t (λ g. build_string g n alignment text h t)
