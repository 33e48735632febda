-- The table that the partitions of a layout string make, one after the other. Definitions only.
use Rattle.std.specs.Prelude.{Bool, true, false, not, cond, List, [], ◌∷◌, ◌++◌, ℕ, suc, ◌-◌, ◌/◌, ◌%◌, leb, eqb}
use Rattle.std.specs.Prelude.{Option, None, Some}
use Rattle.std.proofs.Math.Option.{Option as Maybe, none, some}
use Rattle.octets.specs.Tests.{◌and◌, ◌or◌}
use Rattle.octets.specs.Rows.{Row, row, refusal}
use Rattle.octets.specs.Bytes.{put_chunk}
use Rattle.gpt_model.specs.Table.{entry_bytes, ranges_of}
use Rattle.gpt_model.specs.Disk.{Shape, last_usable}
use Rattle.gpt_model.specs.Ranges.{in_none, room_at, run_from}
use Rattle.gpt_model.specs.declared.NewPartition.{NewPartition}
use Rattle.gpt_model.specs.declared.Rule.TheVariants.{Present}
use Rattle.gpt_model.specs.Calls.{new_partition, is_none, or_zero, add_rows, lowest_unused, new_entry, start_for}
use Rattle.gpt_string_model.specs.declared.WantedPartition.{WantedPartition}

-- ---- one partition, on the table es that the earlier ones left; `final`: it is the last of the string

-- b10: 71 (start or size no multiple of 512). l5: Layout-string starts and sizes (71) .. become multiples of the block
abbrev pub uneven : Shape → ℕ → Option ℕ → Bool
uneven g size None = not (eqb (size % g.block) 0)
uneven g size (Some at) = not (eqb (at % g.block) 0) or not (eqb (size % g.block) 0)

-- b10: 72 (start block taken or not usable)
abbrev pub blocked : Shape → ℕ → List ℕ → Option ℕ → Bool
blocked g n es None = false
blocked g n es (Some at) = not (leb g.first (at / g.block) and leb (at / g.block) (last_usable g n) and in_none (ranges_of es) (at / g.block))

-- b7: Size 0 in the last partition reaches .. to the end of that free run
abbrev pub reaches : WantedPartition → Bool → Bool
reaches w final = final and eqb w.size 0

-- the free blocks that it must find. b7: 25 if nothing is free; such a size 0 never gets 20, any other does
abbrev pub needed : Shape → WantedPartition → Bool → ℕ
needed g w final = cond (reaches w final) 1 (w.size / g.block)

-- as adding is given it, with a size in blocks. e2: Adding and the string builder pass it on. k5: The string builder goes by the present rule.
abbrev pub as_new : ℕ → WantedPartition → ℕ → NewPartition
as_new alignment w size = new_partition w.kind w.unique size alignment w.attributes Present w.name

module _ (g : Shape) (n alignment : ℕ) (es : List ℕ) (w : WantedPartition) (final : Bool) where
  -- b8: Without start, placing is as in adding; with it, the partition stands exactly there. None: no room; b10: 25 where the run from a given start is
  -- too short. e3: a start given in a string stands as given
  abbrev pub standing : Option ℕ → Maybe ℕ
  standing None = start_for g.first (last_usable g n) es (as_new alignment w (needed g w final))
  standing (Some at) = cond (room_at (ranges_of es) (last_usable g n) (needed g w final) (at / g.block)) (some (at / g.block)) none

  abbrev pub first_block : ℕ
  first_block = or_zero (standing w.start)

  -- its size in blocks. b9: (size 0: from its start to that free run's end)
  abbrev pub size_in_blocks : ℕ
  size_in_blocks = cond (reaches w final) (run_from (in_none (ranges_of es)) first_block (suc (last_usable g n) - first_block)) (w.size / g.block)

  -- b10: 71 .., 72 .., then those of adding from 20 on
  abbrev pub part_rows : List Row
  part_rows =
      row (uneven g w.size w.start) 71
      ∷ row (blocked g n es w.start) 72
      ∷ (add_rows es (as_new alignment w (needed g w final)) ++ (row (is_none (standing w.start)) 25 ∷ []))

  -- its entry, in the lowest unused slot as in adding
  abbrev pub entry_for : List ℕ
  entry_for = new_entry (as_new alignment w size_in_blocks) first_block

  abbrev pub with_part : List ℕ
  with_part = put_chunk entry_bytes (lowest_unused es) entry_for es

-- ---- all of them, from first to last

pub data Built : Type 0 where
  faulty : ℕ → Built
  complete : List ℕ → Built

abbrev pub unless_faulty : Maybe ℕ → Built → Built
unless_faulty none b = b
unless_faulty (some k) b = faulty k

abbrev pub is_nil : List WantedPartition → Bool
is_nil [] = true
is_nil (w ∷ ws) = false

-- b10: then partition by partition
unfoldable pub build : Shape → ℕ → ℕ → List ℕ → List WantedPartition → Built
build g n alignment es [] = complete es
build g n alignment es (w ∷ ws) =
    unless_faulty (refusal (part_rows g n alignment es w (is_nil ws))) (build g n alignment (with_part g n alignment es w (is_nil ws)) ws)

-- b9: every partition is then a grant, to its slot, of its size in blocks
unfoldable pub grants : Shape → ℕ → ℕ → List ℕ → List WantedPartition → List ℕ
grants g n alignment es [] = []
grants g n alignment es (w ∷ ws) =
    size_in_blocks g n alignment es w (is_nil ws) ∷ grants g n alignment (with_part g n alignment es w (is_nil ws)) ws
