-- What the code relies on; no part of what the library promises. Definitions only.
use Rattle.std.specs.Prelude.{Bool, cond, List, [], ◌∷◌, ◌++◌, ℕ, suc, ◌-◌, ◌/◌, leb}
use Rattle.std.proofs.Math.Option.{Option, none, some}
use Rattle.octets.specs.Rows.{Row, row, refusal}
use Rattle.gpt_model.specs.Table.{ranges_of}
use Rattle.gpt_model.specs.Disk.{Shape, last_usable}
use Rattle.gpt_model.specs.Ranges.{in_none, run_from}
use Rattle.gpt_model.specs.Calls.{is_none, or_zero, add_rows}
use Rattle.std.specs.Prelude.{Option as Found, Result, Ok, Err}
use Rattle.gpt_string_model.specs.declared.WantedPartition.{WantedPartition}
use Rattle.gpt_string_model.specs.Build.{blocked, reaches, needed, as_new, standing}
use Rattle.gpt_build.specs.declared.Placed.{Placed}
use Rattle.gpt_build.specs.declared.Refusal.{Refusal}
use Rattle.gpt_build.specs.declared.request.Request.{Request}
use Rattle.gpt_build.specs.Answers.{number_of, request_rows}

-- the free blocks from block b on
abbrev pub run_at : Shape → ℕ → List ℕ → ℕ → ℕ
run_at g n es b = run_from (in_none (ranges_of es)) b (suc (last_usable g n) - b)

-- none where b is below the first usable block
abbrev pub usable_run : Shape → ℕ → List ℕ → ℕ → ℕ
usable_run g n es b = cond (leb g.first b) (run_at g n es b) 0

-- the size in blocks from block b on
abbrev pub blocks_from : Shape → ℕ → List ℕ → WantedPartition → Bool → ℕ → ℕ
blocks_from g n es w final b = cond (reaches w final) (run_at g n es b) (w.size / g.block)

-- the rows from 72 on, for a given start or for none
abbrev pub rows_from72 : Shape → ℕ → ℕ → List ℕ → WantedPartition → Bool → Found ℕ → List Row
rows_from72 g n a es w final start =
    row (blocked g n es start) 72 ∷ (add_rows es (as_new a w (needed g w final)) ++ (row (is_none (standing g n a es w final start)) 25 ∷ []))

-- a first block and a size in blocks, or the number of the first row that holds
pub data PartPlace : Type 0 where
  stopped : ℕ → PartPlace
  from : ℕ → ℕ → PartPlace

abbrev pub part_place_by : Result Placed Refusal → PartPlace
part_place_by (Ok p) = from p.first.0 p.blocks
part_place_by (Err r) = stopped (number_of r)

abbrev pub part_place_unless : Option ℕ → ℕ → ℕ → PartPlace
part_place_unless none first blocks = from first blocks
part_place_unless (some k) first blocks = stopped k

-- where the partition stands by those rows
abbrev pub part_place_of : Shape → ℕ → ℕ → List ℕ → WantedPartition → Bool → Found ℕ → List Row → PartPlace
part_place_of g n a es w final start rows =
    let b = or_zero (standing g n a es w final start) in
    part_place_unless (refusal rows) b (blocks_from g n es w final b)

-- where a request stands: by all its rows, and by those from 72 on for a given start or for none
abbrev pub request_place : Request → List ℕ → PartPlace
request_place r es = part_place_of r.disk.shape r.disk.n r.alignment es r.wanted r.last r.wanted.start (request_rows r es)

abbrev pub placed_from72 : Request → List ℕ → Found ℕ → PartPlace
placed_from72 r es start =
    part_place_of r.disk.shape r.disk.n r.alignment es r.wanted r.last start
    (rows_from72 r.disk.shape r.disk.n r.alignment es r.wanted r.last start)
