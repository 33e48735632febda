-- The answers and the model's words for them. Definitions only.
use Rattle.std.specs.Prelude.{List, ℕ, Result, Ok, Err}
use Rattle.octets.specs.Rows.{Row}
use Rattle.gpt_checks.specs.Refusals.{number_of as disk_number}
use Rattle.gpt_string_model.specs.Build.{Built, faulty, complete, part_rows, with_part}
use Rattle.gpt_build.specs.declared.Refusal.{Refusal}
use Rattle.gpt_build.specs.declared.Refusal.TheVariants.{StringForm, NotWholeBlocks, StartTaken, Disk}
use Rattle.gpt_build.specs.declared.request.Request.{Request}

-- b10: then 70 for the text as a whole, .. 71 .., 72 .., then those of adding from 20 on
abbrev pub number_of : Refusal → ℕ
number_of StringForm = 70
number_of NotWholeBlocks = 71
number_of StartTaken = 72
number_of (Disk r) = disk_number r

-- the rows of a partition on the table es, and the table with it
abbrev pub request_rows : Request → List ℕ → List Row
request_rows r es = part_rows r.disk.shape r.disk.n r.alignment es r.wanted r.last

abbrev pub table_with : Request → List ℕ → List ℕ
table_with r es = with_part r.disk.shape r.disk.n r.alignment es r.wanted r.last

-- the table es afterwards, where no row holds
abbrev pub built_by : {A : Type 0} → Result A Refusal → List ℕ → Built
built_by (Ok u) es = complete es
built_by (Err r) es = faulty (number_of r)
