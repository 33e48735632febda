-- What a judge answers. Definitions only.
use Rattle.std.specs.Prelude.{◌≡◌, Result, Ok, Err, ℕ}
use Rattle.gpt_model.specs.Disk.{Shape}
use Rattle.gpt_places.specs.declared.disk.Disk.{Disk}
use Rattle.std.proofs.Math.Option.{Option, none, some}
use Rattle.gpt_checks.specs.Refusals.{number_of}
use Rattle.gpt_checks.specs.declared.Refusal.{Refusal}

-- the number of the first row that holds, if one does
abbrev pub stop_of : {A : Type 0} → Result A Refusal → Option ℕ
stop_of (Ok a) = none
stop_of (Err r) = some (number_of r)

-- the disk of that shape and N
abbrev pub IsDisk : Shape → ℕ → Disk → Type 0
IsDisk g n d = (d.shape ≡ g) × (d.n ≡ n)
