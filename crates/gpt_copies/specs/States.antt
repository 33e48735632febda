-- The states of reading as an enum. Definitions only.
use Rattle.std.specs.Prelude.{ℕ, Option, None, Some}
use Rattle.gpt_copies.specs.declared.State.{State}
use Rattle.gpt_copies.specs.declared.State.TheVariants.{Both, Differ, PrimaryOnly, BackupOnly}

-- D10: Reading answers: 1 both good with equal disk GUID and entries, 2 both good but different (primary used), 3 primary only, 4 backup only. 0: neither.
abbrev pub state_number : Option State → ℕ
state_number (Some Both) = 1
state_number (Some Differ) = 2
state_number (Some PrimaryOnly) = 3
state_number (Some BackupOnly) = 4
state_number None = 0
