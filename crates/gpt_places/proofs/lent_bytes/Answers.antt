use native.Mathlib.Omega.{arith}
use Rattle.gpt_places.proofs.lent_bytes.Goals as goal

pub returns-in-Primary : goal.returns-in-Primary
returns-in-Primary c = rw c.in-Primary.is (omega arith)

pub returns-in-Backup : goal.returns-in-Backup
returns-in-Backup c = rw c.in-Backup.is (omega arith)
