use native.Mathlib.Omega.{arith}
use Rattle.gpt_places.proofs.entries_at.Goals as goal

pub returns-in-Primary : goal.returns-in-Primary
returns-in-Primary c = rw c.in-Primary.is (omega arith)
