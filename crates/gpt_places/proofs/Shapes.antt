-- The shape of a block size, as the code answers it: it is legal.
use mathlib.Core.Path.{◌≡◌}
use Rattle.std.specs.Prelude.{Some}
use Prim.Native.Nat.{ℕ}
use native.Mathlib.Omega.{arith}
use Rattle.gpt_model.specs.Disk.{Shape, disk512, disk4096}
use Rattle.gpt_model.specs.Sizes.{shape_of}
use Rattle.gpt_model.proofs.Sizes.{by_size}
use Rattle.gpt_places.specs.Invariants.{Legal}

legal512 : Legal disk512
legal512 = record { wide = omega arith; narrow = omega arith; behind = omega arith; range = omega arith }

legal4096 : Legal disk4096
legal4096 = record { wide = omega arith; narrow = omega arith; behind = omega arith; range = omega arith }

pub shape-legal : (size : ℕ) (g : Shape) → shape_of size ≡ Some g → Legal g
shape-legal = by_size (λ size g. Legal g) legal512 legal4096
