use mathlib.Core.Path.{sym}
use native.Mathlib.Omega.{arith}
use Rattle.gpt_model.proofs.Sizes.{shapes_by_size, at512, at4096}
use Rattle.gpt_places.proofs.shape_of.Goals as goal

pub returns-in-512 : goal.returns-in-512
returns-in-512 c = sym (at512 _ c.in-512.is)

pub returns-in-4096 : goal.returns-in-4096
returns-in-4096 c = sym (at4096 _ c.in-4096.is)

pub returns-in_default : goal.returns-in_default
returns-in_default c = sym (shapes_by_size.2 _ (λ e. omega arith) (λ e. omega arith))
