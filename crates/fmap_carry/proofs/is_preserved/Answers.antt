use Rattle.std.proofs.Common.{ap}
use Rattle.std.proofs.Common.{ℕ, ◌/◌, ◌%◌, eqb}
use Rattle.fmap_rules.specs.Map.{area_of}
use Rattle.fmap_carry.specs.Carry.{preserved}
use Rattle.fmap_carry.proofs.is_preserved.Goals as goal

pub returns : goal.returns
unfolding preserved area_of
returns c = ap (λ (k : ℕ). eqb (k / 8 % 2) 1) c.load.ensures
