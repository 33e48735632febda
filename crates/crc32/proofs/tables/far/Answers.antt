use mathlib.Core.Path.{refl}
use lib.Dec.{lit≤}
use Rattle.octets.specs.Tests.{◌and◌}
use Rattle.crc_lanes.specs.Crc.{bit_step, bit_steps}
use Rattle.crc32.proofs.Linear.{tables-are}
use Rattle.crc32.proofs.tables.far.Goals as goal

-- The constant's numbers pass the test.
pub returns : goal.returns
unfolding ◌and◌ bit_steps bit_step
returns c = tables-are 8 8 200 _ (lit≤ tt) refl
