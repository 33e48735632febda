use mathlib.Core.Path.{◌≡◌}
use lib.ListN.{length}
use Rattle.octets.specs.Tests.{all}
use Rattle.gpt_string_model.specs.Text.{is_partition, parts_of}
use Rattle.gpt_string_text.proofs.all_partitions.Given as goal

abbrev pub invariant-loop-rest : goal.invariant-loop-rest
invariant-loop-rest l = all is_partition (parts_of l.rest) ≡ all is_partition (parts_of l.parts)

abbrev pub decreases-loop-rest : goal.decreases-loop-rest
decreases-loop-rest l = length l.rest
