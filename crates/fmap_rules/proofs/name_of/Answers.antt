use Rattle.std.proofs.Common.{arith, ◌∙◌, drop}
use lib.Seq.{take-take}
use Rattle.octets.specs.Bytes.{part}
use Rattle.fmap_rules.specs.Map.{area_of}
use Rattle.fmap_rules.proofs.name_of.Goals as goal

pub returns : goal.returns
unfolding area_of part
returns c = (rw c.unwrap.ensures at c.first_chunk.ensures.cases).same ∙ take-take 32 32 (drop 8 c.args.a.now) (omega arith)
