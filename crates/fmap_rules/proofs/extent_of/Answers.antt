use Rattle.fmap_rules.specs.Map.{area_of}
use Rattle.fmap_rules.proofs.extent_of.Goals as goal

pub returns : goal.returns
unfolding area_of
returns c = rw (c.load.ensures, c.load-2.ensures)
