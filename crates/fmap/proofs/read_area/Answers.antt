use Rattle.fmap_rules.specs.Map.{area_of}
use Rattle.fmap.proofs.read_area.Goals as goal

pub returns : goal.returns
unfolding area_of
returns c = rw (c.extent_of.ensures, c.name_of.ensures, c.load.ensures)
