use Rattle.octets.specs.Bytes.{part}
use Rattle.fmap.specs.Areas.{called}
use Rattle.fmap.proofs.is_called.Goals as goal

pub returns : goal.returns
unfolding called part
returns c = rw (c.same.ensures, c.name_length.ensures.0, c.name_of-n.ensures)
