use Rattle.octets.specs.Bytes.{zeros}
use Rattle.fmd_check.proofs.Listed.{name-stored}
use Rattle.fmd_check.proofs.areas.stored_name.Goals as goal

pub returns : goal.returns
unfolding zeros
returns c =
    name-stored _ _ _ _ c.requires.0 c.requires.1 c.copy.ensures
