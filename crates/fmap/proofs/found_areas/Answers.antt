use Rattle.std.proofs.Common.{sym}
use Rattle.fmap.proofs.Finding.{found-good}
use Rattle.fmap.proofs.found_areas.Goals as goal

pub areas_at-requires : goal.areas_at-requires
areas_at-requires c = found-good _ _ (sym c.in_ok-at.ensures)
