use Rattle.fmd_check.proofs.areas.+position.Given as goal

abbrev pub decreases-position : goal.decreases-position
decreases-position l = l.level
