use mathlib.Core.Path.{sym}
use Rattle.fmd_check.specs.Plans.{spot_in}
use Rattle.fmd_check.proofs.plan.spot_in.Goals as goal

pub returns-in-OfSize : goal.returns-in-OfSize
unfolding spot_in
returns-in-OfSize c = rw (sym c.start_of-start.ensures.0, c.in-OfSize.is) c.spot_of.ensures

pub returns-in-UpTo : goal.returns-in-UpTo
unfolding spot_in
returns-in-UpTo c = rw (sym c.start_of-start.ensures.0, c.in-UpTo.is, sym c.saturating_sub.ensures) c.spot_of-in-UpTo.ensures

pub returns-in-ToParentEnd : goal.returns-in-ToParentEnd
unfolding spot_in
returns-in-ToParentEnd c = rw (sym c.start_of-start.ensures.0, c.in-ToParentEnd.is, sym c.saturating_sub-in-ToParentEnd.ensures) c.spot_of-in-ToParentEnd.ensures

pub returns-in-Undecided : goal.returns-in-Undecided
unfolding spot_in
returns-in-Undecided c = rw c.in-Undecided.is
