use Rattle.octets.specs.Tests.{◌and◌}
use Rattle.fmd_check.specs.Plans.{fits}
use Rattle.fmd_check.proofs.plan.fits.Goals.{then-size-ge1, else-size-ge1}
use borrow.Author.Tests.{le-leb, lt-leb}
use native.Mathlib.Omega.{arith}
use mathlib.Core.Logic.{inl, inr}
use Rattle.fmd_check.proofs.plan.fits.Goals as goal

pub returns-then-e-start : goal.returns-then-e-start
unfolding fits ◌and◌
returns-then-e-start c = rw (le-leb _ _ c.if-e-start.true.0, le-leb _ _ c.if-e-start.true.1)

pub returns-else-e-start : goal.returns-else-e-start
unfolding fits ◌and◌
returns-else-e-start c = elim c.if-size-ge1.branch [
  | then-size-ge1 w ↦ elim c.if-e-start.either [
    | inl p ↦ rw (w.t-6-is, le-leb 1 _ p.0, lt-leb c.args.e _ p.1)
    | inr q ↦ absurd (omega (arith, q, w.if-size-ge1.true))
  ]
  | else-size-ge1 w ↦ rw (w.t-6-is, lt-leb 1 _ w.if-size-ge1.false)
]
