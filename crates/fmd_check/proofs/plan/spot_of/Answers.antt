use Rattle.octets.proofs.Bools.{and_r}
use Rattle.fmd_check.specs.Plans.{spot_of, fits}
use borrow.Author.Tests.{leb-true}
use native.Mathlib.Omega.{arith}
use Prim.Native.Nat.{◌+◌}
use mathlib.Core.Path.{sym, ◌∙◌}
use Rattle.fmd_check.proofs.plan.spot_of.Goals as goal

pub returns-then-not-fits : goal.returns-then-not-fits
unfolding spot_of
returns-then-not-fits c = rw (sym c.fits.ensures ∙ c.if-not-fits.true)

pub overflow_cast-result : goal.overflow_cast-result
unfolding fits
overflow_cast-result c =
    omega (arith, leb-true (c.args.start + c.args.size) c.args.room (and_r _ _ (sym c.fits.ensures ∙ c.if-not-fits.false)))

pub returns : goal.returns
unfolding spot_of
returns c = rw (sym c.fits.ensures ∙ c.if-not-fits.false)
