use mathlib.Core.Path.{refl, ◌∙◌}
use native.Mathlib.Omega.{arith}
use Rattle.octets.proofs.Filled.{filled-all}
use Rattle.guid.proofs.Hex.{length_digits, digits-on}
use borrow.Author.Rules.{rules}
use Rattle.guid.proofs.digits_of.Goals as goal

pub loop-i-init : goal.loop-i-init
loop-i-init c = record { below = search rules; width = refl; same = refl }

pub digit-requires : goal.digit-requires
digit-requires c = omega (arith, c.fits-bytes c.loop-i.i)

pub digit-requires-in-loop-i : goal.digit-requires-in-loop-i
digit-requires-in-loop-i c = omega (arith, c.fits-bytes c.loop-i.i)

pub loop-i-preserved : goal.loop-i-preserved
loop-i-preserved c =
    let l = c.loop-i in
    digits-on c.args.bytes.now l.digits l.i _ _ c.told-bytes c.loop-i-test.true
    c.digit.ensures c.digit-in-loop-i.ensures l.invariant

pub returns : goal.returns
returns c = let bs = c.args.bytes.now in filled-all (length_digits bs ∙ omega arith) (omega arith) c.loop-i.invariant
