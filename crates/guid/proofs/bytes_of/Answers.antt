use Rattle.std.proofs.Common.{◌+◌, ◌*◌, refl, ap, rules, arith, Some}
use Rattle.octets.proofs.Filled.{filled_on, filled-all}
use Rattle.guid.proofs.Hex.{length-bytes, bytes-at, found, missed, not_all, two_more, all_digits}
use Rattle.guid.proofs.bytes_of.Goals as goal

pub loop-i-init : goal.loop-i-init
loop-i-init c = (record { below = omega arith; width = refl; same = refl }, λ k h. absurd (omega (arith, h)))

pub returns-in_err-high : goal.returns-in_err-high
returns-in_err-high c =
    rw (not_all c.args.digits.now (2 * c.loop-i.i) (omega arith) (missed _ _ c.value.ensures c.in_err-high.was)) (search rules)

pub returns-in_err-low : goal.returns-in_err-low
returns-in_err-low c =
    rw (not_all c.args.digits.now (2 * c.loop-i.i + 1) (omega arith) (missed _ _ c.value-in-loop-i.ensures c.in_err-low.was)) (search rules)

pub loop-i-preserved : goal.loop-i-preserved
loop-i-preserved c =
    let ds = c.args.digits.now in
    let l = c.loop-i in
    let p = found _ _ c.value.ensures c.in_ok-high.was in
    let q = found _ _ c.value-in-loop-i.ensures c.in_ok-low.was in (
      filled_on _ (length-bytes 16 ds c.told-digits) c.loop-i-test.true (omega (arith, bytes-at l.i ds (omega arith), p.1, q.1)) l.invariant.0,
      two_more ds l.i p.0 q.0 l.invariant.1,
    )

pub returns : goal.returns
returns c =
    let ds = c.args.digits.now in
    let l = c.loop-i in
    rw (all_digits ds (2 * l.i) (omega (arith, c.told-digits)) l.invariant.1)
    (ap Some (filled-all (length-bytes 16 ds c.told-digits) c.loop-i-test.false l.invariant.0))
