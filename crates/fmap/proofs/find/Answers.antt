use Rattle.std.proofs.Common.{arith, sym, ◌∙◌, ◌≡◌, ◌<◌, Some, None, length}
use Rattle.std.proofs.lemmas.Result.{err_from_is_err_and}
use Rattle.fmap.specs.Find.{signed_at}
use Rattle.fmap.specs.declared.NoMap.TheVariants.{NoSignature, NoGoodMap}
use Rattle.fmap.proofs.Lowest.{first-from}
use Rattle.fmap.proofs.Finding.{Looking, room, looking-starts, looking-goes, looking-hits, looking-ends, find-40, find-41, find-42, finds, within}
use Rattle.fmap.proofs.Finding.{some-below, none_below, next-at, next-none, next-within}
use Rattle.fmap.proofs.find.Goals as goal

pub returns-then-is_out_of_range : goal.returns-then-is_out_of_range
returns-then-is_out_of_range c = find-40 _ (sym c.is_out_of_range.ensures ∙ c.if-is_out_of_range.true)

pub next_signed-requires : goal.next_signed-requires
next_signed-requires c = omega (arith, within (length c.args.image.now) (sym c.is_out_of_range.ensures ∙ c.if-is_out_of_range.false))

pub returns-in_err-at : goal.returns-in_err-at
returns-in_err-at c =
    let s = c.args.image.now in
    let p = err_from_is_err_and c.from_residual.result c.from_residual.ensures.1 in
    let none : c.next_signed.result ≡ None = grind arith in
    let why : c.in_err-at.field-0.0 ≡ NoSignature = grind arith in
    rw (p.1, p.2, why) (find-41 s (sym c.is_out_of_range.ensures ∙ c.if-is_out_of_range.false)
    (none_below s (signed_at s) _ (next-none _ c.next_signed.ensures.next none) (omega arith)))

pub loop-at-init : goal.loop-at-init
loop-at-init c =
    let s = c.args.image.now in
    let some : c.next_signed.result ≡ Some c.in_ok-at.at = grind arith in
    let h : c.in_ok-at.at.0 < length s = next-within _ _ some c.next_signed.ensures.within in
    (h, looking-starts s _ (next-at _ c.next_signed.ensures.next _ some) (omega arith))

pub overflow_add-at : goal.overflow_add-at
overflow_add-at c =
    let l = within (length c.args.image.now) (sym c.is_out_of_range.ensures ∙ c.if-is_out_of_range.false) in
    let r = room _ _ c.loop-at.invariant.1 c.loop-at.invariant.0 in
    omega arith

pub next_signed-requires-in-loop-at : goal.next_signed-requires-in-loop-at
next_signed-requires-in-loop-at c =
    let l = within (length c.args.image.now) (sym c.is_out_of_range.ensures ∙ c.if-is_out_of_range.false) in
    let r = room _ _ c.loop-at.invariant.1 c.loop-at.invariant.0 in
    (omega arith, l.1)

pub returns-in_err-at-2 : goal.returns-in_err-at-2
returns-in_err-at-2 c =
    let s = c.args.image.now in
    let p = err_from_is_err_and c.from_residual-in_err-at-2.result c.from_residual-in_err-at-2.ensures.1 in
    let some : c.next_signed.result ≡ Some c.in_ok-at.at = grind arith in
    let none : c.next_signed-in-loop-at.result ≡ None = grind arith in
    let why : c.in_err-at-2.field-0.0 ≡ NoGoodMap = grind arith in
    let r = room _ _ c.loop-at.invariant.1 c.loop-at.invariant.0 in
    let over : Looking s (length s) =
    looking-goes _ _ c.loop-at.invariant.1 (length s) c.loop-at.invariant.0 (sym c.good_at.ensures ∙ c.loop-at-test.true)
    (next-none _ c.next_signed-in-loop-at.ensures.next none) (omega arith) in
    rw (p.1, p.2, why) (find-42 s (sym c.is_out_of_range.ensures ∙ c.if-is_out_of_range.false)
    (some-below s (signed_at s) _ (next-at _ c.next_signed.ensures.next _ some) (next-within _ _ some c.next_signed.ensures.within))
    (looking-ends s (length s) over (omega arith)))

pub loop-at-smaller : goal.loop-at-smaller
loop-at-smaller c =
    let some : c.next_signed-in-loop-at.result ≡ Some c.in_ok-at-2.at = grind arith in
    let e = next-at _ c.next_signed-in-loop-at.ensures.next _ some in
    omega (arith, e, first-from _ _ _ _ e, room _ _ c.loop-at.invariant.1 c.loop-at.invariant.0)

pub loop-at-preserved : goal.loop-at-preserved
loop-at-preserved c =
    let s = c.args.image.now in
    let some : c.next_signed-in-loop-at.result ≡ Some c.in_ok-at-2.at = grind arith in
    let h : c.in_ok-at-2.at.0 < length s = next-within _ _ some c.next_signed-in-loop-at.ensures.within in (
      h,
      looking-goes _ _ c.loop-at.invariant.1 _ c.loop-at.invariant.0 (sym c.good_at.ensures ∙ c.loop-at-test.true)
          (next-at _ c.next_signed-in-loop-at.ensures.next _ some) (omega arith),
    )

pub returns : goal.returns
returns c =
    let s = c.args.image.now in
    let some : c.next_signed.result ≡ Some c.in_ok-at.at = grind arith in
    finds s _ (sym c.is_out_of_range.ensures ∙ c.if-is_out_of_range.false)
    (some-below s (signed_at s) _ (next-at _ c.next_signed.ensures.next _ some) (next-within _ _ some c.next_signed.ensures.within))
    c.loop-at.invariant.0
    (looking-hits s _ c.loop-at.invariant.1 c.loop-at.invariant.0 (sym c.good_at.ensures ∙ c.loop-at-test.false))
