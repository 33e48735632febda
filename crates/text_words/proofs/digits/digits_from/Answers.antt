use mathlib.Core.Path.{◌∙◌}
use Prim.Native.Nat.{◌<◌, ◌+◌, ◌*◌}
use native.Mathlib.Omega.{arith}
use Rattle.text_words.proofs.Numerals.{under-limit, over-limit, up-to, digits-over, digits-end, turn_in, turn_out, turn_none}
use Rattle.text_words.proofs.digits.digits_from.Goals.{then-limit-value-via-then-limit-value, then-limit-value-via-else-limit-value+then-most-value}
use Rattle.text_words.proofs.digits.digits_from.Goals as goal

pub returns-then-limit-value : goal.returns-then-limit-value
returns-then-limit-value c =
    let v = c.loop-b.invariant in
    let t = turn_in c.args.w.now c.args.at c.loop-b.b-index c.loop-b.end c.args.most c.args.base c.loop-b.value v.0 c.loop-b-test.true c.digit.ensures c.in-Some.is in
    let o : c.args.most < c.loop-b.value * c.args.base + c.in-Some.d =
    elim c.then-limit-value.branch [
      | then-limit-value-via-then-limit-value w ↦ omega (arith, over-limit c.args.most c.args.base c.loop-b.value c.requires.1 w.if-limit-value.true)
      | then-limit-value-via-else-limit-value+then-most-value w ↦
          omega (arith, under-limit c.args.most c.args.base c.loop-b.value c.requires.1 w.if-limit-value.false)
    ] in
    digits-over c.args.most c.args.base _ _ _ c.requires.1 o ∙ t.1 ∙ v.2

pub loop-b-preserved : goal.loop-b-preserved
loop-b-preserved c =
    let v = c.loop-b.invariant in
    let t = turn_in c.args.w.now c.args.at c.loop-b.b-index c.loop-b.end c.args.most c.args.base c.loop-b.value v.0 c.loop-b-test.true c.digit.ensures c.in-Some.is in
    let u = under-limit c.args.most c.args.base c.loop-b.value c.requires.1 c.if-limit-value.false in
    (omega arith, omega arith, t.1 ∙ v.2)

pub returns-after-loop-b : goal.returns-after-loop-b
returns-after-loop-b c =
    let v = c.loop-b.invariant in
    up-to _ _ _ v.1 ∙ digits-end c.args.w.now c.loop-b.end c.args.most c.args.base c.loop-b.value
    (turn_none c.args.w.now c.args.at c.loop-b.b-index c.loop-b.end c.args.most c.args.base c.loop-b.value v.0 c.loop-b-test.false) ∙ v.2

pub returns-in_default : goal.returns-in_default
returns-in_default c =
    let v = c.loop-b.invariant in
    up-to _ _ _ v.1
    ∙ turn_out c.args.w.now c.args.at c.loop-b.b-index c.loop-b.end c.args.most c.args.base c.loop-b.value v.0 c.loop-b-test.true c.digit.ensures c.in_default.is
    ∙ v.2
