use Rattle.std.proofs.Common.{refl, sym, ap, ◌∙◌, arith}
use Rattle.std.proofs.lemmas.Fn.{says_at_two}
use Rattle.octets.specs.Tests.{pairs}
use Rattle.octets.proofs.Tests.{all-on, all-stop, all_done, pairs-done, pairs-first, pairs-past}
use Rattle.octets.proofs.pairs.Goals as goal

pub returns-then-not-passes : goal.returns-then-not-passes
returns-then-not-passes g c r h =
    let p = r c.in-Some.x.now in
    let fails = ap p (sym c.y-item.is) ∙ sym (h _ _ _ (says_at_two g.F.Fn c.passes.ensures refl)) ∙ c.if-not-passes.true in
    let some = sym (c.loop-y.invariant r h) ∙ all-stop p c.in-Some.later.now c.y-item.result c.loop-y.y-index (omega arith) fails in
    sym (pairs-first r _ _ some) ∙ ap (pairs r) (sym c.in-Some.ensures.cases.0) ∙ c.loop-x.invariant r h

pub loop-y-preserved : goal.loop-y-preserved
loop-y-preserved g c r h =
    let p = r c.in-Some.x.now in
    let holds = ap p (sym c.y-item.is) ∙ sym (h _ _ _ (says_at_two g.F.Fn c.passes.ensures refl)) ∙ c.if-not-passes.false in
    sym (all-on p c.in-Some.later.now c.y-item.result c.loop-y.y-index (omega arith) holds) ∙ c.loop-y.invariant r h

pub loop-x-preserved : goal.loop-x-preserved
loop-x-preserved g c r h =
    let p = r c.in-Some.x.now in
    let every = sym (c.loop-y.invariant r h) ∙ all_done p c.in-Some.later.now c.loop-y.y-index (omega arith) in
    sym (pairs-past r _ _ every) ∙ ap (pairs r) (sym c.in-Some.ensures.cases.0) ∙ c.loop-x.invariant r h

pub returns : goal.returns
returns g c r h = sym (pairs-done r c.loop-x.left.now 0 (omega (arith, c.in_default.ensures.cases))) ∙ c.loop-x.invariant r h
