use native.Mathlib.Omega.{arith}
use Rattle.gpt_room.proofs.Looks.{taken_of, gap_of, behind_all, behind-more}
use Rattle.gpt_room.proofs.Walks.{tallied-start, tallied-over, tallied-gap, tallied-end, tallied-full}
use Rattle.gpt_room.proofs.Walk.tally.Goals as goal

pub loop-a-init : goal.loop-a-init
loop-a-init c = (tallied-start, behind_all _)

pub returns-then-self-x : goal.returns-then-self-x
returns-then-self-x c =
    let w = taken_of c.look.ensures c.in-Taken.is in
    tallied-full c.loop-a.invariant.0 c.loop-a-test.true c.if-self-x.true w

pub loop-a-preserved-in-Taken : goal.loop-a-preserved-in-Taken
loop-a-preserved-in-Taken c =
    let w = taken_of c.look.ensures c.in-Taken.is in
    let v = w.from in
    (tallied-over c.loop-a.invariant.0 (omega arith) w, behind-more (omega arith) c.next-rest.ensures.behind)

pub loop-a-preserved : goal.loop-a-preserved
loop-a-preserved c =
    let w = gap_of c.look.ensures c.in-Gap.is in
    let v = w.past in
    (tallied-gap c.loop-a.invariant.0 w c.max.ensures, behind-more (omega arith) c.next-rest.ensures.behind)

pub returns : goal.returns
returns c = tallied-end c.loop-a.invariant.0 c.loop-a-test.false
