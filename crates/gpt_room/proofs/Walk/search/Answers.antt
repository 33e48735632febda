use mathlib.Core.Path.{sym, ◌∙◌}
use native.Mathlib.Omega.{arith}
use borrow.Author.Tests.{leb-true, leb-false}
use Rattle.gpt_room.proofs.Looks.{taken_of, gap_of, behind-more}
use Rattle.gpt_room.proofs.Walks.{looked-over, looked-on, looked-none, looked-found}
use Rattle.gpt_room.proofs.Walk.search.Goals as goal

pub returns-then-self-x : goal.returns-then-self-x
returns-then-self-x c =
    let w = taken_of c.look.ensures c.in-Taken.is in
    looked-none (looked-over c.loop-a.invariant.0 w) c.requires.0 (omega arith)

pub loop-a-preserved-in-Taken : goal.loop-a-preserved-in-Taken
loop-a-preserved-in-Taken c =
    let w = taken_of c.look.ensures c.in-Taken.is in
    let v = w.from in
    (looked-over c.loop-a.invariant.0 w, behind-more (omega arith) c.next-rest.ensures.behind)

pub returns-then-has_room : goal.returns-then-has_room
returns-then-has_room c =
    let w = gap_of c.look.ensures c.in-Gap.is in
    let h = leb-true _ _ (sym c.has_room.ensures ∙ c.if-has_room.true) in
    looked-found c.loop-a.invariant.0 c.padding-d.ensures w c.requires.0 h

pub loop-a-preserved : goal.loop-a-preserved
loop-a-preserved c =
    let w = gap_of c.look.ensures c.in-Gap.is in
    let v = w.past in
    let h = leb-false _ _ (sym c.has_room.ensures ∙ c.if-has_room.false) in
    (looked-on c.loop-a.invariant.0 c.padding-d.ensures w h, behind-more (omega arith) c.next-rest.ensures.behind)

pub returns : goal.returns
returns c = looked-none c.loop-a.invariant.0 c.requires.0 c.loop-a-test.false
