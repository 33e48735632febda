use native.Mathlib.Omega.{arith}
use Rattle.fmd_check.proofs.Listed.{at-image, listed, up-climbs, up-position}
use Rattle.fmd_check.proofs.areas.+position.Goals as goal

pub returns-then-level-eq0 : goal.returns-then-level-eq0
returns-then-level-eq0 t c = at-image _ _ _ c.if-level-eq0.true

pub placed_at-q-requires : goal.placed_at-q-requires
placed_at-q-requires t c = let n = listed _ _ _ _ c.if-level-eq0.false c.requires.1 in
    omega arith

pub position-up-requires : goal.position-up-requires
position-up-requires t c =
    let e = up-position _ _ _ _ c.if-level-eq0.false c.requires.1 c.placed_at-q.ensures in
    (omega arith, (c.requires.0, up-climbs _ _ _ _ c.if-level-eq0.false c.requires.1 c.placed_at-q.ensures, omega arith))

pub overflow_add-result : goal.overflow_add-result
overflow_add-result t c =
    let e = up-position _ _ _ _ c.if-level-eq0.false c.requires.1 c.placed_at-q.ensures in
    omega (arith, c.position-up.ensures)

pub returns : goal.returns
returns t c = rw c.position-up.ensures (up-position _ _ _ _ c.if-level-eq0.false c.requires.1 c.placed_at-q.ensures)
