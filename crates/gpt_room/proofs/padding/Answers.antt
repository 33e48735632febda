use native.Mathlib.Nat.{mod-lt}
use native.Mathlib.Omega.{arith}
use Rattle.gpt_model.proofs.Multiples.{mod-multiple, next_multiple}
use Rattle.gpt_room.proofs.padding.Goals as goal

pub returns-then-rest-eq0 : goal.returns-then-rest-eq0
returns-then-rest-eq0 c =
    let a = c.args in
    let w = mod-multiple a.alignment a.a.0 c.if-rest-eq0.true in
    let e = w.1 in
    (c.requires, (w.0, omega arith))

pub overflow_sub-result : goal.overflow_sub-result
overflow_sub-result c = let a = c.args in omega (arith, mod-lt a.a.0 c.requires)

pub returns-else-rest-eq0 : goal.returns-else-rest-eq0
returns-else-rest-eq0 c =
    let a = c.args in
    let l = mod-lt a.a.0 c.requires in
    (omega (arith, c.if-rest-eq0.false), next_multiple a.alignment a.a.0 c.requires c.if-rest-eq0.false)
