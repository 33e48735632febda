use Rattle.fmd_check.proofs.Found.{ready}
use Rattle.fmd_check.proofs.Stages.{whole, stopped}
use Rattle.fmd_check.specs.Check.{check_text}
use borrow.Author.Tests.{lt-ltb, le-ltb}
use native.Mathlib.Omega.{arith}
use mathlib.Core.Path.{sym, ◌∙◌}
use Rattle.fmd_check.proofs.check.Goals as goal

pub returns-then-text-gt32768 : goal.returns-then-text-gt32768
unfolding check_text
returns-then-text-gt32768 c = rw (lt-ltb 32768 _ c.if-text-gt32768.true)

pub check_list-requires : goal.check_list-requires
check_list-requires c =
    let l = c.in_ok-t.ensures.linked in
    (omega arith, omega arith, l, ready _ _ _ _ c.in_ok-t.ensures.rows_after)

pub returns-in_err-t : goal.returns-in_err-t
unfolding check_text
returns-in_err-t c = rw (le-ltb _ _ c.if-text-gt32768.false, stopped _ c.from_residual.ensures.1, sym c.in_err-t.ensures.rows_after)

pub returns : goal.returns
unfolding check_text
returns c = rw (le-ltb _ _ c.if-text-gt32768.false, sym c.in_ok-t.ensures.rows_after) (c.check_list.ensures ∙ whole _ _ _)
