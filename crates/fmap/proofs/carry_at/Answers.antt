use Rattle.std.proofs.Common.{sym, ◌∙◌}
use Rattle.std.proofs.lemmas.Result.{err_from_is_err_and}
use Rattle.fmap.proofs.Places.{old-stops, new-stops, good-there, both-stand}
use Rattle.fmap.proofs.carry_at.Goals as goal

pub returns-in_err-stands_at : goal.returns-in_err-stands_at
returns-in_err-stands_at c =
    let p = err_from_is_err_and c.from_residual.result c.from_residual.ensures.1 in
    rw (p.1, p.2) (old-stops _ _ _ _ _ c.in_err-stands_at.ensures)

pub returns-in_err-stands_at-2 : goal.returns-in_err-stands_at-2
returns-in_err-stands_at-2 c =
    let p = err_from_is_err_and c.from_residual-in_err-stands_at-2.result c.from_residual-in_err-stands_at-2.ensures.1 in
    rw (p.1, p.2) (new-stops _ _ _ _ (sym c.in_ok-stands_at.ensures) _ c.in_err-stands_at-2.ensures)

pub carry_by-requires : goal.carry_by-requires
carry_by-requires c = (good-there _ _ (sym c.in_ok-stands_at.ensures), good-there _ _ (sym c.in_ok-stands_at-2.ensures))

pub returns-in_err-carry_by : goal.returns-in_err-carry_by
returns-in_err-carry_by c =
    let p = err_from_is_err_and c.from_residual-in_err-carry_by.result c.from_residual-in_err-carry_by.ensures.1 in
    rw (p.1, p.2) (c.in_err-carry_by.ensures ∙ both-stand _ _ _ _ (sym c.in_ok-stands_at.ensures) (sym c.in_ok-stands_at-2.ensures))

pub returns : goal.returns
returns c = c.in_ok-carry_by.ensures ∙ both-stand _ _ _ _ (sym c.in_ok-stands_at.ensures) (sym c.in_ok-stands_at-2.ensures)
