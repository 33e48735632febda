use Rattle.std.proofs.Common.{sym, ◌∙◌}
use Rattle.std.proofs.lemmas.Result.{err_from_is_err_and}
use Rattle.fmap.proofs.Places.{fault-40, fault-looked}
use Rattle.fmap.proofs.fault_at.Goals as goal

pub returns-then-is_out_of_range : goal.returns-then-is_out_of_range
returns-then-is_out_of_range c = fault-40 _ _ (sym c.is_out_of_range.ensures ∙ c.if-is_out_of_range.true)

pub returns-in_err-judge : goal.returns-in_err-judge
returns-in_err-judge c =
    let p = err_from_is_err_and c.from_residual.result c.from_residual.ensures.1 in
    rw (p.1, p.2) (fault-looked c.args.image.now c.args.at.0 (sym c.is_out_of_range.ensures ∙ c.if-is_out_of_range.false) _ c.in_err-judge.ensures)

pub returns : goal.returns
returns c = fault-looked c.args.image.now c.args.at.0 (sym c.is_out_of_range.ensures ∙ c.if-is_out_of_range.false) _ c.in_ok-judge.ensures
