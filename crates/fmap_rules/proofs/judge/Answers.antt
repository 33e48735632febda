use Rattle.std.proofs.Common.{arith, sym, ◌∙◌}
use Rattle.std.proofs.lemmas.Result.{err_from_is_err_and}
use Rattle.octets.proofs.Parts.{rest-slice}
use Rattle.fmap_rules.proofs.Good.{past_end, by-header, by-areas, rows_fit}
use Rattle.fmap_rules.proofs.judge.Goals as goal

pub returns-in_default : goal.returns-in_default
returns-in_default c = past_end _ _ (omega (arith, c.in_default.ensures.lookup.0))

pub returns-in_err-judge_header : goal.returns-in_err-judge_header
returns-in_err-judge_header c =
    let p = err_from_is_err_and c.from_residual.result c.from_residual.ensures.1 in
    rw (p.1, p.2) (by-header c.args.image.now c.args.at.0 c.in-Some.m.now (c.in-Some.ensures.lookup.0.2 ∙ rest-slice _ _) _ c.in_err-judge_header.ensures)

pub areas_part-requires : goal.areas_part-requires
areas_part-requires c = (rows_fit _ _ (sym c.in_ok-judge_header.ensures)).whole

pub judge_areas-requires : goal.judge_areas-requires
judge_areas-requires c = omega (arith, c.areas_part.ensures.1, (rows_fit _ _ (sym c.in_ok-judge_header.ensures)).few)

pub returns : goal.returns
returns c = by-areas _ _ _ (c.in-Some.ensures.lookup.0.2 ∙ rest-slice _ _) _ c.in_ok-judge_header.ensures (rw (← c.areas_part.ensures.0) c.judge_areas.ensures)
