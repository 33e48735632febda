use Rattle.std.proofs.Common.{sym, ap, ◌∙◌, List}
use Rattle.std.proofs.lemmas.Result.{err_from_is_err_and}
use Rattle.fmap_rules.specs.declared.Area.{Area}
use Rattle.fmap.specs.Areas.{area_by, area_in, area_numbered}
use Rattle.fmap.proofs.area.Goals as goal

pub returns-in_err-found_areas : goal.returns-in_err-found_areas
unfolding area_numbered
returns-in_err-found_areas c =
    let p = err_from_is_err_and c.from_residual.result c.from_residual.ensures.1 in
    rw (p.1, p.2) (ap (area_by c.args.image.now (λ areas. c.args.k)) (sym c.in_err-found_areas.ensures))

pub returns : goal.returns
unfolding area_numbered
returns c =
    let w = c.in_ok-found_areas.ensures in
    c.area_in.ensures ∙ ap (λ (l : List Area). area_in l c.args.k) w.2 ∙ ap (area_by c.args.image.now (λ areas. c.args.k)) (sym w.1)
