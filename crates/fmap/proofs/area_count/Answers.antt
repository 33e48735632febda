use Rattle.std.proofs.Common.{sym, ap, ◌∙◌, length, List}
use Rattle.std.proofs.lemmas.Result.{err_from_is_err_and}
use lib.ListN.{length-map}
use Rattle.fmap_rules.specs.declared.Area.{Area}
use Rattle.fmap_rules.specs.Map.{area_of}
use Rattle.fmap.specs.Find.{accepted}
use Rattle.fmap.specs.Areas.{count_by, count_areas}
use Rattle.fmap.proofs.area_count.Goals as goal

pub returns-in_err-found_areas : goal.returns-in_err-found_areas
unfolding count_areas
returns-in_err-found_areas c =
    let p = err_from_is_err_and c.from_residual.result c.from_residual.ensures.1 in
    rw (p.1, p.2) (ap (count_by c.args.image.now) (sym c.in_err-found_areas.ensures))

pub returns : goal.returns
unfolding count_areas
returns c =
    let w = c.in_ok-found_areas.ensures in
    ap accepted (sym (length-map c.in_ok-found_areas.field-0.now area_of)) ∙ ap (λ (l : List Area). accepted (length l)) w.2 ∙ ap (count_by c.args.image.now) (sym w.1)
