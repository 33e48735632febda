use Rattle.std.proofs.Common.{sym, ap, ◌∙◌, map}
use Rattle.fmap_rules.specs.Map.{area_of}
use Rattle.fmap.specs.Areas.{called, area_in}
use Rattle.fmap.proofs.Reading.{area-none, place-none, place-some}
use Rattle.fmap.proofs.area_called.Goals as goal

pub returns-in_err-find_called : goal.returns-in_err-find_called
returns-in_err-find_called c =
    let areas = map area_of c.args.areas.now in
    rw c.from_residual.ensures (area-none areas _ (place-none (called c.args.name.now) areas (sym c.in_err-find_called.ensures)))

pub returns : goal.returns
returns c =
    let areas = map area_of c.args.areas.now in
    c.area_in.ensures ∙ ap (area_in areas) (sym (place-some (called c.args.name.now) areas _ (sym c.in_ok-find_called.ensures)).0)
