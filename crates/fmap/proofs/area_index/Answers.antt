use Rattle.std.proofs.Common.{sym, ap, ◌∙◌, List}
use Rattle.std.proofs.lemmas.Result.{err_from_is_err_and}
use Rattle.octets.specs.Tests.{find_ix}
use Rattle.fmap_rules.specs.declared.Area.{Area}
use Rattle.fmap.specs.Find.{accepted}
use Rattle.fmap.specs.Areas.{called, index_by, index_in, index_named}
use Rattle.fmap.proofs.area_index.Goals as goal

pub returns-in_err-found_areas : goal.returns-in_err-found_areas
unfolding index_named
returns-in_err-found_areas c =
    let p = err_from_is_err_and c.from_residual.result c.from_residual.ensures.1 in
    rw (p.1, p.2) (ap (index_by c.args.image.now (find_ix (called c.args.name.now))) (sym c.in_err-found_areas.ensures))

pub returns : goal.returns
unfolding index_named
returns c =
    let w = c.in_ok-found_areas.ensures in
    c.index_called.ensures ∙ ap (λ (l : List Area). accepted (index_in l (find_ix (called c.args.name.now) l))) w.2 ∙ ap (index_by c.args.image.now (find_ix (called c.args.name.now))) (sym w.1)
