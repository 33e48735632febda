use Rattle.std.proofs.Common.{◌∙◌, rules, tests}
use Rattle.std.proofs.lemmas.Iterator.{YieldsList-from_slice}
use Rattle.std.proofs.lemmas.Iterator.Search.{position_from_yields_List}
use Rattle.octets.proofs.Chains.{position_made}
use Rattle.fmap_rules.specs.Map.{area_of}
use Rattle.fmap.specs.Areas.{called}
use Rattle.fmap.proofs.find_called.Goals as goal

pub returns : goal.returns
returns c =
    let p = called c.args.name.now in
    position_from_yields_List (λ x. p (area_of x)) _ _ _ c.position.ensures.ran (YieldsList-from_slice c.args.areas.now cc) (λ x b q k. search (rules, tests))
    ∙ position_made area_of p c.args.areas.now
