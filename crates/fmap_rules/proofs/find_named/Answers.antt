use Rattle.std.proofs.Common.{tests, ◌∙◌, rules}
use Rattle.std.proofs.lemmas.Iterator.{YieldsList-from_slice}
use Rattle.std.proofs.lemmas.Iterator.Search.{position_from_yields_List}
use Rattle.octets.proofs.Chains.{position_made}
use Rattle.fmap_rules.specs.Map.{area_of, named}
use Rattle.fmap_rules.proofs.find_named.Goals as goal

pub returns : goal.returns
unfolding named
returns c =
    let p = named c.args.name.now in
    let found = position_from_yields_List (λ x. p (area_of x)) _ _ _ c.position.ensures.ran (YieldsList-from_slice c.args.areas.now cc)
    (λ x b q k. search (rules, tests)) in
    found ∙ position_made area_of p c.args.areas.now
