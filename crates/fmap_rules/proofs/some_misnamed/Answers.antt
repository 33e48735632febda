use Rattle.std.proofs.Common.{tests, ◌∙◌, rules}
use Rattle.std.proofs.lemmas.Iterator.{YieldsList-from_slice}
use Rattle.std.proofs.lemmas.Iterator.Search.{any_from_yields_List}
use Rattle.octets.proofs.Chains.{any_made}
use Rattle.fmap_rules.specs.Map.{area_of, misnamed}
use Rattle.fmap_rules.proofs.some_misnamed.Goals as goal

pub returns : goal.returns
unfolding misnamed
returns c =
    let p = misnamed in
    any_from_yields_List (λ x. p (area_of x)) _ _ _ c.any.ensures.ran (YieldsList-from_slice c.args.areas.now cc) (λ x b q k. search (rules, tests))
    ∙ any_made area_of p c.args.areas.now
