use Rattle.std.proofs.Common.{tests, ◌∙◌, rules}
use Rattle.std.proofs.lemmas.Iterator.{YieldsList-from_slice}
use Rattle.std.proofs.lemmas.Iterator.Search.{any_from_yields_List}
use Rattle.octets.proofs.Chains.{any_made}
use Rattle.fmap_rules.specs.Map.{area_of, ends_past}
use Rattle.fmap_rules.proofs.some_past.Goals as goal

pub returns : goal.returns
unfolding ends_past
returns c =
    let p = ends_past c.args.len in
    any_from_yields_List (λ x. p (area_of x)) _ _ _ c.any.ensures.ran (YieldsList-from_slice c.args.areas.now cc) (λ x b q k. search (rules, tests))
    ∙ any_made area_of p c.args.areas.now
