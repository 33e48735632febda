use Rattle.std.proofs.Common.{tests, ◌∙◌, rules, length}
use Rattle.std.proofs.lemmas.Iterator.{YieldsList-from_slice}
use Rattle.std.proofs.lemmas.Iterator.Search.{any_from_yields_List}
use Rattle.octets.proofs.Chains.{any_made}
use Rattle.fmap_rules.specs.Map.{area_of, holds_map}
use Rattle.fmap_rules.proofs.some_holder.Goals as goal

pub returns : goal.returns
unfolding area_of
returns c =
    let p = holds_map c.args.at.0 (length c.args.areas.now) in
    any_from_yields_List (λ x. p (area_of x)) _ _ _ c.any.ensures.ran (YieldsList-from_slice c.args.areas.now cc) (λ x b q k. search (rules, tests))
    ∙ any_made area_of p c.args.areas.now
