use Rattle.std.proofs.Common.{tests, ◌∙◌, rules}
use Rattle.octets.proofs.Chains.{pairs_made}
use Rattle.fmap_rules.specs.Map.{area_of, good_places}
use Rattle.fmap_rules.proofs.none_cross.Goals as goal

pub returns : goal.returns
unfolding good_places
returns c = c.pairs.ensures (λ x y. good_places (area_of x) (area_of y)) (λ x y b k. search (rules, tests)) ∙ pairs_made area_of good_places c.args.areas.now
