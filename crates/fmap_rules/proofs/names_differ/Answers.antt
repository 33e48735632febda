use Rattle.std.proofs.Common.{tests, ◌∙◌, rules}
use Rattle.octets.proofs.Chains.{pairs_made}
use Rattle.fmap_rules.proofs.Signature.{pointwise-same}
use Rattle.fmap_rules.specs.Map.{area_of, other_name, named}
use Rattle.fmap_rules.proofs.names_differ.Goals as goal

pub returns : goal.returns
unfolding other_name named
returns c = c.pairs.ensures (λ x y. other_name (area_of x) (area_of y)) (λ x y b k. search (rules, tests, pointwise-same)) ∙ pairs_made area_of other_name c.args.areas.now
