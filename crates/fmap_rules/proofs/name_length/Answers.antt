use Rattle.std.proofs.Common.{tests, ℕ, Option, unwrap_or, length, ap, ◌∙◌, arith}
use Rattle.std.proofs.lemmas.Iterator.{YieldsList-from_slice}
use Rattle.std.proofs.lemmas.Iterator.Search.{position_from_yields_List}
use Rattle.octets.specs.Tests.{◌and◌}
use Rattle.octets.proofs.Chains.{place_or, place_within}
use Rattle.fmap_rules.specs.Map.{name_length, stops}
use borrow.Author.Rules.{rules}
use Rattle.fmap_rules.proofs.name_length.Goals as goal

pub returns : goal.returns
unfolding name_length stops ◌and◌
returns c =
    let n = c.args.n.now in
    let found = position_from_yields_List stops _ _ _ c.position.ensures.ran (YieldsList-from_slice n cc) (λ x b q k. search (rules, tests)) in
    let e = c.unwrap_or.ensures ∙ ap (λ (o : Option ℕ). unwrap_or o (length n)) found ∙ place_or stops n in
    (e, omega (arith, e, place_within stops n))
