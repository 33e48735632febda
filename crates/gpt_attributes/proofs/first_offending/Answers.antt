use Rattle.std.proofs.Common.{◌≡◌, ◌∙◌, ap, ℕ, ◌+◌, option_map, position, rules}
use borrow.Author.Tests.{tests}
use Rattle.std.proofs.lemmas.Iterator.{YieldsList-from_slice}
use Rattle.std.proofs.lemmas.Iterator.Search.{position_from_yields_List}
use Rattle.gpt_model.specs.Attributes.{used_offends}
use Rattle.gpt_attributes.proofs.first_offending.Goals as goal

pub returns : goal.returns
returns c =
    let test = used_offends c.args.rule in
    let found : c.position.result ≡ position test c.args.t.now =
    position_from_yields_List test _ _ c.position.result c.position.ensures.ran (YieldsList-from_slice c.args.t.now cc) (λ x b q k. search (rules, tests)) in
    let made : c.map.result ≡ option_map (λ i. i + 1) c.position.result = search rules in
    made ∙ ap (option_map (λ (i : ℕ). i + 1)) found
