use Rattle.std.proofs.Common.{◌≡◌, ◌∙◌, sym, ap, length, position, unwrap_or, Option, ℕ, rules, arith}
use borrow.Author.Tests.{tests}
use Rattle.std.proofs.lemmas.Iterator.{YieldsList-from_slice}
use Rattle.std.proofs.lemmas.Iterator.Search.{position_from_yields_List}
use Rattle.octets.proofs.Chains.{place_list, place_or, place_within}
use Rattle.gpt_room.proofs.Looks.{reaching, next_is}
use Rattle.gpt_room.proofs.Walk.next.Goals as goal

pub returns : goal.returns
returns c =
    let a = c.args in
    let test = reaching a.a.0 in
    let rest = a.rest.now in
    let found : c.position.result ≡ position test rest =
    position_from_yields_List test _ _ c.position.result c.position.ensures.ran (YieldsList-from_slice rest cc) (λ x b q k. search (rules, tests)) in
    let passed = c.unwrap_or-passed.ensures ∙ ap (λ (o : Option ℕ). unwrap_or o (length rest)) found ∙ place_or test rest in
    let within = place_within test rest in
    next_is c.requires _ (passed ∙ sym (place_list test rest)) (omega arith)
