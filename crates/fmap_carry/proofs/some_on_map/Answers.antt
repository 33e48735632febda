use Rattle.std.proofs.Common.{tests, ◌∙◌, rules}
use Rattle.std.proofs.lemmas.Iterator.{YieldsList-from_slice}
use Rattle.std.proofs.lemmas.Iterator.Search.{any_from_yields_List}
use Rattle.octets.proofs.Chains.{any_list}
use Rattle.fmap_carry.specs.Moves.{covers}
use Rattle.fmap_carry.proofs.some_on_map.Goals as goal

pub returns : goal.returns
unfolding covers
returns c =
    let p = covers c.args.map in
    any_from_yields_List p _ _ _ c.any.ensures.ran (YieldsList-from_slice c.args.moves.now cc) (λ x b q k. search (rules, tests))
    ∙ any_list p c.args.moves.now
