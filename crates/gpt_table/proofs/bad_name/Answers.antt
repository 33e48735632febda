use Rattle.std.proofs.Common.{◌∙◌, rules}
use borrow.Author.Tests.{tests}
use Rattle.std.proofs.lemmas.Iterator.{YieldsList-from_slice}
use Rattle.std.proofs.lemmas.Iterator.Adapters.{YieldsList-from_skip_while}
use Rattle.std.proofs.lemmas.Iterator.Search.{any_from_yields_List}
use Rattle.gpt_table.proofs.Names.{nonzero, bad_name_is}
use Rattle.gpt_table.proofs.bad_name.Goals as goal

pub returns : goal.returns
returns c =
    let skipped = c.skip_while.ensures in
    let found = any_from_yields_List nonzero _ _ c.any.result c.any.ensures.ran
    (YieldsList-from_skip_while _ _ _ nonzero _ (λ x b q k. search (rules, tests)) (YieldsList-from_slice c.args.name.now cc) skipped.closure skipped.done_skipping)
    (λ x b q k. search (rules, tests)) in
    found ∙ bad_name_is c.args.name.now
