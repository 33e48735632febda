use Rattle.std.proofs.Common.{◌∙◌, rules}
use borrow.Author.Tests.{tests}
use Rattle.std.proofs.lemmas.Iterator.{YieldsList-from_slice}
use Rattle.std.proofs.lemmas.Iterator.Search.{all_from_yields_List}
use Rattle.octets.proofs.Chains.{all_list}
use Rattle.gpt_model.specs.Table.{entry_ok}
use Rattle.gpt_table.proofs.rules.entries_ok.Goals as goal

pub returns : goal.returns
returns c =
    let ok = entry_ok c.args.first.0 c.args.last.0 in
    let found = all_from_yields_List ok _ _ c.all.result c.all.ensures.ran (YieldsList-from_slice c.args.t.now cc) (λ x b q k. search (rules, tests)) in
    found ∙ all_list ok c.args.t.now
