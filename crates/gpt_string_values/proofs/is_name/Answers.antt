use mathlib.Core.Path.{sym, ◌∙◌}
use borrow.Author.Rules.{rules}
use borrow.Author.Tests.{tests}
use Rattle.std.proofs.lemmas.Iterator.{YieldsList-from_slice}
use Rattle.std.proofs.lemmas.Iterator.Search.{all_from_yields_List}
use Rattle.octets.proofs.Bools.{and-f, and-t}
use Rattle.octets.proofs.Chains.{all_list}
use Rattle.text_words.specs.Classes.{is_graphic}
use Rattle.gpt_string_model.specs.Text.{is_partition_name}
use Rattle.gpt_string_values.proofs.is_name.Goals as goal

pub returns-then-is_sized : goal.returns-then-is_sized
unfolding is_partition_name
returns-then-is_sized c =
    let all = all_from_yields_List is_graphic _ _ c.all.result c.all.ensures.ran (YieldsList-from_slice c.args.v.now cc) (λ x b q k. search (rules, tests)) in
    and-t (sym c.is_sized.ensures ∙ c.if-is_sized.true) (all ∙ all_list is_graphic c.args.v.now)

pub returns-else-is_sized : goal.returns-else-is_sized
unfolding is_partition_name
returns-else-is_sized c = c.if-is_sized.false ∙ and-f _ (sym c.is_sized.ensures ∙ c.if-is_sized.false)
