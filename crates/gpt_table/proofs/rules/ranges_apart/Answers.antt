use Rattle.std.proofs.Common.{ltb, rules}
use borrow.Author.Tests.{tests}
use Rattle.gpt_table.specs.declared.order.Range.{Range}
use Rattle.std.proofs.lemmas.List.Sorted.{answers_always}
use Rattle.gpt_table.proofs.Good.{ranges-in_order}
use Rattle.gpt_table.proofs.rules.ranges_apart.Goals as goal

pub returns : goal.returns
returns c =
    ranges-in_order c.args.t.now c.requires c.ranges-ranges.ensures c.is_sorted_by.result
    (c.is_sorted_by.ensures.cases (λ (a b : Range). ltb a.last.0 b.first.0) (answers_always _ _ _ (λ f a r g k. search (rules, tests))))
