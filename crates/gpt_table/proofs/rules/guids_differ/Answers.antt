use Rattle.std.proofs.Common.{ℕ, ltb, rules}
use borrow.Author.Tests.{tests}
use Rattle.std.proofs.lemmas.List.Sorted.{answers_always, IsNonDecreasingBy-from_sort}
use Rattle.gpt_table.specs.Invariants.{used}
use Rattle.gpt_table.proofs.Good.{guids-in_order}
use Rattle.gpt_table.proofs.rules.guids_differ.Goals as goal

pub returns : goal.returns
returns c =
    let read = c.decode-count.ensures in
    let sorted = c.sort_unstable.ensures in
    guids-in_order (used c.args.t.now) read.whole c.sort_unstable.new.self (rw read.taken at sorted.permutation)
    (IsNonDecreasingBy-from_sort (λ (x : ℕ). x) _ sorted.sorted) c.is_sorted_by.result
    (c.is_sorted_by.ensures.cases (λ (x y : ℕ). ltb x y) (answers_always _ _ _ (λ f a r g k. search (rules, tests))))
