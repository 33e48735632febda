use mathlib.Core.Path.{sym, ap, ◌∙◌}
use borrow.Author.Rules.{rules}
use lib.ListN.{length}
use mathlib.Core.Path.{◌≡◌}
use Rattle.octets.specs.Tests.{all}
use Rattle.gpt_string_model.specs.Text.{is_partition}
use Rattle.gpt_string_model.proofs.Reading.{parts-nil}
use Rattle.gpt_string_text.proofs.Taken.{next-wrong, next-right}
use Rattle.gpt_string_text.proofs.all_partitions.Goals as goal

pub returns-then-is_none : goal.returns-then-is_none
returns-then-is_none c =
    sym (next-wrong c.loop-rest.rest.now _ _ c.cut.ensures.before c.cut.ensures.behind (search rules) _ c.partition.ensures
    (search rules)) ∙ c.loop-rest.invariant

pub loop-rest-preserved : goal.loop-rest-preserved
loop-rest-preserved c =
    sym (next-right c.loop-rest.rest.now _ _ c.cut.ensures.before c.cut.ensures.behind (search rules) _ c.partition.ensures
    (search rules)) ∙ c.loop-rest.invariant

pub returns : goal.returns
returns c =
    let h : length c.loop-rest.rest.now ≡ 0 = search rules in
    sym (ap (all is_partition) (parts-nil c.loop-rest.rest.now h)) ∙ c.loop-rest.invariant
