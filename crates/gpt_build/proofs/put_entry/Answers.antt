use mathlib.Core.Path.{◌∙◌}
use native.Mathlib.Omega.{arith}
use borrow.Author.Rules.{rules}
use Rattle.gpt_table.proofs.Entries.{lowest_is, lowest-some, some-lower}
use Rattle.gpt_build.proofs.Places.{entry_at}
use Rattle.gpt_build.proofs.put_entry.Goals as goal

pub unwrap-i-requires : goal.unwrap-i-requires
unwrap-i-requires c = lowest-some _ c.as_table.ensures c.first_unused.ensures (some-lower c.args.table.now c.requires.0)

pub overflow_mul-i : goal.overflow_mul-i
overflow_mul-i c =
    let i = lowest_is _ c.as_table.ensures c.first_unused.ensures c.unwrap-i.ensures in
    omega (arith, c.requires.0)

pub copy-requires : goal.copy-requires
copy-requires c =
    let i = lowest_is _ c.as_table.ensures c.first_unused.ensures c.unwrap-i.ensures in
    omega (arith, c.requires.0, c.added-e.ensures.1)

pub returns : goal.returns
returns c =
    c.copy.ensures
    ∙ entry_at c.args.table.now (search rules) _ _ _ (lowest_is _ c.as_table.ensures c.first_unused.ensures c.unwrap-i.ensures) c.requires.0 c.added-e.ensures.0 c.added-e.ensures.1
