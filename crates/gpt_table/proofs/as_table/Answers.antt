use Rattle.std.proofs.Common.{◌∙◌}
use Rattle.gpt_table.proofs.Entries.{entries_are}
use Rattle.gpt_table.proofs.as_table.Goals as goal

pub returns : goal.returns
returns c =
    let w = rw c.unwrap.ensures at c.as_array.ensures.cases in
    w.same ∙ c.as_chunks.ensures.front ∙ entries_are c.args.bytes.now c.requires
