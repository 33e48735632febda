use Rattle.gpt.proofs.Reading.{entries_of_reading}
use mathlib.Core.Path.{◌∙◌}
use Rattle.gpt.proofs.table.Goals as goal

pub returns : goal.returns
returns c =
    let a = c.args in
    c.entries.ensures ∙ entries_of_reading a.block a.n a.head.now a.tail.now a.head.ref_ptr a.tail.ref_ptr c.read.result
    c.read.ensures
