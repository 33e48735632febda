use mathlib.Core.Path.{◌∙◌}
use Rattle.gpt_places.proofs.table_in.Goals as goal

pub returns : goal.returns
returns c =
    let whole = rw c.unwrap.ensures at c.as_array.ensures.cases in
    whole.same ∙ c.entries_in.ensures.0
