use mathlib.Core.Path.{◌∙◌}
use mathlib.Core.List.{map}
use Rattle.gpt_model.specs.Table.{range_of}
use Rattle.gpt_room.proofs.Walks.{free-ranges, place_same}
use Rattle.gpt_room.proofs.lowest.Goals as goal

pub returns : goal.returns
returns c =
    let a = c.args in
    let free = free-ranges a.t.now c.ranges-ranges.ensures in
    c.search.ensures ∙ place_same _ (map range_of a.t.now) free a.last.0 a.first.0 a.size a.alignment
