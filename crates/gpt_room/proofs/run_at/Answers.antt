use mathlib.Core.Path.{◌∙◌}
use Rattle.gpt_room.proofs.Walks.{free-ranges, run-same}
use Rattle.gpt_room.proofs.run_at.Goals as goal

pub returns : goal.returns
returns c =
    let a = c.args in
    let free = free-ranges a.t.now c.ranges-ranges.ensures in
    c.run.ensures ∙ run-same _ _ free a.last.0 a.a.0
