use mathlib.Core.Path.{ap, ◌∙◌}
use mathlib.Core.List.{map}
use Prim.Native.Nat.{◌-◌}
use lib.Dec.{leb}
use lib.ListN.{set}
use Rattle.gpt_model.specs.Table.{range_of, no_blocks}
use Rattle.gpt_model.proofs.Longest.{room-run}
use Rattle.gpt_table.specs.declared.order.Range.{Range}
use Rattle.gpt_room.proofs.Walks.{free-but, room-same}
use Rattle.gpt_room.proofs.fits_at.Goals as goal

pub returns : goal.returns
returns c =
    let a = c.args in
    let free = free-but a.t.now (a.k - 1) c.ranges-ranges.ensures in
    ap (leb a.size) c.run.ensures ∙ room-run _ a.last.0 a.size _ c.requires.2
    ∙ room-same _ (set (map range_of a.t.now) (a.k - 1) no_blocks) free a.last.0 a.size (ap (λ (r : Range). r.first.0) c.from_entry.ensures)
