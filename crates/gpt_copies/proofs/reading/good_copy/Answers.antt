use mathlib.Core.Path.{ap, ap₂, ◌∙◌}
use Prim.Native.Nat.{ℕ}
use Rattle.crc_lanes.specs.Crc.{crc32}
use Rattle.gpt_model.specs.Table.{good_table}
use Rattle.gpt_table.proofs.Good.{good_is}
use Rattle.gpt_places.specs.Sides.{side_of}
use Rattle.gpt_copies.proofs.Judged.{copy-table, bad-header}
use Rattle.gpt_copies.proofs.reading.good_copy.Goals as goal

pub good-requires : goal.good-requires
good-requires c =
    (c.requires, c.crc32.ensures ∙ ap crc32 c.table_in-table.ensures)

pub returns-else-good : goal.returns-else-good
returns-else-good c =
    rw c.if-good.false (bad-header c.args.disk.shape c.args.disk.n (side_of c.args.side) c.args.b.now _ c.good.ensures c.if-good.false)

pub returns-then-good : goal.returns-then-good
returns-then-good c =
    let w = c.table_ok.ensures ∙ good_is _ _ _ _ c.as_table.ensures ∙ ap₂ (λ (f l : ℕ). good_table f l c.table_in-table.result.now) c.first_usable.ensures c.last_usable.ensures in
    copy-table c.args.disk.shape c.args.disk.n (side_of c.args.side) c.args.b.now _ _ _ c.table_in-table.ensures c.good.ensures w c.if-good.true
