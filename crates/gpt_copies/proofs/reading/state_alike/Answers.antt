use mathlib.Core.Path.{ap, ap₂, ◌∙◌}
use Prim.Native.Nat.{ℕ}
use Rattle.octets.specs.Bytes.{same}
use Rattle.crc_lanes.specs.Crc.{crc32}
use Rattle.gpt_model.specs.Table.{good_table}
use Rattle.gpt_table.proofs.Good.{good_is}
use Rattle.gpt_copies.proofs.Judged.{state-alike, state-bad}
use Rattle.gpt_copies.proofs.reading.state_alike.Goals as goal

pub returns-then-not-table_ok : goal.returns-then-not-table_ok
returns-then-not-table_ok c =
    let w = c.table_ok.ensures ∙ good_is _ _ _ _ c.as_table.ensures ∙ ap₂ (λ (f l : ℕ). good_table f l c.table_in-table.result.now) c.first_usable.ensures c.last_usable.ensures in
    state-bad c.args.disk.shape c.args.disk.n c.args.head.now c.args.tail.now _ _ c.table_in-table.ensures (c.table_in-table.ensures ∙ c.requires.2) w
    c.if-not-table_ok.true

pub good-first-requires : goal.good-first-requires
good-first-requires c =
    (c.requires.0, c.crc32-crc.ensures ∙ ap crc32 c.table_in-table.ensures)

pub good-second-requires : goal.good-second-requires
good-second-requires c =
    (c.requires.1, c.crc32-crc.ensures ∙ ap crc32 (c.table_in-table.ensures ∙ c.requires.2))

pub returns : goal.returns
returns c =
    let w = c.table_ok.ensures ∙ good_is _ _ _ _ c.as_table.ensures ∙ ap₂ (λ (f l : ℕ). good_table f l c.table_in-table.result.now) c.first_usable.ensures c.last_usable.ensures in
    c.state_of.ensures
    ∙ state-alike c.args.disk.shape c.args.disk.n c.args.head.now c.args.tail.now _ _ c.table_in-table.ensures (c.table_in-table.ensures ∙ c.requires.2) w _ _ _
    c.if-not-table_ok.false c.good-first.ensures c.good-second.ensures (c.same-equal.ensures ∙ ap₂ same c.guid_in.ensures c.guid_in-2.ensures)
