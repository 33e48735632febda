use native.Mathlib.Omega.{arith}
use Rattle.gpt_checks.proofs.Judged.{edit-facts}
use Rattle.gpt_table.proofs.Entries.{lowest_is, lowest-some}
use Rattle.gpt_edits.proofs.Outcomes.{same_tables, edit-made, add-size, add-index, add_is, add-bound, some-slot}
use Rattle.gpt_model.specs.Calls.{add}
use Rattle.gpt_edits.proofs.add.Goals as goal

pub table_in-table-requires : goal.table_in-table-requires
table_in-table-requires c =
    let a = c.args in
    ((edit-facts a.disk.shape a.disk.n a.head.now a.tail.now (add a.p) c.requires.0).head, a.disk.fits.legal)

pub unwrap-i-requires : goal.unwrap-i-requires
unwrap-i-requires c =
    let a = c.args in
    lowest-some _ c.as_table.ensures c.first_unused.ensures
    (some-slot a.disk.shape a.disk.n a.head.now a.tail.now a.p c.requires.0 _ c.table_in-table.ensures)

pub added-new-requires : goal.added-new-requires
added-new-requires c =
    let a = c.args in
    (add-size a.disk.shape a.disk.n a.head.now a.tail.now a.p c.requires.0, add-bound a.disk.shape a.disk.n a.head.now a.tail.now a.p c.requires.0 _ c.requires.1)

pub put_both-requires : goal.put_both-requires
put_both-requires c =
    let a = c.args in
    let o = edit-facts a.disk.shape a.disk.n a.head.now a.tail.now (add a.p) c.requires.0 in (
      o.head,
      o.tail,
      add-index a.disk.shape a.disk.n a.head.now a.tail.now a.p c.requires.0 _ _ c.table_in-table.ensures (lowest_is _ c.as_table.ensures c.first_unused.ensures c.unwrap-i.ensures),
      same_tables a.disk.shape a.disk.n a.head.now a.tail.now (add a.p) c.requires.0,
    )

pub overflow_add-result : goal.overflow_add-result
overflow_add-result c =
    let a = c.args in
    let i = add-index a.disk.shape a.disk.n a.head.now a.tail.now a.p c.requires.0 _ _ c.table_in-table.ensures
    (lowest_is _ c.as_table.ensures c.first_unused.ensures c.unwrap-i.ensures) in
    omega arith

pub returns : goal.returns
returns c =
    let a = c.args in
    edit-made a.disk.shape a.disk.n a.head.now a.tail.now (add a.p) c.requires.0 _ _ _
    (add_is a.disk.shape a.disk.n a.head.now a.tail.now a.p c.requires.0 _ _ c.table_in-table.ensures (lowest_is _ c.as_table.ensures c.first_unused.ensures c.unwrap-i.ensures) _ _ c.requires.1 c.added-new.ensures.0)
    c.put_both.ensures.0 c.put_both.ensures.1
