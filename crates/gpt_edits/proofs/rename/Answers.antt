use mathlib.Core.List.{List, []}
use mathlib.Core.Path.{ap}
use Prim.Native.Nat.{ℕ, ◌-◌}
use lib.ListN.{get_or}
use native.Mathlib.Omega.{arith}
use Rattle.gpt_checks.proofs.Judged.{edit-facts}
use Rattle.gpt_edits.proofs.Outcomes.{same_tables, edit-made, rename-slot, renamed-is}
use Rattle.gpt_model.specs.Calls.{rename}
use Rattle.gpt_edits.proofs.rename.Goals as goal

pub overflow_sub-i : goal.overflow_sub-i
overflow_sub-i c =
    let a = c.args in
    omega (arith, (rename-slot a.disk.shape a.disk.n a.head.now a.tail.now a.slot a.name.now c.requires).0)

pub table_in-requires : goal.table_in-requires
table_in-requires c =
    let a = c.args in
    ((edit-facts a.disk.shape a.disk.n a.head.now a.tail.now (rename a.slot a.name.now) c.requires).head, a.disk.fits.legal)

pub offset_bounds-as_table-i : goal.offset_bounds-as_table-i
offset_bounds-as_table-i c =
    let a = c.args in
    let k = rename-slot a.disk.shape a.disk.n a.head.now a.tail.now a.slot a.name.now c.requires in
    omega arith

pub bounds-as_table-i : goal.bounds-as_table-i
bounds-as_table-i c =
    let a = c.args in
    let k = rename-slot a.disk.shape a.disk.n a.head.now a.tail.now a.slot a.name.now c.requires in
    omega arith

pub put_both-requires : goal.put_both-requires
put_both-requires c =
    let a = c.args in
    let o = edit-facts a.disk.shape a.disk.n a.head.now a.tail.now (rename a.slot a.name.now) c.requires in
    let k = rename-slot a.disk.shape a.disk.n a.head.now a.tail.now a.slot a.name.now c.requires in (
      o.head,
      o.tail,
      omega arith,
      same_tables a.disk.shape a.disk.n a.head.now a.tail.now (rename a.slot a.name.now) c.requires,
    )

pub returns : goal.returns
returns c =
    let a = c.args in
    edit-made a.disk.shape a.disk.n a.head.now a.tail.now (rename a.slot a.name.now) c.requires _ _ _
    (renamed-is a.disk.shape a.disk.n a.head.now a.tail.now a.slot _ _ c.table_in.ensures (ap (λ (es : List (List ℕ)). get_or es (a.slot - 1) []) c.as_table.ensures) _ a.name.now c.renamed-new.ensures.0)
    c.put_both.ensures.0 c.put_both.ensures.1
