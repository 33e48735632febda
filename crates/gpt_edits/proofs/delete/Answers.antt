use mathlib.Core.Path.{refl}
use native.Mathlib.Omega.{arith}
use Rattle.gpt_checks.proofs.Judged.{edit-facts}
use Rattle.gpt_edits.proofs.Outcomes.{same_tables, edit-made, delete-slot}
use Rattle.gpt_model.specs.Calls.{delete}
use Rattle.octets.specs.Bytes.{zeros}
use Rattle.gpt_edits.proofs.delete.Goals as goal

pub overflow_sub-slot : goal.overflow_sub-slot
overflow_sub-slot c =
    let a = c.args in
    omega (arith, (delete-slot a.disk.shape a.disk.n a.head.now a.tail.now a.slot c.requires).0)

pub put_both-requires : goal.put_both-requires
put_both-requires c =
    let a = c.args in
    let o = edit-facts a.disk.shape a.disk.n a.head.now a.tail.now (delete a.slot) c.requires in
    let k = delete-slot a.disk.shape a.disk.n a.head.now a.tail.now a.slot c.requires in (
      o.head,
      o.tail,
      omega arith,
      same_tables a.disk.shape a.disk.n a.head.now a.tail.now (delete a.slot) c.requires,
    )

pub returns : goal.returns
unfolding zeros
returns c =
    let a = c.args in
    edit-made a.disk.shape a.disk.n a.head.now a.tail.now (delete a.slot) c.requires _ _ _ refl c.put_both.ensures.0 c.put_both.ensures.1
