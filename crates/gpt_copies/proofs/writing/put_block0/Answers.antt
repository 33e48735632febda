use Rattle.gpt_copies.proofs.Writes.{block0-put}
use Rattle.gpt_copies.proofs.writing.put_block0.Goals as goal

pub returns-in-Primary : goal.returns-in-Primary
returns-in-Primary c =
    let w = block0-put c.args.disk.n c.args.b.now _ _ _ _ c.copy.ensures c.store.ensures c.store-in-Primary.ensures c.copy-in-Primary.ensures in rw c.in-Primary.is w
