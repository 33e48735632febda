use Rattle.gpt_build.proofs.Places.{uneven-start, uneven-size}
use Rattle.gpt_build.proofs.request.Request.uneven.Goals as goal

pub returns-then-start-block-ne0 : goal.returns-then-start-block-ne0
returns-then-start-block-ne0 c =
    let a = c.args.self.now in
    rw c.block_size-block.ensures.0
    (uneven-start a.disk.shape a.wanted.size _ _ c.unwrap_or-start.ensures (rw c.block_size-block.ensures.0 at c.if-start-block-ne0.true))

pub returns-else-start-block-ne0 : goal.returns-else-start-block-ne0
returns-else-start-block-ne0 c =
    let a = c.args.self.now in
    rw c.block_size-block.ensures.0
    (uneven-size a.disk.shape a.wanted.size _ _ c.unwrap_or-start.ensures (rw c.block_size-block.ensures.0 at c.if-start-block-ne0.false))
