use Rattle.gpt_copies.proofs.Writes.{crc-changed}
use Rattle.gpt_copies.proofs.writing.crc_with.Goals as goal

pub returns : goal.returns
returns c =
    crc-changed c.args.table.now c.args.e.now c.args.i _ _ _ c.told-table c.requires c.told-e c.update-before.ensures c.update-with.ensures
    c.update.ensures
