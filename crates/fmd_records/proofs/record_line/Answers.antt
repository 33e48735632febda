use Rattle.fmd_records.proofs.Shown.{record-put}
use Rattle.fmd_records.proofs.record_line.Goals as goal

pub returns : goal.returns
returns c =
    record-put c.args.s.now _ _ _ _ _ _ _ _ c.numbers-a.ensures c.name-b.ensures c.bytes.ensures
