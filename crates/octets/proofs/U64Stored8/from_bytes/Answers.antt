use Rattle.std.proofs.Common.{◌∙◌}
use Rattle.octets.proofs.LowFirst.{unle-8}
use Rattle.octets.proofs.U64Stored8.from_bytes.Goals as goal

pub returns : goal.returns
returns c = c.from_le_bytes.ensures ∙ unle-8 c.args.bytes.now c.told-bytes
