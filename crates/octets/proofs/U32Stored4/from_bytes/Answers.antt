use Rattle.std.proofs.Common.{◌∙◌}
use Rattle.octets.proofs.LowFirst.{unle-4}
use Rattle.octets.proofs.U32Stored4.from_bytes.Goals as goal

pub returns : goal.returns
returns c = c.from_le_bytes.ensures ∙ unle-4 c.args.bytes.now c.told-bytes
