use Rattle.std.proofs.Common.{◌∙◌}
use Rattle.octets.proofs.LowFirst.{unle-2}
use Rattle.octets.proofs.U16Stored2.from_bytes.Goals as goal

pub returns : goal.returns
returns c = c.from_le_bytes.ensures ∙ unle-2 c.args.bytes.now c.told-bytes
