use Rattle.std.proofs.Common.{◌∙◌}
use Rattle.octets.proofs.LowFirst.{le-is}
use Rattle.octets.proofs.U32Stored4.to_bytes.Goals as goal

pub returns : goal.returns
returns c = c.to_le_bytes.ensures ∙ le-is 4 c.args.self
