use Rattle.std.proofs.Common.{◌∙◌}
use Rattle.octets.proofs.LowFirst.{le-is}
use Rattle.octets.proofs.U64Stored8.to_bytes.Goals as goal

pub returns : goal.returns
returns c = c.to_le_bytes.ensures ∙ le-is 8 c.args.self
