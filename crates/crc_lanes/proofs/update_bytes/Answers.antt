use Rattle.std.proofs.Common.{◌≡◌, ◌∙◌, rules}
use Rattle.std.specs.List.{fold}
use Rattle.crc_lanes.specs.Crc.{crc_byte}
use Rattle.crc_lanes.proofs.Parts.{update-fold}
use Rattle.crc_lanes.proofs.update_bytes.Goals as goal

pub returns : goal.returns
returns c =
    let e : c.fold.result ≡ fold crc_byte c.args.state c.args.s.now = search rules in
    e ∙ update-fold c.args.s.now c.args.state
