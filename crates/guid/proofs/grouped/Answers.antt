use Rattle.octets.specs.Bytes.{part}
use Rattle.guid.proofs.Text.{groups-copied}
use Rattle.guid.proofs.grouped.Goals as goal

pub returns : goal.returns
unfolding part
returns c =
    groups-copied c.args.digits.now c.told-digits _ _ _ _ _
    c.copy.ensures
    c.copy-2.ensures
    c.copy-3.ensures
    c.copy-4.ensures
    c.copy-5.ensures
