use Rattle.octets.specs.Bytes.{part}
use Rattle.guid.proofs.Text.{digits-copied}
use Rattle.guid.proofs.digits_in.Goals as goal

pub returns : goal.returns
unfolding part
returns c =
    digits-copied c.args.text.now c.told-text _ _ _ _ _
    c.copy.ensures
    c.copy-2.ensures
    c.copy-3.ensures
    c.copy-4.ensures
    c.copy-5.ensures
