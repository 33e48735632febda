use Rattle.octets.specs.Bytes.{part, rest}
use Rattle.guid.specs.Text.{reordered}
use Rattle.guid.proofs.Text.{reordered-each}
use Rattle.guid.proofs.reordered.Goals as goal

pub returns : goal.returns
unfolding reordered part rest
returns c = reordered-each c.args.b.now c.told-b
