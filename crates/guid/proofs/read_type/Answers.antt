use Rattle.guid.specs.Types.{expand}
use Rattle.guid.proofs.Calls.{read_length}
use Rattle.guid.proofs.read_type.Goals as goal

pub returns-then-guid-ne16 : goal.returns-then-guid-ne16
returns-then-guid-ne16 c = read_length (expand c.args.text.now) c.args.guid.now c.if-guid-ne16.true
