use Rattle.std.proofs.Common.{◌∙◌}
use Rattle.octets.proofs.Equal.{same-pointwise}
use Rattle.octets.proofs.is_equal.Goals as goal

pub returns : goal.returns
returns c = c.eq.ensures ∙ same-pointwise c.args.a.now c.args.b.now
