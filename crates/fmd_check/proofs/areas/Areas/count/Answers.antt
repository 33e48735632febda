use Rattle.fmd_check.proofs.Listed.{many}
use lib.ListN.{length}
use mathlib.Core.Path.{sym, ap, ◌∙◌}
use Rattle.fmd_check.proofs.areas.Areas.count.Goals as goal

pub returns : goal.returns
returns c = sym (many c.self.invariant) ∙ ap length c.self.view_is
