use mathlib.Core.Path.{◌∙◌}
use Rattle.gpt_build.proofs.Places.{and_no, and_yes}
use Rattle.gpt_build.proofs.request.Request.reaches.Goals as goal

pub returns-then-self : goal.returns-then-self
returns-then-self c = and_yes _ _ c.if-self.true

pub returns-else-self : goal.returns-else-self
returns-else-self c = c.if-self.false ∙ and_no _ _ c.if-self.false
