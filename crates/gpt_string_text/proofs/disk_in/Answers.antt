use mathlib.Core.Path.{◌∙◌}
use Rattle.octets.specs.Tests.{◌and◌}
use Rattle.gpt_string_text.proofs.disk_in.Goals as goal

pub returns-then-same : goal.returns-then-same
unfolding ◌and◌
returns-then-same c = c.guid_in.ensures ∙ rw (c.keyed.ensures.value, ← c.keyed.ensures.key, ← c.same.ensures, c.if-same.true)

pub returns-else-same : goal.returns-else-same
unfolding ◌and◌
returns-else-same c = rw (← c.keyed.ensures.key, ← c.same.ensures, c.if-same.false)
