use mathlib.Core.Path.{◌∙◌}
use Rattle.gpt_copies.proofs.Judged.{state-apart}
use Rattle.gpt_copies.proofs.reading.state_apart.Goals as goal

pub returns : goal.returns
returns c =
    c.state_of.ensures ∙ state-apart c.args.disk.shape c.args.disk.n c.args.head.now c.args.tail.now _ _ c.good_copy-first.ensures c.good_copy-second.ensures
    c.requires.2
