use mathlib.Core.Path.{ap, ◌∙◌}
use Rattle.octets.specs.Bytes.{le, put}
use Rattle.gpt_places.proofs.header.start.Goals as goal

pub returns : goal.returns
unfolding le
returns c =
    λ g. c.store-4.ensures
    ∙ ap (put 20 _) (c.store-3.ensures ∙ ap (put 16 _) (c.store-2.ensures ∙ ap (put 12 _) (c.store.ensures ∙ ap (put 8 _) c.copy.ensures)))
