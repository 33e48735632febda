use mathlib.Core.Path.{refl, ap, ◌∙◌}
use Rattle.gpt_model.specs.Disk.{Side, header_block}
use Rattle.gpt_places.proofs.Headers.{stored}
use Rattle.gpt_places.proofs.header.blocks.Goals as goal

pub returns : goal.returns
returns c =
    let other = c.header_block-other.ensures ∙ ap (λ (s : Side). header_block s c.args.disk.n) c.other.ensures in
    stored 48 8 c.store-4.ensures c.last_usable.ensures
    (stored 40 8 c.store-3.ensures c.first_usable.ensures
    (stored 32 8 c.store-2.ensures other
    (stored 24 8 c.store.ensures c.header_block-own.ensures refl)))
