use mathlib.Core.Path.{refl}
use Rattle.gpt_places.proofs.Headers.{stored}
use Rattle.gpt_places.proofs.header.table.Goals as goal

pub returns : goal.returns
returns c =
    λ es p.
    stored 88 4 c.store-4.ensures p
    (stored 84 4 c.store-3.ensures refl
    (stored 80 4 c.store-2.ensures refl
    (stored 72 8 c.store.ensures c.entries_block.ensures c.copy.ensures)))
