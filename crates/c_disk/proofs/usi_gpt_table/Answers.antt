use mathlib.Core.Path.{sym, ◌∙◌}
use Rattle.gpt_places.proofs.Shapes.{shape-legal}
use Rattle.c_disk.proofs.Effects.{gpt-tells, place-by, place_other}
use Rattle.c_disk.proofs.usi_gpt_table.Goals as goal

pub place-requires : goal.place-requires
place-requires c =
    shape-legal _ _ (sym c.shape_of.ensures ∙ c.in-Some.is)

pub returns-in-Some : goal.returns-in-Some
returns-in-Some c =
    let a = c.args in
    gpt-tells _ _ _ _ _ _ _ (place-by a.block a.n a.head.now a.tail.now _ (sym c.shape_of.ensures ∙ c.in-Some.is) _ c.read.ensures) (c.code.ensures ∙ c.place.ensures.code) c.place.ensures.values

pub returns-in-None : goal.returns-in-None
returns-in-None c =
    let a = c.args in
    rw c.number.ensures (place_other a.block a.n a.head.now a.tail.now _ (sym c.shape_of.ensures ∙ c.in-None.is))
