use mathlib.Core.Path.{sym, ap₂, ◌∙◌}
use Rattle.octets.proofs.Equal.{same_true}
use Rattle.octets.specs.Bytes.{same}
use Rattle.gpt_copies.proofs.reading.state.Goals as goal

pub state_alike-requires : goal.state_alike-requires
state_alike-requires c =
    (c.requires.0, c.requires.1, sym c.table_in.ensures ∙ same_true _ _ (sym c.same.ensures ∙ c.if-same.true) ∙ c.table_in-2.ensures)

pub state_apart-requires : goal.state_apart-requires
state_apart-requires c =
    (c.requires.0, c.requires.1, ap₂ same (sym c.table_in.ensures) (sym c.table_in-2.ensures) ∙ sym c.same.ensures ∙ c.if-same.false)
