use mathlib.Core.Bool.{not}
use mathlib.Core.Path.{sym, ap, ◌∙◌}
use Rattle.octets.specs.Bytes.{part}
use Rattle.gpt_model.specs.Table.{bounded}
use Rattle.gpt_model.proofs.Entries.{unused-ok}
use Rattle.gpt_table.specs.Invariants.{blocks_of}
use Rattle.gpt_table.specs.declared.order.Range.{Range}
use Rattle.gpt_table.proofs.Good.{ok-unique, ok-range}
use Rattle.gpt_table.proofs.rules.entry_ok.Goals as goal

pub returns-then-is_unused : goal.returns-then-is_unused
returns-then-is_unused c = c.if-is_unused.true ∙ sym (unused-ok _ _ _ (sym c.is_unused.ensures ∙ c.if-is_unused.true))

pub returns-then-not-is_zero : goal.returns-then-not-is_zero
unfolding part
returns-then-not-is_zero c =
    let a = c.args in
    c.bounded.ensures ∙ ap (λ (r : Range). bounded a.first.0 a.last.0 (blocks_of r)) c.from_entry.ensures
    ∙ sym (ok-range a.first.0 a.last.0 a.e.now (sym c.is_unused.ensures ∙ c.if-is_unused.false) (sym c.is_zero.ensures ∙ c.if-not-is_zero.true))

pub returns-else-not-is_zero : goal.returns-else-not-is_zero
unfolding part
returns-else-not-is_zero c =
    ap not c.if-not-is_zero.false
    ∙ sym (ok-unique _ _ _ (sym c.is_unused.ensures ∙ c.if-is_unused.false) (sym c.is_zero.ensures ∙ c.if-not-is_zero.false))
