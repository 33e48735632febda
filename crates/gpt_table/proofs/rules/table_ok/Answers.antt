use mathlib.Core.Path.{sym, ◌∙◌}
use Rattle.octets.proofs.Bools.{clash}
use Rattle.gpt_table.proofs.Good.{good-not, good-guids, good-ranges, none-empty}
use Rattle.gpt_table.proofs.rules.table_ok.Goals as goal
use Rattle.gpt_table.proofs.rules.table_ok.Goals.{then-entries_ok, else-entries_ok}

pub ranges_apart-requires : goal.ranges_apart-requires
ranges_apart-requires c =
    let a = c.args in
    elim c.if-entries_ok.branch [
      | then-entries_ok w ↦ none-empty a.first.0 a.last.0 a.t.now (sym c.entries_ok.ensures ∙ w.if-entries_ok.true)
      | else-entries_ok w ↦ absurd (clash c.if-guids_differ.true (w.value-is ∙ w.if-entries_ok.false))
    ]

pub returns-then-guids_differ : goal.returns-then-guids_differ
returns-then-guids_differ c =
    let a = c.args in
    elim c.if-entries_ok.branch [
      | then-entries_ok w ↦
          c.ranges_apart.ensures
          ∙ good-ranges a.first.0 a.last.0 a.t.now (sym c.entries_ok.ensures ∙ w.if-entries_ok.true)
          (sym w.guids_differ.ensures ∙ sym w.value-is ∙ c.if-guids_differ.true)
      | else-entries_ok w ↦ absurd (clash c.if-guids_differ.true (w.value-is ∙ w.if-entries_ok.false))
    ]

pub returns-else-guids_differ : goal.returns-else-guids_differ
returns-else-guids_differ c =
    let a = c.args in
    elim c.if-entries_ok.branch [
      | then-entries_ok w ↦
          c.if-guids_differ.false
          ∙ good-guids a.first.0 a.last.0 a.t.now (sym c.entries_ok.ensures ∙ w.if-entries_ok.true)
          (sym w.guids_differ.ensures ∙ sym w.value-is ∙ c.if-guids_differ.false)
      | else-entries_ok w ↦ c.if-guids_differ.false ∙ good-not a.first.0 a.last.0 a.t.now (sym c.entries_ok.ensures ∙ w.if-entries_ok.false)
    ]
