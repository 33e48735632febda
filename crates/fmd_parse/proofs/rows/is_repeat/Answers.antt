use mathlib.Core.Path.{sym, ◌∙◌}
use native.Mathlib.Omega.{arith}
use Rattle.fmd_parse.proofs.RowLoops.{among-start, among-on, among-stop, among-done, name-inside}
use Rattle.fmd_parse.proofs.rows.is_repeat.Goals as goal

pub loop-j-init : goal.loop-j-init
loop-j-init c = among-start _ _ _ _ c.row_at-h.ensures c.requires.2

pub same_name-requires : goal.same_name-requires
same_name-requires c = (
  name-inside _ _ c.args.text.now c.requires.1 _ c.row_at.ensures (omega arith),
  name-inside _ _ c.args.text.now c.requires.1 _ c.row_at-h.ensures c.requires.2,
)

pub returns-then-same_name : goal.returns-then-same_name
returns-then-same_name c =
    among-stop _ _ _ _ c.row_at-h.ensures c.requires.2 _ c.row_at.ensures c.loop-j-test.true (sym c.same_name.ensures ∙ c.if-same_name.true)
    ∙ c.loop-j.invariant

pub loop-j-preserved : goal.loop-j-preserved
loop-j-preserved c =
    among-on _ _ _ _ c.row_at-h.ensures c.requires.2 _ c.row_at.ensures c.loop-j-test.true (sym c.same_name.ensures ∙ c.if-same_name.false)
    ∙ c.loop-j.invariant

pub returns : goal.returns
returns c = among-done _ _ _ _ c.row_at-h.ensures c.requires.2 _ c.loop-j-test.false ∙ c.loop-j.invariant
