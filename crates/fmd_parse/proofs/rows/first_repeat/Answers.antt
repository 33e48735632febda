use mathlib.Core.Path.{sym, ◌∙◌}
use native.Mathlib.Omega.{arith}
use Rattle.fmd_parse.specs.Rows.{first_repeat}
use Rattle.fmd_parse.proofs.RowLoops.{first-start, first_on, first-stop, first_done}
use Rattle.fmd_parse.proofs.Keys.{none_seen, seen-mark}
use borrow.Author.Rules.{rules}
use Rattle.fmd_parse.proofs.rows.first_repeat.Goals as goal

pub loop-k-init : goal.loop-k-init
unfolding first_repeat
loop-k-init c = (search rules, none_seen _ _ _, first-start _ _ _)

pub returns-then-repeats_seen : goal.returns-then-repeats_seen
returns-then-repeats_seen c =
    first-stop _ _ _ c.loop-k-test.true (sym c.repeats_seen.ensures ∙ c.if-repeats_seen.true) ∙ c.loop-k.invariant.2

pub loop-k-preserved : goal.loop-k-preserved
loop-k-preserved c =
    let v = c.loop-k.invariant in
    let e = c.key_at-key.ensures in (
      search rules,
      seen-mark _ _ _ _ v.1 _ e.0 (omega (arith, e.1, v.0)),
      first_on _ _ _ c.loop-k-test.true (sym c.repeats_seen.ensures ∙ c.if-repeats_seen.false) ∙ v.2,
    )

pub returns : goal.returns
returns c = first_done _ _ _ c.loop-k-test.false ∙ c.loop-k.invariant.2
