use mathlib.Core.Path.{◌≡◌, ◌∙◌}
use lib.ListN.{length}
use native.Mathlib.Omega.{arith}
use Rattle.fmd_lex.proofs.Tokens.{skip-lf, skip-comment, skip-hash, skip-blank, skip_stop, skip-end}
use borrow.Author.Rules.{rules}
use Rattle.fmd_lex.proofs.skip.Goals as goal
use Rattle.fmd_lex.proofs.skip.Goals.{then-comment+then-b-eq10, then-comment+else-b-eq10, else-comment+then-b-eq35, else-comment+else-b-eq35+else-not-is_blank}

pub returns-then-not-is_blank-clause-value : goal.returns-then-not-is_blank-clause-value
returns-then-not-is_blank-clause-value c = cc (skip_stop c.args.text.now c.loop-i.i (search rules) (search rules) c.if-b-eq35.false)

pub loop-i-preserved : goal.loop-i-preserved
loop-i-preserved c =
    let s = c.args.text.now in
    let i = c.loop-i.i in
    elim c.if-comment.branch [
      | then-comment+then-b-eq10 w ↦ cc (skip-lf s i (search rules) w.if-b-eq10.true)
      | then-comment+else-b-eq10 w ↦ cc (skip-comment s i (search rules) w.if-b-eq10.false)
      | else-comment+then-b-eq35 w ↦ cc (skip-hash s i (search rules) w.if-b-eq35.true)
      | else-comment+else-b-eq35+else-not-is_blank w ↦ cc (skip-blank s i (search rules) (search rules))
    ]

pub returns-clause-value : goal.returns-clause-value
returns-clause-value c =
    let e : length c.args.text.now ≡ c.loop-i.i = omega arith in
    e ∙ skip-end c.args.text.now _ c.loop-i.comment (omega arith) ∙ c.loop-i.invariant
