use mathlib.Core.Path.{sym, ◌∙◌}
use borrow.Author.Rules.{rules}
use Rattle.gpt_string_values.proofs.Values.{factor-nothing, factor-kib, factor-mib, factor-gib, factor-other}
use Rattle.gpt_string_values.proofs.factor.Goals as goal

pub returns-then-is_empty : goal.returns-then-is_empty
returns-then-is_empty c = factor-nothing c.args.u.now (search rules)

pub returns-then-same : goal.returns-then-same
returns-then-same c = factor-kib c.args.u.now (sym c.same.ensures ∙ c.if-same.true)

pub returns-then-same-2 : goal.returns-then-same-2
returns-then-same-2 c = factor-mib c.args.u.now (sym c.same-else-same.ensures ∙ c.if-same-2.true)

pub returns-then-same-3 : goal.returns-then-same-3
returns-then-same-3 c = factor-gib c.args.u.now (sym c.same-else-same-2.ensures ∙ c.if-same-3.true)

pub returns-else-same-3 : goal.returns-else-same-3
returns-else-same-3 c =
    factor-other c.args.u.now (search rules) (sym c.same.ensures ∙ c.if-same.false) (sym c.same-else-same.ensures ∙ c.if-same-2.false)
    (sym c.same-else-same-2.ensures ∙ c.if-same-3.false)
