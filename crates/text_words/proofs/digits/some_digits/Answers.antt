use mathlib.Core.Path.{sym, ◌∙◌}
use native.Mathlib.Omega.{arith}
use Rattle.text_words.proofs.Numerals.{first_in, first_out, first_none}
use Rattle.text_words.proofs.digits.some_digits.Goals as goal

pub returns-in-len1-up : goal.returns-in-len1-up
returns-in-len1-up c =
    c.digits_from.ensures
    ∙ first_in c.args.w.now c.args.at c.args.most c.args.base c.in-len1-up.len_at_least c.digit.ensures (sym c.is_some.ensures ∙ c.if-is_some.true)

pub returns-in_default : goal.returns-in_default
returns-in_default c = first_none c.args.w.now c.args.at c.args.most c.args.base (omega (arith, c.in_default.len_below))

pub returns-in_default-2 : goal.returns-in_default-2
returns-in_default-2 c =
    first_out c.args.w.now c.args.at c.args.most c.args.base c.in-len1-up.len_at_least c.digit.ensures (sym c.is_some.ensures ∙ c.if-is_some.false)
