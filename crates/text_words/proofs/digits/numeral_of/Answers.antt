use mathlib.Core.Path.{◌∙◌}
use native.Mathlib.Omega.{arith}
use Rattle.text_words.proofs.Numerals.{num-none, num-plain, num-zero, num-hex, num-before}
use Rattle.text_words.proofs.digits.numeral_of.Goals as goal

pub returns-in-empty : goal.returns-in-empty
returns-in-empty c = num-none _ c.args.w.now (omega arith)

pub returns-in-48 : goal.returns-in-48
returns-in-48 c = c.some_digits.ensures ∙ num-hex _ c.args.w.now (omega arith) (omega arith) (omega arith)

pub returns-in-48-2 : goal.returns-in-48-2
returns-in-48-2 c = num-zero _ c.args.w.now (omega arith) (omega arith)

pub returns-in-48-2-2 : goal.returns-in-48-2-2
returns-in-48-2-2 c = num-before _ c.args.w.now (omega arith) (omega arith) (λ e. omega (arith, e))

pub returns-in_default : goal.returns-in_default
returns-in_default c = c.some_digits-in_default.ensures ∙ num-plain _ c.args.w.now (λ e. grind (arith, e)) (λ e. grind (arith, e))
