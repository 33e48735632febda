use borrow.Author.Rules.{rules}
use native.Mathlib.Omega.{arith}
use Rattle.octets.specs.Tests.{◌or◌}
use Rattle.text_words.specs.Classes.{is_blank}
use Rattle.text_words.proofs.Classes.{blank_not}
use Rattle.text_words.proofs.is_blank.Goals as goal

pub returns-in-32 : goal.returns-in-32
unfolding is_blank ◌or◌
returns-in-32 c = search rules

pub returns-in-9 : goal.returns-in-9
unfolding is_blank ◌or◌
returns-in-9 c = search rules

pub returns-in-13 : goal.returns-in-13
unfolding is_blank ◌or◌
returns-in-13 c = search rules

pub returns-in-10 : goal.returns-in-10
unfolding is_blank ◌or◌
returns-in-10 c = search rules

pub returns-in_default : goal.returns-in_default
returns-in_default c = blank_not _ (λ e. omega (arith, e)) (λ e. omega (arith, e)) (λ e. omega (arith, e)) (λ e. omega (arith, e))
