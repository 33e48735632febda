use mathlib.Core.Path.{◌≡◌, ◌∙◌}
use lib.ListN.{length}
use native.Mathlib.Omega.{arith}
use borrow.Author.Rules.{rules}
use Rattle.fmd_lex.proofs.Tokens.{word_in, word_out, word-stop}
use Rattle.fmd_lex.proofs.word_end.Goals as goal

pub loop-i-preserved : goal.loop-i-preserved
loop-i-preserved c = word_in c.args.text.now c.loop-i.i (search rules) (search rules) ∙ c.loop-i.invariant

pub returns-then-not-is_word-clause-value : goal.returns-then-not-is_word-clause-value
returns-then-not-is_word-clause-value c = word_out c.args.text.now c.loop-i.i (search rules) (search rules) ∙ c.loop-i.invariant

pub returns-clause-value : goal.returns-clause-value
returns-clause-value c =
    let e : length c.args.text.now ≡ c.loop-i.i = omega arith in
    e ∙ word-stop c.args.text.now _ (omega arith) ∙ c.loop-i.invariant
