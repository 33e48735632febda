use native.Mathlib.Omega.{arith}
use Rattle.fmd.proofs.Answers.{refusal-in-range}
use borrow.Author.Rules.{rules}
use Rattle.fmd_records.proofs.answer_line.Goals as goal

pub numbered-requires-in-Err : goal.numbered-requires-in-Err
numbered-requires-in-Err c = (rw c.number.ensures (rw c.in-Err.is (omega (arith, (refusal-in-range c.in-Err.field-0).1))), search rules)
