use native.Mathlib.Omega.{arith}
use borrow.Author.Tests.{lt-ltb, le-ltb}
use Rattle.guid.specs.Hex.{hex_digit_of}
use Rattle.guid.proofs.digit.Goals as goal

pub returns-then-n-lt10 : goal.returns-then-n-lt10
unfolding hex_digit_of
returns-then-n-lt10 c = rw (lt-ltb c.args.n 10 c.if-n-lt10.true)

pub returns-else-n-lt10 : goal.returns-else-n-lt10
unfolding hex_digit_of
returns-else-n-lt10 c = rw (le-ltb c.args.n 10 c.if-n-lt10.false) (omega arith)
