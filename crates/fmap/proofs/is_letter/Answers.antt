use native.Mathlib.Omega.{arith}
use Rattle.fmap.proofs.Letters.{letter-bit}
use Rattle.fmap.proofs.is_letter.Goals as goal

pub returns : goal.returns
returns c = letter-bit c.args.b (omega arith)
