use mathlib.Core.Path.{ap}
use native.Mathlib.Omega.{arith}
use lib.ListN.{length}
use Rattle.text_out.proofs.Digits.{decimal-is, length-decimal}
use Rattle.text_out.proofs.Puts.{puts-as}
use Rattle.text_out.proofs.decimal.Goals as goal

pub bytes-requires : goal.bytes-requires
bytes-requires c =
    let top = c in
    let h = c.decimal-k in
    let l = ap length (decimal-is _ _ _ top.requires.0 h.ensures.len h.ensures.digits) in
    omega (arith, l, length-decimal top.args.n, top.requires.1)

pub returns : goal.returns
returns c =
    let top = c in
    let h = c.decimal-k in
    puts-as _ _ _ _ _ _ (decimal-is _ _ _ top.requires.0 h.ensures.len h.ensures.digits) c.bytes.ensures
