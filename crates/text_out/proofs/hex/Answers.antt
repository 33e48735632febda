use mathlib.Core.Path.{ap, ◌∙◌}
use native.Mathlib.Omega.{arith}
use lib.ListN.{length}
use Rattle.text_out.proofs.Digits.{hex-is, length-hex}
use Rattle.text_out.proofs.Puts.{puts-as}
use Rattle.text_out.proofs.hex.Goals as goal

pub bytes-requires : goal.bytes-requires
bytes-requires c =
    let top = c in
    let h = c.hex-k in
    let e = hex-is _ _ _ _ (top.requires.0, top.requires.1, top.requires.2) h.ensures.len h.ensures.digits in
    let l = ap length e ∙ length-hex _ _ in
    omega (arith, l, top.requires.3)

pub returns : goal.returns
returns c =
    let top = c in
    let h = c.hex-k in
    puts-as _ _ _ _ _ _ (hex-is _ _ _ _ (top.requires.0, top.requires.1, top.requires.2) h.ensures.len h.ensures.digits) c.bytes.ensures
