use native.Mathlib.Omega.{arith}
use Rattle.text_out.proofs.Digits.{length-hex}
use Rattle.fmd_lines.proofs.Lines.{hex-field-put}
use Rattle.fmd_lines.proofs.hex_field.Goals as goal

pub bytes-requires : goal.bytes-requires
bytes-requires c =
    omega (arith, c.hex-a.ensures.0, length-hex c.args.width c.args.n, c.requires)

pub returns : goal.returns
returns c =
    hex-field-put _ _ _ _ _ _ _ _ c.hex-a.ensures c.bytes.ensures
