use native.Mathlib.Omega.{arith}
use Rattle.text_out.proofs.Digits.{length-hex}
use Rattle.fmd_lines.proofs.Lines.{image-put}
use Rattle.fmd_lines.proofs.image_line.Goals as goal

pub bytes-requires : goal.bytes-requires
bytes-requires c =
    omega
    (arith, c.name-a.ensures.0, c.bytes-b.ensures.0, c.hex_field-c.ensures.0, c.hex-d.ensures.0, length-hex 16 c.args.i.now.address, c.requires)

pub returns : goal.returns
returns c =
    image-put c.args.i.now _ _ _ _ _ _ _ _ _ _ _ _ c.name-a.ensures c.bytes-b.ensures c.hex_field-c.ensures c.hex-d.ensures
    c.bytes.ensures
