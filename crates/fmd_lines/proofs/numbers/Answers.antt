use Rattle.fmd_lines.proofs.Lines.{numbers-put}
use Rattle.fmd_lines.proofs.numbers.Goals as goal

pub returns : goal.returns
returns c =
    numbers-put c.args.s.now _ _ _ _ _ _ _ _ c.hex_field-a.ensures c.hex_field-b.ensures c.hex_field.ensures
