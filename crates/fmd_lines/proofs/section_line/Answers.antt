use Rattle.fmd_lines.proofs.Lines.{section-put}
use Rattle.fmd_lines.proofs.section_line.Goals as goal

pub returns : goal.returns
returns c =
    section-put c.args.s.now _ _ _ _ _ _ _ _ c.numbers-a.ensures c.name-b.ensures c.bytes.ensures
