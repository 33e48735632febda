use Rattle.text_out.proofs.Puts.{Each}
use Rattle.fmd_lines.specs.Lines.{section_line}
use Rattle.fmd_lines.proofs.section_lines.Given as goal

abbrev pub invariant-loop-s : goal.invariant-loop-s
invariant-loop-s l = Each section_line 56 l.sections l.at l.initial.out l.out l.end l.s-index
