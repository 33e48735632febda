use Rattle.text_out.proofs.Puts.{Each}
use Rattle.fmd_records.specs.Records.{record_line}
use Rattle.fmd_records.proofs.record_lines.Given as goal

abbrev pub invariant-loop-s : goal.invariant-loop-s
invariant-loop-s l = Each record_line 88 l.sections l.at l.initial.out l.out l.end l.s-index
