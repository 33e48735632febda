use Rattle.text_out.proofs.Puts.{Each}
use Rattle.text_out.specs.Text.{hex_digits}
use Rattle.fmd_records.proofs.name.Given as goal

abbrev pub invariant-loop-b : goal.invariant-loop-b
invariant-loop-b l = Each (hex_digits 2) 2 l.stored l.at l.initial.out l.out l.end l.b-index
