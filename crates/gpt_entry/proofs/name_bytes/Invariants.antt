use Rattle.gpt_entry.proofs.Bytes.{Named}
use Rattle.gpt_entry.proofs.name_bytes.Given as goal

abbrev pub invariant-loop-i : goal.invariant-loop-i
invariant-loop-i l = Named l.name l.bytes l.i
