use Rattle.gpt_room.proofs.Looks.{taken_of, gap_of, run_past, run-full, run-clear}
use Rattle.gpt_room.proofs.Walk.run.Goals as goal

pub returns-then-self-a : goal.returns-then-self-a
returns-then-self-a c = run_past _ _ _ c.if-self-a.true

pub returns-in-Taken : goal.returns-in-Taken
returns-in-Taken c = run-full _ _ _ (taken_of c.look.ensures c.in-Taken.is)

pub returns-in-Gap : goal.returns-in-Gap
returns-in-Gap c = run-clear _ _ _ (gap_of c.look.ensures c.in-Gap.is)
