use Rattle.gpt_room.specs.Invariants.{taken, gap}
use Rattle.gpt_room.proofs.Looks.{stands-none, stands-taken, stands-gap}
use Rattle.gpt_room.proofs.Walk.look.Goals as goal

pub returns-in-None : goal.returns-in-None
returns-in-None c = gap (stands-none c.args.self.now.last.0 c.args.self.now.ascending c.requires.0 c.in-None.ensures.value c.requires.1)

pub returns-in-Some : goal.returns-in-Some
returns-in-Some c =
    taken (stands-taken c.args.self.now.last.0 c.args.self.now.ascending c.requires.0 c.in-Some.ensures.value c.if-r-a.true)

pub returns-in-Some-2 : goal.returns-in-Some-2
returns-in-Some-2 c =
    gap (rw c.min.ensures (stands-gap c.args.self.now.last.0 c.args.self.now.ascending c.requires.0 c.in-Some.ensures.value c.requires.1 c.if-r-a.false))
