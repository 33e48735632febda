use Rattle.fmd.proofs.Layouts.{held, named, read_is}
use Rattle.fmd.proofs.Records.{stopped}
use Rattle.fmd.specs.Calls.{layout_in, read_text}
use mathlib.Core.Path.{refl, sym}
use borrow.Author.Rules.{rules}
use Rattle.fmd.proofs.read.Goals as goal

pub image_of-requires : goal.image_of-requires
image_of-requires c = named (held _ _ _ _ _ _ (search rules) (search rules) c.in_ok-l.ensures)

pub returns : goal.returns
unfolding read_text layout_in
returns c = rw (sym c.in_ok-l.ensures) (read_is (held _ _ _ _ _ _ (search rules) (search rules) c.in_ok-l.ensures) c.image_of.ensures)

pub returns-in_err-l : goal.returns-in_err-l
unfolding read_text layout_in
returns-in_err-l c = rw (stopped _ c.from_residual.ensures.1 refl, sym c.in_err-l.ensures)
