use Rattle.fmd.proofs.Layouts.{held, laid, named, read_is}
use Rattle.fmd.proofs.Records.{stopped, records-wrong, records-good, records-fault}
use Rattle.fmd_check.proofs.Listed.{few, many}
use lib.ListN.{length}
use native.Mathlib.Omega.{arith}
use mathlib.Core.Path.{refl, ap, ◌∙◌}
use borrow.Author.Rules.{rules}
use Rattle.fmd.proofs.put_records.Goals as goal

pub returns-in_err-need_length : goal.returns-in_err-need_length
returns-in_err-need_length c =
    let w = c.in_err-need_length.ensures in
    rw (stopped _ c.from_residual.ensures.1 w.0) (records-wrong _ _ w.1)

pub new-requires : goal.new-requires
new-requires c = laid (held _ _ _ _ _ _ (search rules) (search rules) c.in_ok-l.ensures)

pub put-requires : goal.put-requires
put-requires c =
    let g = laid (held _ _ _ _ _ _ (search rules) (search rules) c.in_ok-l.ensures) in
    omega (arith, ap length c.new.ensures ∙ many g, few g, c.in_ok-need_length.ensures)

pub image_of-requires : goal.image_of-requires
image_of-requires c = named (held _ _ _ _ _ _ (search rules) (search rules) c.in_ok-l.ensures)

pub returns : goal.returns
returns c =
    records-good _ _ c.in_ok-l.ensures _
    (read_is (held _ _ _ _ _ _ (search rules) (search rules) c.in_ok-l.ensures) c.image_of.ensures) _ _ c.in_ok-need_length.ensures (rw c.new.ensures at c.put.ensures)

pub returns-in_err-l : goal.returns-in_err-l
returns-in_err-l c =
    rw (stopped _ c.from_residual-in_err-l.ensures.1 refl) (records-fault _ _ _ c.in_err-l.ensures _ c.in_ok-need_length.ensures)
