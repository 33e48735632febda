use Rattle.c_flash.proofs.Effects.{fault-tells}
use Rattle.c_flash.proofs.usi_fmap_fault.Goals as goal

pub returns-in-Ok : goal.returns-in-Ok
returns-in-Ok c = fault-tells _ _ _ _ _ c.position_of.ensures c.in-Ok.ensures

pub returns-in-Err-Breaks : goal.returns-in-Err-Breaks
returns-in-Err-Breaks c =
    rw (c.from.ensures, c.number.ensures) (fault-tells _ _ _ _ _ c.position_of.ensures (rw c.in-Err-Breaks.field-0-is at c.in-Err-Breaks.ensures))

pub returns-in-Err-WrongLength : goal.returns-in-Err-WrongLength
returns-in-Err-WrongLength c =
    fault-tells _ _ _ _ _ c.position_of.ensures (rw c.in-Err-WrongLength.field-0-is at c.in-Err-WrongLength.ensures)
