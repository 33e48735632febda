use Rattle.c_flash.proofs.Effects.{area-tells}
use Rattle.c_flash.proofs.area_found.Goals as goal

pub returns-in-Ok-Some : goal.returns-in-Ok-Some
returns-in-Ok-Some c = area-tells _ _ _ _ _ c.in-Ok-Some.is (rw c.in-Ok-Some.is at c.in-Ok-Some.field-0-is) c.requires c.put_area.ensures
