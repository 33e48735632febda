use Rattle.c_flash.proofs.Effects.{area-wrong, area-right}
use borrow.Author.Rules.{rules}
use Rattle.c_flash.proofs.usi_fmap_area.Goals as goal

pub returns-then-area-ne42 : goal.returns-then-area-ne42
returns-then-area-ne42 c = area-wrong _ _ c.if-area-ne42.true

pub returns : goal.returns
returns c = area-right _ _ _ _ (search rules) c.area_found.ensures c.area.ensures
