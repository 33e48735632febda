use Rattle.std.proofs.Common.{arith, sym, ◌∙◌, refl}
use borrow.Author.Tests.{lt-leb}
use Rattle.fmap.proofs.Finding.{signed-short, signed-slice}
use Rattle.fmap.proofs.is_signed_at.Goals as goal

pub returns-then-at-image : goal.returns-then-at-image
returns-then-at-image c = sym (signed-slice c.args.image.now c.args.at.0 _ _ c.is_signed.ensures refl)

pub returns-else-at-image : goal.returns-else-at-image
returns-else-at-image c = lt-leb _ _ (omega arith) ∙ sym (signed-short c.args.image.now c.args.at.0 (omega arith))
