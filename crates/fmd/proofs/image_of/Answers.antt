use Rattle.std.specs.Option.{unwrap_or}
use Rattle.std.proofs.Common.{Option, Some, None, ℕ}
use Rattle.fmd.specs.Calls.{address_of, image_of}
use mathlib.Core.Path.{◌≡◌, refl}
use Rattle.fmd.proofs.image_of.Goals as goal

base-is : (a : Option ℕ) → unwrap_or a 0 ≡ address_of a
base-is (Some n) = refl
base-is None = refl

pub returns : goal.returns
unfolding image_of
returns c = rw (c.stored_name.ensures, c.unwrap_or.ensures, base-is)
