use mathlib.Core.Path.{◌≡◌}
use Prim.Native.Nat.{◌≤◌, ◌-◌}
use lib.ListN.{length}
use Rattle.fmap.specs.Find.{signed_at}
use Rattle.fmap.specs.Lowest.{first_from}
use Rattle.fmap.proofs.next_signed.Given as goal

abbrev pub invariant-loop-i : goal.invariant-loop-i
invariant-loop-i l = (l.i ≤ length l.image)
    × (first_from (length l.image - l.initial.i) l.initial.i (signed_at l.image) ≡ first_from (length l.image - l.i) l.i (signed_at l.image))

abbrev pub decreases-loop-i : goal.decreases-loop-i
decreases-loop-i l = length l.image - l.i
