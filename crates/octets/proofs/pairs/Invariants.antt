use Rattle.std.proofs.Common.{◌≡◌, Bool, length, drop}
use Rattle.std.specs.Fn.{FnReturnsAtPair}
use Rattle.octets.specs.Tests.{all, pairs}
use Rattle.octets.proofs.pairs.Given as goal

-- the closure passes x with each of the later elements before this one
abbrev pub invariant-loop-y : goal.invariant-loop-y
invariant-loop-y g l =
    (r : g.row.T.Denot → g.row.T.Denot → Bool)
    → ((x y : g.row.T.Denot) (b : Bool) → FnReturnsAtPair g.F.Fn l.passes x y b → b ≡ r x y)
    → all (r l.x) (drop l.y-index l.later) ≡ all (r l.x) l.later

abbrev pub invariant-loop-x : goal.invariant-loop-x
invariant-loop-x g l =
    (r : g.row.T.Denot → g.row.T.Denot → Bool)
    → ((x y : g.row.T.Denot) (b : Bool) → FnReturnsAtPair g.F.Fn l.passes x y b → b ≡ r x y)
    → pairs r l.left ≡ pairs r l.xs

abbrev pub decreases-loop-x : goal.decreases-loop-x
decreases-loop-x g l = length l.left
