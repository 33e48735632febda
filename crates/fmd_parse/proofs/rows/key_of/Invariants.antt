use mathlib.Core.Path.{◌≡◌}
use Prim.Native.Nat.{◌<◌}
use lib.ListN.{drop}
use Rattle.fmd_parse.specs.Invariants.{key_from}
use Rattle.fmd_parse.proofs.rows.key_of.Given as goal

abbrev pub invariant-loop-b : goal.invariant-loop-b
invariant-loop-b l = (l.key < 2048) × (key_from l.key (drop l.b-index l.name) ≡ key_from 0 l.name)
