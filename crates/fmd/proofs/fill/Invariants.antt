use mathlib.Core.Path.{◌≡◌}
use mathlib.Core.List.{map}
use lib.ListN.{take}
use Rattle.fmd.specs.Calls.{list_record, filled}
use Rattle.fmd.proofs.fill.Given as goal

abbrev pub invariant-loop-k : goal.invariant-loop-k
invariant-loop-k l = l.sections ≡ filled (map list_record (take l.k l.areas)) l.initial.sections
