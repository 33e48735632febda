use Rattle.std.proofs.Common.{map}
use Rattle.fmap_rules.specs.Map.{area_of}
use Rattle.fmap_carry.proofs.Moves.{Listing}
use Rattle.fmap_carry.proofs.list_moves.Given as goal

abbrev pub invariant-loop-a : goal.invariant-loop-a
invariant-loop-a l = Listing (map area_of l.news) (map area_of l.olds) l.a-index l.n l.moves
