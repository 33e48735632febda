use Rattle.std.proofs.Common.{◌≡◌, drop}
use Rattle.fmap_carry.specs.Moves.{moved}
use Rattle.fmap_carry.proofs.make_moves.Given as goal

-- the moves that are left, made in the image as it is now
abbrev pub invariant-loop-m : goal.invariant-loop-m
invariant-loop-m l = moved l.old (drop l.m-index l.moves) l.new ≡ moved l.old l.moves l.initial.new
