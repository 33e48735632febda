-- For the proofs of the code, not to be believed: the moves that the code lists, judges and makes. Definitions only.
use Rattle.std.specs.Prelude.{Bool, not, cond, List, [], ◌∷◌, Option, Some, None, ℕ, ◌+◌, eqb, leb}
use Rattle.octets.specs.Tests.{◌and◌, any, pairs}
use Rattle.octets.specs.Rows.{Row, row}
use Rattle.octets.specs.Bytes.{part, put}
use Rattle.fmap_rules.specs.declared.Extent.{Extent}
use Rattle.fmap_rules.specs.declared.Area.{Area}
use Rattle.fmap_rules.specs.Map.{named, end_of, disjoint}
use Rattle.fmap_carry.specs.Carry.{preserved, with_name, target}
use Rattle.fmap_carry.specs.declared.Move.{Move}

-- where the area of a map with a name lies, if there is one
unfoldable pub place_in : List Area → List ℕ → Option Extent
place_in areas n = cond (any (named n) areas) (Some (with_name areas n).place) None

abbrev pub move_of : List Area → Area → Move
move_of news a = record { from = a.place; to = target news a }

-- the moves of the preserved areas
unfoldable pub moves_of : List Area → List Area → List Move
moves_of news [] = []
moves_of news (a ∷ olds) = cond (preserved a) (move_of news a ∷ moves_of news olds) (moves_of news olds)

unfoldable pub resized : Move → Bool
resized m = not (eqb m.from.size m.to.size)

unfoldable pub moves_apart : Move → Move → Bool
moves_apart m n = disjoint m.from n.from and disjoint m.to n.to

unfoldable pub covers : Extent → Move → Bool
covers map m = not (disjoint m.to map)

-- the rows of a carry behind that of a missing area
abbrev pub move_rows : Extent → List Move → List Row
move_rows map moves = row (any resized moves) 61 ∷ row (not (pairs moves_apart moves)) 62 ∷ row (any (covers map) moves) 63 ∷ []

-- the image after the moves
unfoldable pub moved : List ℕ → List Move → List ℕ → List ℕ
moved old [] image = image
moved old (m ∷ moves) image = moved old moves (put m.to.start.0 (part m.from.start.0 m.from.size old) image)

-- a move from within the old image to within the new one
unfoldable pub lies : ℕ → ℕ → Move → Bool
lies old_length new_length m = leb (end_of m.from) old_length and leb (m.to.start.0 + m.from.size) new_length
