-- Offsets and sizes of the sections, in the text's order, or the first section that does not fit (58).
use Rattle.std.specs.Prelude.{Bool, cond, List, [], ◌∷◌, ◌++◌, ℕ, ◌+◌, ◌-◌, ltb, leb, eqb, length, get_or, Option, Some, None, Result, Ok, Err}
use Rattle.octets.specs.Tests.{◌and◌}
use Rattle.fmd_table.specs.Table.{blank_placed}
use Rattle.fmd_table.specs.declared.ParentOffset.{ParentOffset}
use Rattle.fmd_table.specs.declared.Section.{Section}
use Rattle.fmd_table.specs.declared.Placed.{Placed}
use Rattle.fmd_parse.specs.Rows.{sibling_in, reach_of}
use Rattle.fmd_parse.specs.declared.rows.Reach.{Reach}
use Rattle.fmd_parse.specs.declared.rows.Reach.TheVariants.{OfSize, UpTo, ToParentEnd, Undecided}
use Rattle.fmd_check.specs.declared.plan.Misfit.{Misfit}
use Rattle.fmd_check.specs.declared.plan.Misfit.TheVariants.{Unfit, NoSize}
use Rattle.fmd_check.specs.declared.plan.Unplaced.{Unplaced}

-- the end of a section in its parent
abbrev pub placed_end : Placed → ℕ
placed_end p = p.offset.0 + p.size

-- the end of a section with this parent, e for any other
unfoldable pub end_with : ℕ → ℕ → Placed → ℕ
end_with par e p = cond (eqb p.parent par) (placed_end p) e

-- the end of the last section with this parent; e where there is none
unfoldable pub sibling_end : ℕ → ℕ → List Placed → ℕ
sibling_end par e [] = e
sibling_end par e (p ∷ ps) = sibling_end par (end_with par e p) ps

-- the parent's size: that of an earlier section, else the image's
unfoldable pub room_of : ℕ → ℕ → List Placed → ℕ
room_of z par ps = cond (ltb par (length ps)) (get_or ps par blank_placed).size z

-- L12: A missing offset is the previous sibling's end, 0 for the first.
abbrev pub start_of : Option ParentOffset → ℕ → ℕ
start_of (Some o) e = o.0
start_of None e = e

-- L14: Sizes are at least 1, siblings ascend without overlap and end within the parent, else 58.
unfoldable pub fits : ℕ → ℕ → ℕ → ℕ → Bool
fits e start size room = leb 1 size and leb e start and leb (start + size) room

-- a section at its start and of its size, after a sibling that ends at e
unfoldable pub spot_of : Section → ℕ → ℕ → ℕ → ℕ → Result Placed Misfit
spot_of h e start size room =
    cond (fits e start size room) (Ok (record { offset = record { 0 = start }; size = size; parent = h.parent; level = h.level })) (Err Unfit)

-- a section at its start, of the size that it reaches (L13)
abbrev pub spot_by : Section → ℕ → ℕ → ℕ → Reach → Result Placed Misfit
spot_by h e start room (OfSize n) = spot_of h e start n room
spot_by h e start room (UpTo o) = spot_of h e start (o.0 - start) room
spot_by h e start room ToParentEnd = spot_of h e start (room - start) room
spot_by h e start room Undecided = Err NoSize

unfoldable pub spot_in : Section → ℕ → ℕ → Reach → Result Placed Misfit
spot_in h e room reach = spot_by h e (start_of h.offset e) room reach

-- the section h of an image of z bytes, after the sections ps and before the sections hs
unfoldable pub spot_for : ℕ → List Placed → Section → List Section → Result Placed Misfit
spot_for z ps h hs = spot_in h (sibling_end h.parent 0 ps) (room_of z h.parent ps) (reach_of h.size (sibling_in h.parent hs))

-- the sections resolved; or the index of the first that does not fit, or whose size is undecided
pub data Resolved : Type 0 where
  unfit : ℕ → Resolved
  unsized : ℕ → Resolved
  plan : List Placed → Resolved

abbrev pub stopped_at : Misfit → ℕ → Resolved
stopped_at Unfit k = unfit k
stopped_at NoSize k = unsized k

abbrev pub after_spot : Result Placed Misfit → ℕ → (Placed → Resolved) → Resolved
after_spot (Ok p) k f = f p
after_spot (Err w) k f = stopped_at w k

unfoldable pub resolve_from : ℕ → List Placed → List Section → Resolved
resolve_from z ps [] = plan ps
resolve_from z ps (h ∷ hs) = after_spot (spot_for z ps h hs) (length ps) (λ p. resolve_from z (ps ++ (p ∷ [])) hs)

-- ---- what the values of the code say, with the table that was lent

abbrev pub resolved_by : Result (Unit {0}) Unplaced → List Placed → Resolved
resolved_by (Ok t) ps = plan ps
resolved_by (Err u) ps = stopped_at u.why u.at
