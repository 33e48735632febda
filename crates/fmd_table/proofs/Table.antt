-- Laws of the two tables.
use mathlib.Core.Path.{◌≡◌}
use mathlib.Core.List.{List, [], ◌∷◌, ◌++◌}
use Prim.Native.Nat.{ℕ, ◌+◌, ◌<◌}
use native.Mathlib.Omega.{arith}
use lib.ListN.{length, get_or, set}
use Rattle.fmd_table.specs.Table.{blank_row, section_at, sections_in, blank_placed, placed_at, placed_in, HasRows, HasSpots}
use Rattle.fmd_table.specs.declared.Section.{Section}
use Rattle.fmd_table.specs.declared.SectionRow.{SectionRow}
use Rattle.fmd_table.specs.declared.Placed.{Placed}
use Rattle.fmd_table.proofs.Listed.{length-listed, nothing-listed, get_or-listed, set-listed}

-- ---- sections

pub row_put : (rows : List SectionRow) (k : ℕ) (r : SectionRow) → HasRows (k + 1) rows → sections_in (k + 1) (set rows k r) ≡ sections_in k rows ++ (r.section ∷ [])
unfolding sections_in section_at
row_put rows k r room = set-listed (λ (e : SectionRow). e.section) blank_row rows k r (omega (arith, room))

pub length-sections : (n : ℕ) (rows : List SectionRow) → length (sections_in n rows) ≡ n
unfolding sections_in
length-sections n rows = length-listed (section_at rows) n

pub section-in : (n : ℕ) (rows : List SectionRow) (k : ℕ) (d : Section) → k < n → get_or (sections_in n rows) k d ≡ section_at rows k
unfolding sections_in
section-in n rows k d q = get_or-listed (section_at rows) n k d q

pub no-sections : (rows : List SectionRow) → sections_in 0 rows ≡ []
unfolding sections_in
no-sections rows = nothing-listed (section_at rows)

-- ---- sections with their offsets and sizes

pub placed_put : (spots : List Placed) (k : ℕ) (q : Placed) → HasSpots (k + 1) spots → placed_in (k + 1) (set spots k q) ≡ placed_in k spots ++ (q ∷ [])
unfolding placed_in placed_at
placed_put spots k q room = set-listed (λ (e : Placed). e) blank_placed spots k q (omega (arith, room))

pub length-placed : (n : ℕ) (spots : List Placed) → length (placed_in n spots) ≡ n
unfolding placed_in
length-placed n spots = length-listed (placed_at spots) n

pub placed-in : (n : ℕ) (spots : List Placed) (k : ℕ) → k < n → get_or (placed_in n spots) k blank_placed ≡ placed_at spots k
unfolding placed_in
placed-in n spots k h = get_or-listed (placed_at spots) n k blank_placed h

pub none-placed : (spots : List Placed) → placed_in 0 spots ≡ []
unfolding placed_in
none-placed spots = nothing-listed (placed_at spots)
