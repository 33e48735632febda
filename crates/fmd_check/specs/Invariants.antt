-- Invariants of the code, for its proofs: no part of what is to be believed.
use Rattle.std.specs.Prelude.{List, ℕ, zero, suc, ◌≤◌, ◌<◌, drop, length, get_or}
use Rattle.octets.specs.Rows.{refusal}
use Rattle.fmd_table.specs.Table.{blank_placed, sections_in, placed_in, HasRows, HasSpots}
use Rattle.fmd_table.specs.declared.Section.{Section}
use Rattle.fmd_table.specs.declared.Placed.{Placed}
use Rattle.fmd_table.specs.declared.SectionRow.{SectionRow}
use Rattle.fmd_head.specs.declared.TextImage.{TextImage}
use Rattle.fmd_parse.specs.Trees.{Tree}
use Rattle.fmd_check.specs.Plans.{Resolved}
use Rattle.fmd_check.specs.Fitted.{Fitted}
use Rattle.fmd_check.specs.Check.{Checked, list_rows, checked_by}

-- ---- the rows of the whole list from one on

unfoldable pub check_from : ℕ → List ℕ → TextImage → List Section → Resolved → Checked
check_from k s i l r = checked_by s i l r (refusal (drop k (list_rows s l r)))

-- ---- areas: what the lent tables hold

-- section k and all sections above it stand in the list
abbrev pub Climbs : ℕ → List Placed → ℕ → Type 0
Climbs zero ps k = Unit {0}
Climbs (suc lv) ps k = (k < length ps) × Climbs lv ps (get_or ps k blank_placed).parent

-- n sections of the text s and their places, in an image whose size fits 32 bits
pub record Laid (s : List ℕ) (rows : List SectionRow) (spots : List Placed) (n : ℕ) : Type 0 where
  pub rows_room : HasRows n rows
  pub spots_room : HasSpots n spots
  pub tree : Tree s (sections_in n rows)
  pub size : ℕ
  pub small : size ≤ 4294967295
  pub fitted : Fitted size (sections_in n rows) (placed_in n spots)
