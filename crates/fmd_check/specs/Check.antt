-- R33: FMD: 1 (section list not 128 records), 50; then left to right, the first fault in the text; then over the whole list 54, 56, 57, 58, 59.
-- Row 1 stands where a list is lent.
use Rattle.std.specs.Prelude.{Bool, true, cond, List, [], ◌∷◌, ℕ, ltb, eqb, length, get_or, Option, Some, None, Result, Ok, Err}
use Rattle.std.proofs.Math.Option.{Option as Picked, none, some}
use Rattle.octets.specs.Tests.{◌or◌}
use Rattle.octets.specs.Rows.{Row, row, refusal}
use Rattle.fmap_rules.specs.Map.{map_size}
use Rattle.fmd_table.specs.Table.{blank_placed, sections_in, placed_in}
use Rattle.fmd_table.specs.declared.Section.{Section}
use Rattle.fmd_table.specs.declared.SectionRow.{SectionRow}
use Rattle.fmd_table.specs.declared.Placed.{Placed}
use Rattle.fmd_parse.specs.Trees.{blank_section}
use Rattle.fmd_parse.specs.Layouts.{Layout, layout, refused, layout_of}
use Rattle.fmd_head.specs.Refusals.{number_of}
use Rattle.fmd_head.specs.declared.TextImage.{TextImage}
use Rattle.fmd_parse.specs.Rows.{is_found, first_repeat, first_cbfs, first_undecided, fmap_in, has_child}
use Rattle.fmd_check.specs.Plans.{Resolved, unfit, unsized, plan, resolve_from}
use Rattle.fmd_check.specs.declared.LayoutFault.{LayoutFault}
use Rattle.fmd_check.specs.declared.GoodLayout.{GoodLayout}

-- a fault's number and place; or image, sections, their places, and the index of section FMAP
pub data Checked : Type 0 where
  fault : ℕ → Option ℕ → Checked
  good : TextImage → List Section → List Placed → ℕ → Checked

-- ---- over the whole list: the sections l of the text s, resolved as r

-- R21: 58 .. section does not fit: the first
abbrev pub first_unfit : Resolved → Option ℕ
first_unfit (unfit k) = Some k
first_unfit (unsized k) = None
first_unfit (plan ps) = None

-- the places of the sections, where all have one
abbrev pub places_of : Resolved → List Placed
places_of (unfit k) = []
places_of (unsized k) = []
places_of (plan ps) = ps

-- R22: 59: no section FMAP, or it has children or is too small
abbrev pub no_map : List Section → List Placed → Option ℕ → Bool
no_map l ps (Some k) = has_child l k or ltb (get_or ps k blank_placed).size (map_size (length l))
no_map l ps None = true

-- R33: .. then over the whole list 54, 56, 57, 58, 59. (R19) 54: section name used twice; (R20) 56: CBFS on a section with children; (R21) 57: size undecided
abbrev pub list_rows : List ℕ → List Section → Resolved → List Row
list_rows s l r =
    row (is_found (first_repeat s l)) 54
    ∷ row (is_found (first_cbfs l)) 56
    ∷ row (is_found (first_undecided l)) 57
    ∷ row (is_found (first_unfit r)) 58
    ∷ row (no_map l (places_of r) (fmap_in s l)) 59
    ∷ []

-- the section at fault: for 54 the first repeat of a name, for 56 to 58 the first that has the fault, for 59 section FMAP, if there is one
abbrev pub at_fault : List ℕ → List Section → Resolved → ℕ → Option ℕ
at_fault s l r n =
    cond (eqb n 54) (first_repeat s l)
    (cond (eqb n 56) (first_cbfs l)
    (cond (eqb n 57) (first_undecided l)
    (cond (eqb n 58) (first_unfit r)
    (fmap_in s l))))

-- the place of a section: its name's
abbrev pub fault_place : List Section → Option ℕ → Option ℕ
fault_place l (Some k) = Some (get_or l k blank_section).place
fault_place l None = None

-- the index of a section that was found
abbrev pub index_of : Option ℕ → ℕ
index_of (Some k) = k
index_of None = 0

abbrev pub checked_by : List ℕ → TextImage → List Section → Resolved → Picked ℕ → Checked
checked_by s i l r (some n) = fault n (fault_place l (at_fault s l r n))
checked_by s i l r none = good i l (places_of r) (index_of (fmap_in s l))

unfoldable pub check_list : List ℕ → TextImage → List Section → Checked
check_list s i l = checked_by s i l (resolve_from i.size [] l) (refusal (list_rows s l (resolve_from i.size [] l)))

-- ---- a text

abbrev pub check_layout : List ℕ → Layout → Checked
check_layout s (refused n p) = fault n (Some p)
check_layout s (layout i l) = check_list s i l

-- R17: 50: layout text too long
unfoldable pub check_text : List ℕ → Checked
check_text s = cond (ltb 32768 (length s)) (fault 50 None) (check_layout s (layout_of s))

-- ---- what the values of the code say, with the tables that were lent

abbrev pub verdict_of : Result GoodLayout LayoutFault → List SectionRow → List Placed → Checked
verdict_of (Ok g) rows spots = good g.image (sections_in g.count rows) (placed_in g.count spots) g.map
verdict_of (Err f) rows spots = fault (number_of f.refusal) f.place
