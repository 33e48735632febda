-- What is claimed of every resolution, of every text and of its areas: the statements of theorems (proofs/Fitted, FittedOnce, Facts, Nested, Stands).
use Rattle.std.specs.Prelude.{◌≡◌, true, false, List, ℕ, ◌+◌, ◌≤◌, ◌<◌, length, get_or, Option, Some, None}
use Rattle.fmap_rules.specs.Map.{map_size}
use Rattle.fmd_parse.specs.Trees.{Tree, Imaged}
use Rattle.fmd_table.specs.declared.Section.{Section}
use Rattle.fmd_head.specs.declared.TextImage.{TextImage}
use Rattle.fmd_parse.specs.Rows.{is_fmap, has_child, repeats, undecided}
use Rattle.fmd_table.specs.Table.{blank_placed}
use Rattle.fmd_table.specs.declared.Placed.{Placed}
use Rattle.fmd_check.specs.Fitted.{Fitted, Sized}
use Rattle.fmd_check.specs.Check.{Checked, fault, good}
use Rattle.fmd_check.specs.Plans.{Resolved, unfit, unsized, plan}
use Rattle.fmd_check.specs.Areas.{layout_areas}
use Rattle.fmd_check.specs.Nested.{Nested, AreaStands}

-- ---- offsets and sizes

-- (L13) where resolution stops, sizes are decided so far; where it does not, all are, and the sections fit
abbrev pub ResolvedFacts : ℕ → List Section → Resolved → Type 0
ResolvedFacts z l (unfit k) = (k < length l) × Sized l (k + 1)
ResolvedFacts z l (unsized k) = (k < length l) × Sized l k × (undecided l k ≡ true)
ResolvedFacts z l (plan ps) = Fitted z l ps × Sized l (length l)

-- the sections fit in one way alone: the image's size and the sections decide the places
abbrev pub FittedOnce : Type 0
FittedOnce = (z : ℕ) (l : List Section) (ps qs : List Placed) → Fitted z l ps → Fitted z l qs → ps ≡ qs

-- ---- the whole text

-- (R33) a layout text is refused with one of the numbers 50 to 59
abbrev pub LayoutNumber : ℕ → Type 0
LayoutNumber n = (50 ≤ n) × (n ≤ 59)

-- a fault's place is one of the text, or its end
abbrev pub InText : List ℕ → Option ℕ → Type 0
InText s (Some p) = p ≤ length s
InText s None = Unit {0}

-- image, sections, their places, and the index of section FMAP
pub record Accepted (s : List ℕ) (i : TextImage) (l : List Section) (ps : List Placed) (m : ℕ) : Type 0 where
  pub short : length s ≤ 32768
  pub image : Imaged s i
  pub tree : Tree s l
  pub some : 0 < length l
  pub fitted : Fitted i.size l ps
  pub differ : (k : ℕ) → k < length l → repeats s l k ≡ false
  pub there : m < length l
  pub called : is_fmap s l m ≡ true
  pub leaf : has_child l m ≡ false
  pub room : map_size (length l) ≤ (get_or ps m blank_placed).size

-- what is answered of the text s
abbrev pub CheckedFacts : List ℕ → Checked → Type 0
CheckedFacts s (fault n p) = LayoutNumber n × InText s p
CheckedFacts s (good i l ps m) = Accepted s i l ps m

-- ---- areas

-- (L14), (L15) the areas of sections that fit nest
abbrev pub AreasNested : Type 0
AreasNested = (s : List ℕ) (z : ℕ) (l : List Section) (ps : List Placed) → Tree s l → Fitted z l ps → Nested z l (layout_areas s l ps)

-- L17: The map lists sections in text order
abbrev pub AreasStand : Type 0
AreasStand =
    (s : List ℕ) (z : ℕ) (l : List Section) (ps : List Placed) → Tree s l → Fitted z l ps
    → (k : ℕ) → k < length l → AreaStands s l ps (layout_areas s l ps) k
