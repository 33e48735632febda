-- Sections in a table of rows: as they stand in the text, and with their offsets and sizes.
use Rattle.std.specs.Prelude.{false, List, [], ◌∷◌, ◌++◌, ℕ, zero, suc, ◌≤◌, length, get_or, None}
use Rattle.fmd_table.specs.declared.Section.{Section}
use Rattle.fmd_table.specs.declared.SectionRow.{SectionRow}
use Rattle.fmd_table.specs.declared.Placed.{Placed}

-- the row of the image, the parent of the outermost sections; as a link to a row: none
abbrev pub image_row : ℕ
image_row = 128

-- a table has n rows
abbrev pub HasRows : ℕ → List SectionRow → Type 0
HasRows n rows = n ≤ length rows

abbrev pub HasSpots : ℕ → List Placed → Type 0
HasSpots n spots = n ≤ length spots

-- what f gives at 0, 1, .., n - 1
unfoldable pub listed : {A : Type 0} → (ℕ → A) → ℕ → List A
listed f zero = []
listed f (suc n) = listed f n ++ (f n ∷ [])

-- ---- sections with their links (Invariants)

-- what get_or answers past the end of a list
abbrev pub blank_row : SectionRow
blank_row =
    record {
      section =
          record { offset = None; size = None; place = 0; length = 0; cbfs = false; preserve = false; parent = 0; level = 0 };
      next = None;
      last = None;
    }

-- the section in row k
unfoldable pub section_at : List SectionRow → ℕ → Section
section_at rows k = (get_or rows k blank_row).section

-- the sections in the first n rows
unfoldable pub sections_in : ℕ → List SectionRow → List Section
sections_in n rows = listed (section_at rows) n

-- ---- sections with their offsets and sizes

-- what get_or answers past the end of a list
abbrev pub blank_placed : Placed
blank_placed = record { offset = record { 0 = 0 }; size = 0; parent = 0; level = 0 }

-- the section in row k
unfoldable pub placed_at : List Placed → ℕ → Placed
placed_at spots k = get_or spots k blank_placed

-- the sections in the first n rows
unfoldable pub placed_in : ℕ → List Placed → List Placed
placed_in n spots = listed (placed_at spots) n
