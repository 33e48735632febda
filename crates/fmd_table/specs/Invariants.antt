-- Invariants of the code, for its proofs: no part of what is to be believed.
use Rattle.std.specs.Prelude.{◌≡◌, ◌⊎◌, List, ℕ, ◌≤◌, ◌<◌, get_or, set, Option, Some, None}
use Rattle.fmd_table.specs.Table.{image_row, blank_row, section_at}
use Rattle.fmd_table.specs.declared.SectionRow.{SectionRow}

-- the link to the next section with the same parent, and to the last child
unfoldable pub next_link : List SectionRow → ℕ → Option ℕ
next_link rows k = (get_or rows k blank_row).next

unfoldable pub last_link : List SectionRow → ℕ → Option ℕ
last_link rows k = (get_or rows k blank_row).last

-- the row that a link leads to; the image's: none
abbrev pub row_of : Option ℕ → ℕ
row_of (Some k) = k
row_of None = image_row

abbrev pub next_sibling_at : List SectionRow → ℕ → ℕ
next_sibling_at rows k = row_of (next_link rows k)

abbrev pub last_child_at : List SectionRow → ℕ → ℕ
last_child_at rows k = row_of (last_link rows k)

abbrev pub parent_at : List SectionRow → ℕ → ℕ
parent_at rows k = (section_at rows k).parent

-- the image, or one of the first n sections
abbrev pub IsParent : ℕ → ℕ → Type 0
IsParent n p = (p ≡ image_row) ⊎ (p < n)

-- section j's next sibling: none, or a later section with its parent
abbrev pub NextIn : ℕ → List SectionRow → ℕ → Type 0
NextIn n rows j =
    (next_link rows j ≡ None)
    ⊎ ((j < next_sibling_at rows j) × (next_sibling_at rows j < n) × (parent_at rows (next_sibling_at rows j) ≡ parent_at rows j))

-- the last child of p: none, or a section with the parent p
abbrev pub LastIn : ℕ → List SectionRow → ℕ → Type 0
LastIn n rows p = (last_link rows p ≡ None) ⊎ ((last_child_at rows p < n) × (parent_at rows (last_child_at rows p) ≡ p))

-- the links among the first n sections
pub record Linked (n : ℕ) (rows : List SectionRow) : Type 0 where
  pub room : n ≤ image_row
  pub under : (j : ℕ) → j < n → IsParent j (parent_at rows j)
  pub after : (j : ℕ) → j < n → NextIn n rows j
  pub between : (j i : ℕ) → j < i → i < n → parent_at rows i ≡ parent_at rows j → next_sibling_at rows j ≤ i
  pub last : (p : ℕ) → IsParent n p → LastIn n rows p
  pub greatest : (j : ℕ) → j < n → (j ≤ last_child_at rows (parent_at rows j)) × (last_child_at rows (parent_at rows j) < n)

-- row j with another next sibling, row p with another last child
abbrev pub with_next : List SectionRow → ℕ → ℕ → List SectionRow
with_next rows j k = set rows j (record { section = (get_or rows j blank_row).section; next = Some k; last = (get_or rows j blank_row).last })

abbrev pub with_last : List SectionRow → ℕ → ℕ → List SectionRow
with_last rows p k = set rows p (record { section = (get_or rows p blank_row).section; next = (get_or rows p blank_row).next; last = Some k })

-- row k as the next sibling of the parent's last child
abbrev pub linked_behind : Option ℕ → ℕ → List SectionRow → List SectionRow
linked_behind (Some j) k rows = with_next rows j k
linked_behind None k rows = rows

-- and as the last child
unfoldable pub linked_to : ℕ → ℕ → List SectionRow → List SectionRow
linked_to k p rows = with_last (linked_behind (last_link rows p) k rows) p k
