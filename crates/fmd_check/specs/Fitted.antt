-- Offsets and sizes of a section list, said by siblings and parents and not by how they are found. Definitions only.
use Rattle.std.specs.Prelude.{List, ◌≡◌, false, ℕ, ◌≤◌, ◌<◌, length, get_or, take, Option, Some, None}
use Rattle.fmd_parse.specs.Trees.{blank_section}
use Rattle.fmd_table.specs.Table.{blank_placed}
use Rattle.fmd_table.specs.declared.ParentOffset.{ParentOffset}
use Rattle.fmd_table.specs.declared.Section.{Section}
use Rattle.fmd_table.specs.declared.Placed.{Placed}
use Rattle.fmd_check.specs.Plans.{placed_end, room_of}
use Rattle.fmd_parse.specs.Rows.{undecided}

-- sections j and k of the list l have the same parent
abbrev pub Siblings : List Section → ℕ → ℕ → Type 0
Siblings l j k = (get_or l j blank_section).parent ≡ (get_or l k blank_section).parent

-- section j is the previous sibling of section k, and k the next one of j
pub record Neighbours (l : List Section) (j k : ℕ) : Type 0 where
  pub before : j < k
  pub siblings : Siblings l j k
  pub between : (i : ℕ) → j < i → i < k → Siblings l i k → ⊥

-- L12: A missing offset is the previous sibling's end, 0 for the first. Section k begins at x.
abbrev pub BeginsAt : List Section → List Placed → ℕ → Option ParentOffset → ℕ → Type 0
BeginsAt l ps k (Some o) x = x ≡ o.0
BeginsAt l ps k None x =
    ((j : ℕ) → Neighbours l j k → x ≡ placed_end (get_or ps j blank_placed)) × (((j : ℕ) → j < k → Siblings l j k → ⊥) → x ≡ 0)

-- L13: A missing size reaches to the next sibling's given offset, for the last sibling to the parent's end. Section k is placed as p.
abbrev pub EndsAt : ℕ → List Section → List Placed → ℕ → Option ℕ → Placed → Type 0
EndsAt z l ps k (Some n) p = p.size ≡ n
EndsAt z l ps k None p =
    ((i : ℕ) → i < length l → Neighbours l k i → (get_or l i blank_section).offset ≡ Some (record { 0 = placed_end p }))
    × (((i : ℕ) → k < i → i < length l → Siblings l i k → ⊥) → placed_end p ≡ room_of z p.parent (take k ps))

-- L14: Sizes are at least 1, siblings ascend without overlap and end within the parent. The section p at the index k.
pub record Lies (z : ℕ) (ps : List Placed) (k : ℕ) (p : Placed) : Type 0 where
  pub some : 1 ≤ p.size
  pub within : placed_end p ≤ room_of z p.parent (take k ps)
  pub after : (j : ℕ) → j < k → (get_or ps j blank_placed).parent ≡ p.parent → placed_end (get_or ps j blank_placed) ≤ p.offset.0

-- the sections of the list l, in its order, in an image of z bytes
pub record Fitted (z : ℕ) (l : List Section) (ps : List Placed) : Type 0 where
  pub count : length ps ≡ length l
  pub begins : (k : ℕ) → k < length ps → BeginsAt l ps k (get_or l k blank_section).offset (get_or ps k blank_placed).offset.0
  pub ends : (k : ℕ) → k < length ps → EndsAt z l ps k (get_or l k blank_section).size (get_or ps k blank_placed)
  pub each : (k : ℕ) → k < length ps → Lies z ps k (get_or ps k blank_placed)
  pub parent : (k : ℕ) → k < length ps → (get_or ps k blank_placed).parent ≡ (get_or l k blank_section).parent
  pub level : (k : ℕ) → k < length ps → (get_or ps k blank_placed).level ≡ (get_or l k blank_section).level

-- (L13) below k every size is decided
abbrev pub Sized : List Section → ℕ → Type 0
Sized l k = (j : ℕ) → j < k → undecided l j ≡ false
