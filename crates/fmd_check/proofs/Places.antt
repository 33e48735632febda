-- Sections and their parents: every section ends within its parent, and in the image.
use mathlib.Core.Path.{◌≡◌, refl, sym, subst, ◌∙◌}
use mathlib.Core.Logic.{◌⊎◌, inl, inr, ⊎_elim}
use mathlib.Core.List.{List}
use Prim.Native.Nat.{ℕ, zero, suc, ◌+◌, ◌≤◌, ◌<◌}
use native.Mathlib.Omega.{arith}
use lib.ListN.{length, get_or, take}
use lib.Seq.{get_or-take, length-take-le}
use borrow.Author.Tests.{lt-ltb, le-ltb}
use Rattle.fmd_parse.specs.Trees.{Tree, Under, blank_section}
use Rattle.fmd_table.specs.declared.Section.{Section}
use Rattle.fmd_table.specs.Table.{blank_placed}
use Rattle.fmd_check.specs.Plans.{placed_end, room_of}
use Rattle.fmd_check.specs.Fitted.{Fitted}
use Rattle.fmd_table.specs.declared.Placed.{Placed}
use Rattle.fmd_check.specs.Areas.{position_in}
use Rattle.fmd_check.specs.Invariants.{Climbs}

-- ---- a parent's size

room-image : (z par k : ℕ) (ps : List Placed) → k ≤ length ps → k ≤ par → room_of z par (take k ps) ≡ z
unfolding room_of
room-image z par k ps h g = rw (length-take-le k ps h, le-ltb par k g)

room-parent : (z par k : ℕ) (ps : List Placed) → k ≤ length ps → par < k → room_of z par (take k ps) ≡ (get_or ps par blank_placed).size
unfolding room_of
room-parent z par k ps h g = rw (length-take-le k ps h, lt-ltb par k g, get_or-take k ps par blank_placed g)

-- ---- section k: of level 1 and within the image, or one level below an earlier section and within that

pub record Top (z : ℕ) (p : Placed) : Type 0 where
  pub level : p.level ≡ 1
  pub parent : p.parent ≡ 128
  pub within : placed_end p ≤ z

pub record Child (ps : List Placed) (k : ℕ) (p : Placed) : Type 0 where
  pub parent : p.parent < k
  pub level : (get_or ps p.parent blank_placed).level + 1 ≡ p.level
  pub within : placed_end p ≤ (get_or ps p.parent blank_placed).size

module _ (s : List ℕ) (z : ℕ) (l : List Section) (ps : List Placed) (t : Tree s l) (f : Fitted z l ps) where
  pub above : (k : ℕ) → k < length ps → Top z (get_or ps k blank_placed) ⊎ Child ps k (get_or ps k blank_placed)
  above k h = go (t.each k (rw f.count at h)).under
    where
      go : Under l k (get_or l k blank_section).level (get_or l k blank_section).parent
          → Top z (get_or ps k blank_placed) ⊎ Child ps k (get_or ps k blank_placed)
      go (inl u) =
          let e : (get_or ps k blank_placed).parent ≡ 128 = f.parent k h ∙ u.1 in
          let q = t.room in
          let c = f.count in
          inl (record {
            level = f.level k h ∙ u.0;
            parent = e;
            within = rw (room-image z (get_or ps k blank_placed).parent k ps (omega arith) (omega arith)) at (f.each k h).within;
          })
      go (inr u) =
          let e = f.parent k h in
          let g : (get_or ps k blank_placed).parent < k = omega (arith, u.0) in
          inr (record {
            parent = g;
            level = rw (f.level (get_or ps k blank_placed).parent (omega arith), e, f.level k h) u.1;
            within = rw (room-parent z (get_or ps k blank_placed).parent k ps (omega arith) g) at (f.each k h).within;
          })

  -- by the level: what holds of the sections of level 1, and of a child where it holds of its parent, holds of all
  pub by_level : (P : ℕ → ℕ → Type 0) → ((k : ℕ) → k < length ps → Top z (get_or ps k blank_placed) → P 1 k)
      → ((n k : ℕ) → k < length ps → Child ps k (get_or ps k blank_placed) → P n (get_or ps k blank_placed).parent → P (suc n) k)
      → (n k : ℕ) → k < length ps → (get_or ps k blank_placed).level ≡ n → P n k
  by_level P top child zero k h e =
      absurd (⊎_elim (λ a. let b = a.level in omega arith) (λ a. let b = a.level in omega arith) (above k h))
  by_level P top child (suc n) k h e =
      ⊎_elim
      (λ a. subst (λ (m : ℕ). P m k) (sym a.level ∙ e) (top k h a))
      (λ a.
      let b = a.parent in
      let c = a.level in
      child n k h a (by_level P top child n (get_or ps k blank_placed).parent (omega arith) (omega arith)))
      (above k h)

  -- section k and all sections above it stand in the list
  pub climbs : (k : ℕ) → k < length ps → Climbs (get_or ps k blank_placed).level ps k
  climbs k h = by_level (λ n j. Climbs n ps j) (λ j q a. (q, tt)) (λ n j q a c. (q, c)) (get_or ps k blank_placed).level k h refl

  -- section k ends in the image
  pub ends : (k : ℕ) → k < length ps → position_in (get_or ps k blank_placed).level ps k + (get_or ps k blank_placed).size ≤ z
  unfolding position_in
  ends k h =
      by_level (λ n j. position_in n ps j + (get_or ps j blank_placed).size ≤ z)
      (λ j q a. let w = a.within in omega arith)
      (λ n j q a r. let w = a.within in omega arith)
      (get_or ps k blank_placed).level k h refl
