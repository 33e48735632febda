-- Laws of the functions over the places of a plan, and of the loop over all sections.
use mathlib.Core.Path.{◌≡◌, refl, sym, ap, ◌∙◌}
use mathlib.Core.List.{List}
use Prim.Native.Nat.{ℕ, zero, suc, ◌+◌, ◌-◌, ◌≤◌, ◌<◌}
use native.Mathlib.Numerals.{sub-one}
use native.Mathlib.Omega.{arith}
use lib.ListN.{length, get_or, take, drop, length-drop}
use lib.Seq.{take_all}
use Rattle.octets.specs.Bytes.{part, put, zeros}
use Rattle.octets.proofs.Parts.{length_part, length-zeros, part-zeros}
use Rattle.octets.proofs.Puts.{put-eq}
use Rattle.fmap_rules.specs.Map.{blank_area}
use Rattle.fmap_rules.specs.declared.Area.{Area}
use Rattle.fmd_table.specs.Table.{blank_placed, section_at, sections_in, placed_at, placed_in}
use Rattle.fmd_table.specs.declared.Section.{Section}
use Rattle.fmd_table.proofs.Table.{length-sections, section-in}
use Rattle.fmd_parse.specs.Trees.{blank_section}
use Rattle.fmd_table.specs.declared.Placed.{Placed}
use Rattle.fmd_table.proofs.Table.{length-placed, placed-in}
use Rattle.fmd_table.specs.declared.SectionRow.{SectionRow}
use Rattle.fmd_check.specs.Areas.{position_in, stored_name, area_from, area_at, layout_areas}
use Rattle.fmd_check.specs.Invariants.{Climbs, Laid}
use Rattle.fmd_check.proofs.Places.{climbs, ends}
use Rattle.fmd_check.proofs.Names.{name-short}
use Rattle.fmd_check.proofs.Shape.{length-areas, area-at as area-is-at}

-- ---- names

rest-zeros : (n m : ℕ) → n ≤ m → drop n (zeros m) ≡ zeros (m - n)
unfolding part
rest-zeros n m h =
    let e : length (drop n (zeros m)) ≡ m - n = length-drop n (zeros m) ∙ ap (λ (k : ℕ). k - n) (length-zeros m) in
    sym (take_all (m - n) (drop n (zeros m)) (omega arith)) ∙ part-zeros n (m - n) m (omega arith)

-- a name copied over zeros
pub name-stored : (s name : List ℕ) (place n : ℕ) → place + n ≤ length s → n ≤ 32
    → name ≡ put 0 (take (place + n - place) (drop place s)) (zeros 32) → name ≡ stored_name s place n
unfolding stored_name part
name-stored s name place n h g e =
    let w = length_part s place n h in
    let k : place + n - place ≡ n = omega arith in
    let z = length-zeros 32 in
    let c : 0 + length (take n (drop place s)) ≡ n = omega arith in
    e ∙ rw (k, put-eq 0 (take n (drop place s)) (zeros 32) (omega arith), c, rest-zeros n 32 g)

-- ---- a section of a level and its parent

pub at-image : (lv : ℕ) (ps : List Placed) (k : ℕ) → lv ≡ 0 → 0 ≡ position_in lv ps k
unfolding position_in
at-image zero ps k e = refl
at-image (suc lv) ps k e = absurd (omega arith)

climb : (lv : ℕ) (ps : List Placed) (k : ℕ) → (lv ≡ 0 → ⊥) → Climbs lv ps k → (k < length ps) × Climbs (lv - 1) ps (get_or ps k blank_placed).parent
climb zero ps k n c = absurd (n refl)
climb (suc lv) ps k n c = rw sub-one c

below : (lv : ℕ) (ps : List Placed) (k : ℕ) → (lv ≡ 0 → ⊥)
    → (get_or ps k blank_placed).offset.0 + position_in (lv - 1) ps (get_or ps k blank_placed).parent ≡ position_in lv ps k
unfolding position_in
below zero ps k n = absurd (n refl)
below (suc lv) ps k n = rw sub-one

module _ (n : ℕ) (spots : List Placed) (lv k : ℕ) (d : lv ≡ 0 → ⊥) (c : Climbs lv (placed_in n spots) k) where
  pub listed : k < n
  listed = omega (arith, (climb lv (placed_in n spots) k d c).0, length-placed n spots)

  module _ {q : Placed} (e : q ≡ placed_at spots k) where
    pub up-climbs : Climbs (lv - 1) (placed_in n spots) q.parent
    up-climbs = rw (placed-in n spots k listed, sym e) at (climb lv (placed_in n spots) k d c).1

    pub up-position : q.offset.0 + position_in (lv - 1) (placed_in n spots) q.parent ≡ position_in lv (placed_in n spots) k
    up-position = rw (placed-in n spots k listed, sym e) at (below lv (placed_in n spots) k d)

-- ---- section k, and the loops over all

module _ {s : List ℕ} {rows : List SectionRow} {spots : List Placed} {n : ℕ} (g : Laid s rows spots n) where
  pub many : length (layout_areas s (sections_in n rows) (placed_in n spots)) ≡ n
  many = length-areas s (sections_in n rows) (placed_in n spots) ∙ length-placed n spots

  pub few : n ≤ 128
  few = omega (arith, g.tree.room, length-sections n rows)

  module _ (k : ℕ) (h : k < n) where
    in-plan : k < length (placed_in n spots)
    in-plan = omega (arith, length-placed n spots)

    pub area-in : get_or (layout_areas s (sections_in n rows) (placed_in n spots)) k blank_area ≡ area_at s (sections_in n rows) (placed_in n spots) k
    area-in = area-is-at s (sections_in n rows) (placed_in n spots) k in-plan

    module _ {q : Placed} (e : q ≡ placed_at spots k) where
      pub section-climbs : Climbs q.level (placed_in n spots) k
      section-climbs = rw (placed-in n spots k h, sym e) at (climbs s g.size (sections_in n rows) (placed_in n spots) g.tree g.fitted k in-plan)

      pub position-fits : position_in q.level (placed_in n spots) k ≤ 4294967295
      position-fits =
          let w = rw (placed-in n spots k h, sym e) at (ends s g.size (sections_in n rows) (placed_in n spots) g.tree g.fitted k in-plan) in
          omega (arith, g.small)

      module _ {x : Section} (d : x ≡ section_at rows k) where
        pub name_fits : (x.place + x.length ≤ length s) × (x.length ≤ 32)
        name_fits = rw (section-in n rows k blank_section h, sym d) at (name-short (g.tree.each k (omega (arith, length-sections n rows))).named)

        pub area-made : {a : Area} (at : ℕ) → a ≡ area_from s x q at → at ≡ position_in q.level (placed_in n spots) k
            → a ≡ area_at s (sections_in n rows) (placed_in n spots) k
        unfolding area_at
        area-made at p r = rw (p, r, section-in n rows k blank_section h, placed-in n spots k h, d, e)
