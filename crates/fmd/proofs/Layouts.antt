-- The layout of a text that is accepted: its areas by value, and room for its map.
use mathlib.Core.Path.{◌≡◌, sym, ap, ◌∙◌}
use mathlib.Core.List.{List, map}
use mathlib.Core.Option.{none}
use Prim.Native.Nat.{ℕ, ◌+◌, ◌*◌, ◌≤◌, ◌<◌}
use native.Mathlib.Omega.{arith}
use lib.ListN.{length, get_or}
use borrow.Author.Tests.{eq-eqb}
use Rattle.octets.specs.Bytes.{part, put, flat}
use Rattle.fmap_rules.specs.Written.{area_bytes, map_bytes}
use Rattle.fmap_rules.specs.declared.Area.{Area}
use Rattle.fmap_write.proofs.Fields.{map-written}
use Rattle.fmd_table.specs.Table.{sections_in, placed_in, HasRows, HasSpots}
use Rattle.fmd_table.proofs.Table.{length-sections}
use Rattle.fmd_head.specs.declared.TextImage.{TextImage}
use Rattle.fmd_table.proofs.Table.{length-placed}
use Rattle.fmd_table.specs.declared.SectionRow.{SectionRow}
use Rattle.fmd_table.specs.declared.Placed.{Placed}
use Rattle.fmd_check.specs.Check.{good, check_text}
use Rattle.fmd_check.proofs.Facts.{check-facts}
use Rattle.fmd_check.specs.Areas.{area_from, area_at, layout_areas}
use Rattle.fmd_check.specs.Claims.{Accepted}
use Rattle.fmd_check.specs.Invariants.{Laid}
use Rattle.fmd_check.proofs.Listed.{area-in}
use Rattle.fmap_rules.specs.Map.{blank_area}
use Rattle.fmd_check.proofs.Names.{name-short, length-stored}
use Rattle.fmd_check.proofs.Places.{ends}
use Rattle.fmd_check.proofs.Shape.{length-areas}
use Rattle.fmd.specs.Calls.{image_of, said_by, Read, Written, with_map, write_by}
use Rattle.fmd.specs.declared.Image.{Image as SaidImage}

-- ---- the tables of a text that is accepted

-- a text that is accepted, with the tables of its n sections; section m is FMAP
pub record Held (s : List ℕ) (i : TextImage) (rows : List SectionRow) (spots : List Placed) (n m : ℕ) : Type 0 where
  pub rows_room : HasRows 129 rows
  pub spots_room : HasSpots 128 spots
  pub accepted : Accepted s i (sections_in n rows) (placed_in n spots) m

-- what a check of the text answers, with the tables afterwards
pub held : (s : List ℕ) (i : TextImage) (rows : List SectionRow) (spots : List Placed) (n m : ℕ) → HasRows 129 rows → HasSpots 128 spots
    → good i (sections_in n rows) (placed_in n spots) m ≡ check_text s → Held s i rows spots n m
held s i rows spots n m p q e = record { rows_room = p; spots_room = q; accepted = rw (sym e) at (check-facts s) }

module _ {s : List ℕ} {i : TextImage} {rows : List SectionRow} {spots : List Placed} {n m : ℕ} (g : Held s i rows spots n m) where
  pub few : n ≤ 128
  few = omega (arith, g.accepted.tree.room, length-sections n rows)

  pub laid : Laid s rows spots n
  laid = record {
    rows_room = omega (arith, few, g.rows_room);
    spots_room = omega (arith, few, g.spots_room);
    tree = g.accepted.tree;
    size = i.size;
    small = omega (arith, g.accepted.image.high);
    fitted = g.accepted.fitted;
  }

  pub there : m < n
  there = omega (arith, g.accepted.there, length-sections n rows)

  pub named : (i.place + i.length ≤ length s) × (i.length ≤ 32) × (n ≤ 128)
  named = let w = name-short g.accepted.image.named in (w.0, w.1, few)

  -- the area of section FMAP, asked of the areas
  pub fmap-area : {areas : List Area} {a : Area} → areas ≡ layout_areas s (sections_in n rows) (placed_in n spots) → a ≡ get_or areas m blank_area
      → a ≡ area_at s (sections_in n rows) (placed_in n spots) m
  fmap-area e d = d ∙ (ap (λ (xs : List Area). get_or xs m blank_area) e ∙ area-in laid m there)

  -- the map fits between the start of section FMAP and the image's end
  pub map-room : {a : Area} → a ≡ area_at s (sections_in n rows) (placed_in n spots) m → a.place.start.0 + 56 + 42 * n ≤ i.size
  unfolding area_at area_from
  map-room {a} e =
      let start : a.place.start.0 ≡ (area_at s (sections_in n rows) (placed_in n spots) m).place.start.0 = ap (λ (x : Area). x.place.start.0) e in
      let w = ends s i.size (sections_in n rows) (placed_in n spots) g.accepted.tree g.accepted.fitted m (omega (arith, length-placed n spots, there)) in
      omega (arith, g.accepted.room, length-sections n rows)

  -- ---- what the calls answer

  module _ {x : SaidImage} (e : x ≡ image_of s i n) where
    image-is : x ≡ image_of s i (length (sections_in n rows))
    image-is = rw (length-sections n rows) e

    pub read_is :
        ◌≡◌ {A = Read} (record { answer = none; image = x })
        (record {
          answer = (said_by s (good i (sections_in n rows) (placed_in n spots) m)).answer;
          image =
              (said_by s (good i (sections_in n rows) (placed_in n spots) m)).image;
        })
    read_is = rw image-is

    module _ (image : List ℕ) (h : length image ≡ i.size) where
      pub map_is : (a : Area) (one two : List ℕ) → a ≡ area_at s (sections_in n rows) (placed_in n spots) m
          → ((areas : List Area) → n ≡ length areas → one ≡ put a.place.start.0 (part 0 56 (map_bytes x.size x.name x.address 1 areas)) image)
          → two ≡ put (a.place.start.0 + 56) (flat (map area_bytes (layout_areas s (sections_in n rows) (placed_in n spots)))) one
          → record { answer = none; at = a.place.start; image = two } ≡ write_by (said_by s (good i (sections_in n rows) (placed_in n spots) m)) image none
      unfolding image_of
      map_is a one two d p q =
          let areas = layout_areas s (sections_in n rows) (placed_in n spots) in
          let wide : length x.name ≡ 32 = rw e (length-stored g.accepted.image.named) in
          let w =
          map-written x.size x.name x.address 1 wide a.place.start.0 areas image one two
          (p areas (sym (length-areas s (sections_in n rows) (placed_in n spots) ∙ length-placed n spots))) q in
          let x = said_by s (good i (sections_in n rows) (placed_in n spots) m) in
          rw (eq-eqb (length image) i.size h) (ap {B = Written} (λ (y : List ℕ). record { answer = none; at = a.place.start; image = y }) (w ∙ rw (e, d, h))
          ∙ ap {B = Written} (λ (z : Area). record { answer = none; at = z.place.start; image = with_map x image }) d)
