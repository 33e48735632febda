-- What an accepted text says can be written as a good map.
use mathlib.Core.Path.{◌≡◌, refl, sym, ap, subst, ◌∙◌}
use mathlib.Core.Bool.{Bool, true, false}
use mathlib.Core.List.{List}
use Prim.Native.Nat.{ℕ, ◌≤◌, ◌<◌, ◌^◌}
use native.Mathlib.Omega.{arith}
use lib.ListN.{length, get_or}
use borrow.Author.Tests.{le-leb, eq-eqb}
use Rattle.octets.specs.Tests.{any}
use Rattle.octets.specs.Bytes.{same}
use Rattle.octets.proofs.Bools.{and_i}
use Rattle.octets.proofs.Tests.{any-make}
use Rattle.octets.proofs.Equal.{same_refl}
use Rattle.fmap_rules.specs.Map.{blank_area, legal_name, fmap_name, named, map_size, good_areas, holds_map}
use Rattle.fmap_rules.specs.Written.{Stored, Writable}
use Rattle.fmap_rules.specs.declared.Area.{Area}
use Rattle.fmap_rules.proofs.Good.{areas-good}
use Rattle.fmd_parse.specs.Trees.{blank_section}
use Rattle.fmd_table.specs.declared.Section.{Section}
use Rattle.fmd_head.specs.declared.TextImage.{TextImage}
use Rattle.fmd_table.specs.declared.Placed.{Placed}
use Rattle.fmd_check.specs.Claims.{Accepted}
use Rattle.fmd_check.specs.Areas.{stored_name, flags_of, area_from, area_at, layout_areas}
use Rattle.fmd_check.specs.Nested.{Nested}
use Rattle.fmd_check.proofs.Shape.{length-areas, area-at}
use Rattle.fmd_check.proofs.Nested.{areas-nested, apart-test}
use Rattle.fmd_check.proofs.Names.{length-stored, stored-legal, area-legal, area-name-length, area-fmap, area-names-differ}

flags-small : (b : Bool) → flags_of b < 256 ^ 2
flags-small true = omega arith
flags-small false = omega arith

module _ (s : List ℕ) (i : TextImage) (l : List Section) (ps : List Placed) (m : ℕ) (a : Accepted s i l ps m) where
  abbrev areas : List Area
  areas = layout_areas s l ps

  -- the position of section FMAP
  abbrev at : ℕ
  at = (area_at s l ps m).place.start.0

  nested : Nested i.size l areas
  nested = areas-nested s i.size l ps a.tree a.fitted

  there : (k : ℕ) → k < length areas → (k < length l)
  there k h = rw nested.count at h

  area-is : (k : ℕ) → k < length areas → get_or areas k blank_area ≡ area_at s l ps k
  area-is k h = area-at s l ps k (rw (length-areas s l ps) at h)

  legal-at : (k : ℕ) → k < length areas → legal_name (get_or areas k blank_area).name ≡ true
  legal-at k h = rw (area-is k h) (area-legal s l ps a.tree k (there k h))

  size-some : (k : ℕ) → k < length areas → 1 ≤ (get_or areas k blank_area).place.size
  size-some k h = omega (arith, nested.some k h)

  stored : (k : ℕ) → k < length areas → Stored (get_or areas k blank_area)
  unfolding area_at area_from
  stored k h =
      let e = nested.within k h in
      let b = a.image.high in
      record {
        start = omega arith;
        size = omega arith;
        name = ap (λ (x : Area). length x.name) (area-is k h) ∙ area-name-length s l ps a.tree k (there k h);
        flags = subst (λ (x : Area). x.flags < 256 ^ 2) (sym (area-is k h)) (flags-small (get_or l k blank_section).preserve);
      }

  names_differ : (j k : ℕ) → j < k → k < length areas → named (get_or areas j blank_area).name (get_or areas k blank_area) ≡ false
  names_differ j k g h =
      let f : j < length areas = omega arith in
      rw (area-is j f, area-is k h) (area-names-differ s l ps a.tree j k g (there k h) (a.differ k (there k h)))

  large : map_size (length areas) ≤ (area_at s l ps m).place.size
  unfolding area_at area_from
  large = rw nested.count a.room

  holder : any (holds_map at (length areas)) areas ≡ true
  unfolding holds_map named
  holder =
      let h : m < length areas = rw nested.count a.there in
      any-make (holds_map at (length areas)) areas blank_area m h
      (rw (area-is m h)
      (and_i _ _ (ap (same fmap_name) (area-fmap s l ps a.tree m a.there a.called) ∙ same_refl fmap_name)
      (and_i _ _ (eq-eqb at at refl) (le-leb _ _ large))))

  pub good-areas : good_areas i.size at areas ≡ true
  good-areas =
      areas-good i.size at areas size-some nested.within legal-at holder names_differ
      (λ j k g h. apart-test _ _ (nested.apart j k (omega arith) h))

  pub writable : Writable i.size at (stored_name s i.place i.length) 1 areas
  writable =
      let c = nested.count in
      record {
        len_fits = omega (arith, a.image.high);
        version = omega arith;
        some = omega (arith, a.some);
        few = omega (arith, a.tree.room);
        name_fits = length-stored a.image.named;
        legal = stored-legal a.image.named;
        stored = stored;
        good = good-areas;
      }
