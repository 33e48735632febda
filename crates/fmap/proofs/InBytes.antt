-- A good map and a carry by the image's bytes.
use mathlib.Core.Path.{◌≡◌, refl, sym, ap, ◌∙◌}
use mathlib.Core.Logic.{◌⊎◌, inl, inr}
use mathlib.Core.Bool.{Bool, true, false}
use mathlib.Core.List.{List}
use mathlib.Core.Option.{none}
use Prim.Native.Nat.{ℕ, ◌+◌, ◌*◌, ◌/◌, ◌%◌, ◌≤◌, ◌<◌}
use native.Mathlib.Omega.{arith}
use lib.ListN.{length, get_or}
use lib.Dec.{eqb, leb, ltb}
use borrow.Author.Tests.{eq-eqb, eqb-true, eqb-false, leb-true, ltb-true, ltb-false}
use Rattle.octets.specs.Rows.{refusal}
use Rattle.octets.specs.Tests.{◌and◌, ◌or◌, find_ix}
use Rattle.octets.specs.Bytes.{unle, part, rest, field, same}
use Rattle.octets.proofs.Bools.{and_l, and_r, or_cases, not_f, clash}
use Rattle.octets.proofs.Rows.{passes}
use Rattle.octets.proofs.Tests.{any-get, any-make, any_none, pairs-get, find_ix-get}
use Rattle.octets.proofs.Numbers.{field-1}
use Rattle.octets.proofs.Parts.{get_d_part, part-of-rest}
use Rattle.octets.proofs.Equal.{same_true, same_refl}
use Rattle.fmap_rules.specs.declared.Extent.{Extent}
use Rattle.fmap_rules.specs.declared.Area.{Area}
use Rattle.fmap_rules.specs.Map.{signature, minor_of, fmap_name, legal_name, map_size, areas_of, blank_area, named, end_of, disjoint}
use Rattle.fmap_rules.specs.Map.{inside, disjoint_or_nested, header_rows, area_rows, good_map_header, good_areas, good_map, holds_map, empty, good_places}
use Rattle.fmap_rules.proofs.Rules.{holds-none}
use Rattle.fmap_rules.proofs.Good.{good-header, good-areas, good-fits, good-within, header-signed, holder, ends-in, legal, names_differ}
use Rattle.fmap_rules.proofs.Signature.{signed_part}
use Rattle.fmap_rules.proofs.Records.{start-at, size-at, name-at, flags-at, count_at, areas-count, record-at}
use Rattle.fmap_carry.specs.Carry.{preserved, with_name, target, carry_rows}
use Rattle.fmap_carry.specs.Claims.{Arrived}
use Rattle.fmap_carry.proofs.Passed.{present, size_same}
use Rattle.fmap.specs.InBytes.{record_of, count_in, start_in, size_in, name_in, NameAt, Apart, Goes}
use Rattle.fmap.specs.Claims.{GoodIsMap, CarriesBytes}
use Rattle.fmap.proofs.NameBytes.{name-at as name-by-bytes}
use Rattle.fmap.proofs.Places.{old-good, new-good, rows_pass}
use Rattle.fmap.proofs.Claims.{arrives}

-- ---- the areas of a good map by its records

module _ (image : List ℕ) (at : ℕ) (g : good_map image at ≡ true) where
  abbrev areas : List Area
  areas = areas_of (rest at image)

  pub there : (k : ℕ) → k < count_in image at → k < length areas
  there k h = omega (arith, areas-count image at g)

  pub back : (k : ℕ) → k < length areas → k < count_in image at
  back k h = omega (arith, areas-count image at g)

  pub start_is : (k : ℕ) → k < count_in image at → (get_or areas k blank_area).place.start.0 ≡ start_in image (record_of at k)
  start_is k h = ap (λ (a : Area). a.place.start.0) (record-at image at g k h) ∙ start-at image (record_of at k)

  pub size_is : (k : ℕ) → k < count_in image at → (get_or areas k blank_area).place.size ≡ size_in image (record_of at k)
  size_is k h = ap (λ (a : Area). a.place.size) (record-at image at g k h) ∙ size-at image (record_of at k)

  pub name_is : (k : ℕ) → k < count_in image at → (get_or areas k blank_area).name ≡ name_in image (record_of at k)
  name_is k h = ap (λ (a : Area). a.name) (record-at image at g k h) ∙ name-at image (record_of at k)

  flags-is : (k : ℕ) → k < count_in image at → (get_or areas k blank_area).flags ≡ field (record_of at k + 40) 2 image
  flags-is k h = ap (λ (a : Area). a.flags) (record-at image at g k h) ∙ flags-at image (record_of at k)

  rows : refusal (header_rows (length image) (rest at image)) ≡ none
  unfolding good_map_header
  rows = holds-none (header_rows (length image) (rest at image)) (good-header image at g)

  area-rows : refusal (area_rows (length image) at areas) ≡ none
  unfolding good_areas
  area-rows = holds-none (area_rows (length image) at areas) (good-areas image at g)

  byte_at : (k : ℕ) → field k 1 (rest at image) ≡ get_or image (at + k) 0
  byte_at k = ap unle (part-of-rest k 1 at image) ∙ field-1 (at + k) image

  signature-is : part at 8 image ≡ signature
  signature-is = same_true (part at 8 image) signature (sym (signed_part image at) ∙ header-signed (length image) (rest at image) (good-header image at g))

  some_byte : (k : ℕ) → k < count_in image at → 1 ≤ size_in image (record_of at k)
  unfolding empty
  some_byte k h =
      let e : (get_or areas k blank_area).place.size ≡ 0 → ⊥ =
      eqb-false _ 0 (any_none empty areas blank_area (passes 10 (area_rows (length image) at areas) area-rows) k (there k h)) in
      let s = size_is k h in
      omega (arith, e)

  ends : (k : ℕ) → k < count_in image at → start_in image (record_of at k) + size_in image (record_of at k) ≤ length image
  ends k h = omega (arith, ends-in (length image) at areas (good-areas image at g) k (there k h), start_is k h, size_is k h)

  header-named : NameAt image (at + 22)
  header-named =
      name-by-bytes image (at + 22) (omega (arith, good-within image at g))
      (ap legal_name (sym (part-of-rest 22 32 at image)) ∙ not_f _ (passes 9 (header_rows (length image) (rest at image)) rows))

  pub area-room : (k : ℕ) → k < count_in image at → record_of at k + 8 + 32 ≤ length image
  area-room k h = omega (arith, good-within image at g, count_at image at g)

  pub area-legal : (k : ℕ) → k < count_in image at → legal_name (name_in image (record_of at k)) ≡ true
  area-legal k h = ap legal_name (sym (name_is k h)) ∙ legal (length image) at areas (good-areas image at g) k (there k h)

  area-named : (k : ℕ) → k < count_in image at → NameAt image (record_of at k + 8)
  area-named k h = name-by-bytes image (record_of at k + 8) (area-room k h) (area-legal k h)

  pub differ : (i j : ℕ) → i < j → j < count_in image at → name_in image (record_of at i) ≡ name_in image (record_of at j) → ⊥
  unfolding named
  differ i j h k e =
      let n = names_differ (length image) at areas (good-areas image at g) i j h (there j k) in
      clash (ap (same (get_or areas i blank_area).name) (name_is j k ∙ sym e ∙ sym (name_is i (omega arith))) ∙ same_refl (get_or areas i blank_area).name) n

  -- M7 of two areas, by their numbers
  sides : (x y : Extent) (sx zx sy zy : ℕ) → x.start.0 ≡ sx → x.size ≡ zx → y.start.0 ≡ sy → y.size ≡ zy → disjoint_or_nested x y ≡ true
      → ((sx + zx ≤ sy) ⊎ (sy + zy ≤ sx)) ⊎ (((sy ≤ sx) × (sx + zx ≤ sy + zy)) ⊎ ((sx ≤ sy) × (sy + zy ≤ sx + zx)))
  unfolding disjoint_or_nested disjoint inside
  sides x y sx zx sy zy a b c d e = go (or_cases _ _ e)
    where
      outside : (leb (end_of x) y.start.0 ≡ true) ⊎ (leb (end_of y) x.start.0 ≡ true) → (sx + zx ≤ sy) ⊎ (sy + zy ≤ sx)
      outside (inl q) = let w : end_of x ≤ y.start.0 = leb-true _ _ q in inl (omega arith)
      outside (inr q) = let w : end_of y ≤ x.start.0 = leb-true _ _ q in inr (omega arith)

      within : ((leb y.start.0 x.start.0 and leb (end_of x) (end_of y)) ≡ true) ⊎ ((leb x.start.0 y.start.0 and leb (end_of y) (end_of x)) ≡ true)
          → ((sy ≤ sx) × (sx + zx ≤ sy + zy)) ⊎ ((sx ≤ sy) × (sy + zy ≤ sx + zx))
      within (inl q) =
          let u : y.start.0 ≤ x.start.0 = leb-true _ _ (and_l _ _ q) in
          let v : end_of x ≤ end_of y = leb-true _ _ (and_r _ _ q) in
          inl (omega arith, omega arith)
      within (inr q) =
          let u : x.start.0 ≤ y.start.0 = leb-true _ _ (and_l _ _ q) in
          let v : end_of y ≤ end_of x = leb-true _ _ (and_r _ _ q) in
          inr (omega arith, omega arith)

      go : (disjoint x y ≡ true) ⊎ ((inside x y or inside y x) ≡ true)
          → ((sx + zx ≤ sy) ⊎ (sy + zy ≤ sx)) ⊎ (((sy ≤ sx) × (sx + zx ≤ sy + zy)) ⊎ ((sx ≤ sy) × (sy + zy ≤ sx + zx)))
      go (inl q) = inl (outside (or_cases _ _ q))
      go (inr q) = inr (within (or_cases _ _ q))

  apart : (i j : ℕ) → i < j → j < count_in image at → Apart image (record_of at i) (record_of at j)
  unfolding good_places
  apart i j h k =
      let w : i < count_in image at = omega arith in
      sides (get_or areas i blank_area).place (get_or areas j blank_area).place _ _ _ _ (start_is i w) (size_is i w) (start_is j k) (size_is j k)
      (pairs-get good_places areas blank_area (not_f _ (passes 15 (area_rows (length image) at areas) area-rows)) i j h (there j k))

  pub held : (k : ℕ) × (k < length areas) × (holds_map at (length areas) (get_or areas k blank_area) ≡ true)
  held = any-get (holds_map at (length areas)) areas blank_area (holder (length image) at areas (good-areas image at g))

  held-name : name_in image (record_of at held.0) ≡ fmap_name
  unfolding holds_map named
  held-name = sym (name_is held.0 (back held.0 held.1)) ∙ sym (same_true _ _ (and_l _ _ held.2))

  held_start : start_in image (record_of at held.0) ≡ at
  unfolding holds_map
  held_start = sym (start_is held.0 (back held.0 held.1)) ∙ eqb-true _ _ (and_l _ _ (and_r _ _ held.2))

  held-size : 56 + 42 * count_in image at ≤ size_in image (record_of at held.0)
  unfolding holds_map
  held-size =
      let w : map_size (length areas) ≤ (get_or areas held.0 blank_area).place.size = leb-true _ _ (and_r _ _ (and_r _ _ held.2)) in
      omega (arith, w, size_is held.0 (back held.0 held.1), areas-count image at g)

pub good-is-map : GoodIsMap
good-is-map image at g =
    let major = not_f _ (passes 3 (header_rows (length image) (rest at image)) (rows image at g)) in
    let size = not_f _ (passes 5 (header_rows (length image) (rest at image)) (rows image at g)) in
    let minor : minor_of (rest at image) ≤ 1 = ltb-false _ _ (passes 4 (header_rows (length image) (rest at image)) (rows image at g)) in
    let c = count_at image at g in
    record {
      signature = signature-is image at g;
      major = sym (byte_at image at g 8) ∙ eqb-true _ _ major;
      minor = omega (arith, minor, byte_at image at g 9);
      size = sym (ap unle (part-of-rest 18 4 at image)) ∙ eqb-true _ _ size;
      some = omega (arith, (good-fits image at g).some);
      few = omega (arith, (good-fits image at g).few);
      ends = omega (arith, good-within image at g);
      name = header-named image at g;
      areas_named = area-named image at g;
      areas_some = some_byte image at g;
      areas_end = ends image at g;
      names_differ = differ image at g;
      apart = apart image at g;
      own_area = (held image at g).0;
      own_there = back image at g (held image at g).0 (held image at g).1;
      own_name = held-name image at g;
      own_start = held_start image at g;
      own_size = held-size image at g;
    }

-- ---- a carry

module _ (old : List ℕ) (at : ℕ) (new : List ℕ) (bt : ℕ) (g : good_map old at ≡ true) (h : good_map new bt ≡ true) where
  abbrev olds : List Area
  olds = areas_of (rest at old)

  abbrev news : List Area
  news = areas_of (rest bt new)

  pub marked : (i : ℕ) → i < count_in old at → field (record_of at i + 40) 2 old / 8 % 2 ≡ 1 → preserved (get_or olds i blank_area) ≡ true
  unfolding preserved
  marked i l e = eq-eqb _ 1 (ap (λ (f : ℕ). f / 8 % 2) (flags-is old at g i l) ∙ e)

  pub unmarked : (i : ℕ) → i < count_in old at → preserved (get_or olds i blank_area) ≡ true → field (record_of at i + 40) 2 old / 8 % 2 ≡ 1
  unfolding preserved
  unmarked i l e = sym (ap (λ (f : ℕ). f / 8 % 2) (flags-is old at g i l)) ∙ eqb-true _ 1 e

  -- the first area of a name is its only one
  pub only : (n : List ℕ) (j : ℕ) → j < length news → n ≡ (get_or news j blank_area).name → find_ix (named n) news ≡ j
  unfolding named
  only n j l e = go (eqb f j) refl
    where
      f : ℕ
      f = find_ix (named n) news

      hit : (f < length news) × (named n (get_or news f blank_area) ≡ true)
      hit = find_ix-get (named n) news blank_area (any-make (named n) news blank_area j l (ap (same n) (sym e) ∙ same_refl n))

      name-f : (get_or news f blank_area).name ≡ (get_or news j blank_area).name
      name-f = sym (same_true n (get_or news f blank_area).name hit.1) ∙ e

      go : (t : Bool) → eqb f j ≡ t → f ≡ j
      go true q = eqb-true _ _ q
      go false q = lower (ltb f j) refl
        where
          ne : f ≡ j → ⊥
          ne = eqb-false _ _ q

          lower : (t : Bool) → ltb f j ≡ t → f ≡ j
          lower true w =
              absurd (clash (ap (same (get_or news f blank_area).name) (sym name-f) ∙ same_refl (get_or news f blank_area).name)
              (names_differ (length new) bt news (good-areas new bt h) f j (ltb-true _ _ w) l))
          lower false w =
              let m : j ≤ f = ltb-false _ _ w in
              absurd (clash (ap (same (get_or news j blank_area).name) name-f ∙ same_refl (get_or news j blank_area).name)
              (names_differ (length new) bt news (good-areas new bt h) j f (omega (arith, ne)) hit.0))

  pub goes_to : (i j : ℕ) → Goes old at new bt i j → target news (get_or olds i blank_area) ≡ (get_or news j blank_area).place
  unfolding with_name
  goes_to i j w =
      ap (λ (k : ℕ). (get_or news k blank_area).place)
      (only (get_or olds i blank_area).name j (there new bt h j w.new_record)
      (name_is old at g i w.old_record ∙ w.same_name ∙ sym (name_is new bt h j w.new_record)))

  module _ (image : List ℕ) (e : refusal (carry_rows olds news) ≡ none) (r : Arrived old olds new news image) where
    arrive : (i j : ℕ) → Goes old at new bt i j → (k : ℕ) → k < size_in old (record_of at i)
        → get_or image (start_in new (record_of bt j) + k) 0 ≡ get_or old (start_in old (record_of at i) + k) 0
    arrive i j w k l =
        let a = r.arrive i (there old at g i w.old_record) (marked i w.old_record w.preserve) in
        let t = goes_to i j w in
        let ts : (target news (get_or olds i blank_area)).start.0 ≡ start_in new (record_of bt j) = ap (λ (x : Extent). x.start.0) t
        ∙ start_is new bt h j w.new_record in
        let os = start_is old at g i w.old_record in
        let oz = size_is old at g i w.old_record in
        let z = size_same olds news e i (there old at g i w.old_record) (marked i w.old_record w.preserve) in
        ap (λ (s : ℕ). get_or image (s + k) 0) (sym ts)
        ∙ sym (get_d_part image (target news (get_or olds i blank_area)).start.0 (target news (get_or olds i blank_area)).size k (omega (arith, z, oz)))
        ∙ ap (λ (xs : List ℕ). get_or xs k 0) a
        ∙ get_d_part old (get_or olds i blank_area).place.start.0 (get_or olds i blank_area).place.size k (omega (arith, oz))
        ∙ ap (λ (s : ℕ). get_or old (s + k) 0) os

    none_lost : (i : ℕ) → i < count_in old at → field (record_of at i + 40) 2 old / 8 % 2 ≡ 1 → (j : ℕ) × Goes old at new bt i j
    unfolding named
    none_lost i l p =
        let f = find_ix-get (named (get_or olds i blank_area).name) news blank_area (present olds news e i (there old at g i l) (marked i l p)) in
        let j = find_ix (named (get_or olds i blank_area).name) news in
        let b = back new bt h j f.0 in (
          j,
          record {
            old_record = l;
            new_record = b;
            preserve = p;
            same_name = sym (name_is old at g i l) ∙ same_true (get_or olds i blank_area).name (get_or news j blank_area).name f.1 ∙ name_is new bt h j b;
          },
        )

    stay : (x : ℕ)
        → ((i j : ℕ) → Goes old at new bt i j → (x < start_in new (record_of bt j)) ⊎ (start_in new (record_of bt j) + size_in new (record_of bt j) ≤ x))
        → get_or image x 0 ≡ get_or new x 0
    stay x c = r.stay x (λ i l p. side i l p)
      where
        side : (i : ℕ) → i < length olds → preserved (get_or olds i blank_area) ≡ true
            → (x < (target news (get_or olds i blank_area)).start.0) ⊎ (end_of (target news (get_or olds i blank_area)) ≤ x)
        side i l p = turn (c i n.0 n.1)
          where
            b : i < count_in old at
            b = back old at g i l

            n : (j : ℕ) × Goes old at new bt i j
            n = none_lost i b (unmarked i b p)

            t : target news (get_or olds i blank_area) ≡ (get_or news n.0 blank_area).place
            t = goes_to i n.0 n.1

            ts : (target news (get_or olds i blank_area)).start.0 ≡ start_in new (record_of bt n.0)
            ts = ap (λ (y : Extent). y.start.0) t ∙ start_is new bt h n.0 n.1.new_record

            tz : (target news (get_or olds i blank_area)).size ≡ size_in new (record_of bt n.0)
            tz = ap (λ (y : Extent). y.size) t ∙ size_is new bt h n.0 n.1.new_record

            turn : (x < start_in new (record_of bt n.0)) ⊎ (start_in new (record_of bt n.0) + size_in new (record_of bt n.0) ≤ x)
                → (x < (target news (get_or olds i blank_area)).start.0) ⊎ (end_of (target news (get_or olds i blank_area)) ≤ x)
            turn (inl q) = inl (omega (arith, ts))
            turn (inr q) = inr (omega (arith, ts, tz))

pub carries-bytes : CarriesBytes
carries-bytes old at new bt image e =
    let g = old-good old at new bt image e in
    let h = new-good old at new bt image e in
    let p = rows_pass old at new bt image e in
    let r = arrives old at new bt image e in
    record {
      same_length = r.same_length;
      none_lost = none_lost old at new bt g h image p r;
      arrive = arrive old at new bt g h image p r;
      stay = stay old at new bt g h image p r;
    }
