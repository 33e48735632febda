-- A map that is written at the start of its area FMAP is good there.
use mathlib.Core.Path.{◌≡◌, refl, sym, ap, ap₂, ◌∙◌}
use mathlib.Core.Bool.{true, not}
use mathlib.Core.List.{List, [], ◌∷◌, ◌++◌, map, append_assoc}
use Prim.Native.Nat.{ℕ, zero, suc, ◌+◌, ◌*◌, ◌/◌, ◌^◌, ◌≤◌, ◌<◌, suc-le-suc}
use native.Mathlib.Nat.{zero-lt-suc}
use native.Mathlib.Omega.{arith}
use lib.ListN.{length, get_or, take, drop, length-append}
use lib.Seq.{take_at, drop_at, length-take-le}
use borrow.Author.Tests.{eq-eqb, ne_eqb, le-ltb, leb-true, eqb-true}
use Rattle.octets.specs.Bytes.{le, unle, part, rest, field, put, same, chunks, flat}
use Rattle.octets.proofs.Bools.{and_l, and_r}
use Rattle.octets.proofs.Rows.{pick-false}
use Rattle.octets.proofs.Tests.{any-get}
use Rattle.octets.proofs.Numbers.{length-le, unle-le}
use Rattle.octets.proofs.Parts.{part-here, part-skip, part-from, part_in, part-whole, rest_at, length_rest}
use Rattle.octets.proofs.Puts.{put-eq, length-put}
use Rattle.octets.proofs.Equal.{same_refl}
use Rattle.fmap_rules.specs.declared.Area.{Area}
use Rattle.fmap_rules.specs.Map.{signature, signed, major_of, minor_of, base_of, size_of, name_of, count_of, map_size, area_of, areas_in, areas_of}
use Rattle.fmap_rules.specs.Map.{blank_area, legal_name, header_rows, good_map_header, good_areas, good_map, holds_map}
use Rattle.fmap_rules.specs.Written.{area_bytes, map_bytes, Stored, Writable}
use Rattle.fmap_rules.specs.Claims.{WrittenIsGood, WrittenHeader}
use Rattle.fmap_rules.proofs.Good.{ends-in, holder, map-good}
use Rattle.fmap_rules.proofs.Rules.{none-holds}

-- ---- one area

pub length-area : (a : Area) → length a.name ≡ 32 → length (area_bytes a) ≡ 42
unfolding area_bytes
length-area a e = simp (length-append, length-le) (omega arith)

module _ (a : Area) (s : Stored a) where
  abbrev t3 : List ℕ
  t3 = le 2 a.flags

  abbrev t2 : List ℕ
  t2 = a.name ++ t3

  abbrev t1 : List ℕ
  t1 = le 4 a.place.size ++ t2

  start_is : field 0 4 (area_bytes a) ≡ a.place.start.0
  unfolding area_bytes
  start_is = ap unle (part-here (le 4 a.place.start.0) t1 4 (length-le 4 _)) ∙ unle-le 4 _ s.start

  size_is : field 4 4 (area_bytes a) ≡ a.place.size
  unfolding area_bytes
  size_is =
      ap unle (part-from (le 4 a.place.start.0) t1 4 4 (length-le 4 _) ∙ part-here (le 4 a.place.size) t2 4 (length-le 4 _)) ∙ unle-le 4 _ s.size

  name_is : part 8 32 (area_bytes a) ≡ a.name
  unfolding area_bytes
  name_is =
      part-skip (le 4 a.place.start.0) t1 4 4 32 (length-le 4 _)
      ∙ part-from (le 4 a.place.size) t2 4 32 (length-le 4 _)
      ∙ part-here a.name t3 32 s.name

  flags-is : field 40 2 (area_bytes a) ≡ a.flags
  unfolding area_bytes
  flags-is =
      ap unle
      (part-skip (le 4 a.place.start.0) t1 4 36 2 (length-le 4 _)
      ∙ part-skip (le 4 a.place.size) t2 4 32 2 (length-le 4 _)
      ∙ part-from a.name t3 32 2 s.name
      ∙ part-whole t3 2 (length-le 2 _))
      ∙ unle-le 2 _ s.flags

  area-is : area_of (area_bytes a) ≡ a
  unfolding area_of
  area-is = rw (start_is, size_is, name_is, flags-is)

-- ---- all areas

abbrev StoredAll : List Area → Type 0
StoredAll areas = (i : ℕ) → i < length areas → Stored (get_or areas i blank_area)

length-flat : (areas : List Area) → StoredAll areas → length (flat (map area_bytes areas)) ≡ 42 * length areas
length-flat [] f = refl
length-flat (a ∷ areas) f =
    length-append (area_bytes a) (flat (map area_bytes areas))
    ∙ omega (arith, length-area a (f zero (zero-lt-suc _)).name, length-flat areas (λ i h. f (suc i) (suc-le-suc h)))

chunks-flat : (areas : List Area) → StoredAll areas → map area_of (chunks 42 (length areas) (flat (map area_bytes areas))) ≡ areas
unfolding chunks
chunks-flat [] f = refl
chunks-flat (a ∷ areas) f =
    let s = f zero (zero-lt-suc _) in
    let l = length-area a s.name in
    ap₂ ◌∷◌ (ap area_of (take_at (area_bytes a) (flat (map area_bytes areas)) 42 l) ∙ area-is a s)
    (ap (λ (xs : List ℕ). map area_of (chunks 42 (length areas) xs)) (drop_at (area_bytes a) (flat (map area_bytes areas)) 42 l)
    ∙ chunks-flat areas (λ i h. f (suc i) (suc-le-suc h)))

areas-are : (areas : List Area) → StoredAll areas → areas_in (flat (map area_bytes areas)) ≡ areas
unfolding areas_in
areas-are areas f =
    let l = length-flat areas f in
    let e : length (flat (map area_bytes areas)) / 42 ≡ length areas = omega arith in
    ap (λ (k : ℕ). map area_of (chunks 42 k (flat (map area_bytes areas)))) e ∙ chunks-flat areas f

-- ---- the fields of the map's bytes

module _ (len : ℕ) (name : List ℕ) (base minor : ℕ) (areas : List Area) (wide : length name ≡ 32) (f : StoredAll areas) where
  abbrev mb : List ℕ
  mb = map_bytes len name base minor areas

  abbrev r6 : List ℕ
  r6 = flat (map area_bytes areas)

  abbrev r5 : List ℕ
  r5 = le 2 (length areas) ++ r6

  abbrev r4 : List ℕ
  r4 = name ++ r5

  abbrev r3 : List ℕ
  r3 = le 4 len ++ r4

  abbrev r2 : List ℕ
  r2 = le 8 base ++ r3

  length-map : length mb ≡ map_size (length areas)
  unfolding map_bytes
  length-map = let l = length-flat areas f in simp (length-append, length-le) (omega arith)

  sig-at : part 0 8 mb ≡ signature
  unfolding map_bytes part
  sig-at = refl

  major-at : part 8 1 mb ≡ 1 ∷ []
  unfolding map_bytes part
  major-at = refl

  minor-at : part 9 1 mb ≡ minor ∷ []
  unfolding map_bytes part
  minor-at = refl

  -- behind the signature and the version
  cut : (k n : ℕ) → part (10 + k) n mb ≡ part k n r2
  unfolding map_bytes
  cut k n = part-skip (95 ∷ 95 ∷ 70 ∷ 77 ∷ 65 ∷ 80 ∷ 95 ∷ 95 ∷ 1 ∷ minor ∷ []) r2 10 k n refl

  base-at : part 10 8 mb ≡ le 8 base
  base-at = cut 0 8 ∙ part-here (le 8 base) r3 8 (length-le 8 _)

  size-at : part 18 4 mb ≡ le 4 len
  size-at = cut 8 4 ∙ part-from (le 8 base) r3 8 4 (length-le 8 _) ∙ part-here (le 4 len) r4 4 (length-le 4 _)

  name-at : part 22 32 mb ≡ name
  name-at =
      cut 12 32 ∙ part-skip (le 8 base) r3 8 4 32 (length-le 8 _) ∙ part-from (le 4 len) r4 4 32 (length-le 4 _) ∙ part-here name r5 32 wide

  count_at : part 54 2 mb ≡ le 2 (length areas)
  count_at =
      cut 44 2
      ∙ part-skip (le 8 base) r3 8 36 2 (length-le 8 _)
      ∙ part-skip (le 4 len) r4 4 32 2 (length-le 4 _)
      ∙ part-from name r5 32 2 wide
      ∙ part-here (le 2 (length areas)) r6 2 (length-le 2 _)

  areas-at : part 56 (42 * length areas) mb ≡ r6
  areas-at =
      let n = 42 * length areas in
      cut 46 n
      ∙ part-skip (le 8 base) r3 8 38 n (length-le 8 _)
      ∙ part-skip (le 4 len) r4 4 34 n (length-le 4 _)
      ∙ part-skip name r5 32 2 n wide
      ∙ part-from (le 2 (length areas)) r6 2 n (length-le 2 _)
      ∙ part-whole r6 n (length-flat areas f)

-- ---- the image with the map written

module _ (image : List ℕ) (at : ℕ) (name : List ℕ) (base minor : ℕ) (areas : List Area) (w : Writable (length image) at name minor areas) where
  abbrev bytes : List ℕ
  bytes = map_bytes (length image) name base minor areas

  abbrev written : List ℕ
  written = put at bytes image

  pub bytes-length : length bytes ≡ map_size (length areas)
  bytes-length = length-map (length image) name base minor areas w.name_fits w.stored

  -- the area FMAP ends in the image, so the map does
  room : at + map_size (length areas) ≤ length image
  unfolding holds_map
  room =
      let h = any-get (holds_map at (length areas)) areas blank_area (holder (length image) at areas w.good) in
      let e = ends-in (length image) at areas w.good h.0 h.1 in
      let starts : (get_or areas h.0 blank_area).place.start.0 ≡ at = eqb-true _ _ (and_l _ _ (and_r _ _ h.2)) in
      let whole : map_size (length areas) ≤ (get_or areas h.0 blank_area).place.size = leb-true _ _ (and_r _ _ (and_r _ _ h.2)) in
      omega (arith, e, starts, whole)

  tail : List ℕ
  tail = drop (at + length bytes) image

  from_at : rest at written ≡ bytes ++ tail
  unfolding tail
  from_at =
      let l = bytes-length in
      let r = room in
      ap (rest at) (put-eq at bytes image (omega arith) ∙ append_assoc (take at image) bytes (drop (at + length bytes) image))
      ∙ rest_at (take at image) (bytes ++ drop (at + length bytes) image) at (length-take-le at image (omega arith))

  look : (k n : ℕ) → k + n ≤ map_size (length areas) → part k n (rest at written) ≡ part k n bytes
  look k n h = let l = bytes-length in ap (part k n) from_at ∙ part_in bytes tail k n (omega arith)

  length-written : length written ≡ length image
  length-written = length-put at bytes image

  length_from : map_size (length areas) ≤ length (rest at written)
  length_from = omega (arith, length_rest written at, length-written, room)

  count-is : count_of (rest at written) ≡ length areas
  count-is =
      ap unle (look 54 2 (omega arith) ∙ count_at (length image) name base minor areas w.name_fits w.stored)
      ∙ unle-le 2 (length areas) (omega (arith, w.few))

  areas-same : areas_of (rest at written) ≡ areas
  unfolding areas_of
  areas-same =
      ap (λ (k : ℕ). areas_in (part 56 (42 * k) (rest at written))) count-is
      ∙ ap areas_in (look 56 (42 * length areas) (omega arith) ∙ areas-at (length image) name base minor areas w.name_fits w.stored)
      ∙ areas-are areas w.stored

  field-same : (k n : ℕ) (vs : List ℕ) → k + n ≤ 56 → part k n bytes ≡ vs → field k n (rest at written) ≡ unle vs
  field-same k n vs h e = ap unle (look k n (omega arith) ∙ e)

  major-same : major_of (rest at written) ≡ 1
  unfolding unle
  major-same = field-same 8 1 _ (omega arith) (major-at (length image) name base minor areas w.name_fits w.stored)

  minor-same : minor_of (rest at written) ≡ minor
  unfolding unle
  minor-same = field-same 9 1 _ (omega arith) (minor-at (length image) name base minor areas w.name_fits w.stored) ∙ omega arith

  base_same : base < 256 ^ 8 → base_of (rest at written) ≡ base
  base_same h = field-same 10 8 _ (omega arith) (base-at (length image) name base minor areas w.name_fits w.stored) ∙ unle-le 8 base h

  size_same : size_of (rest at written) ≡ length image
  size_same =
      field-same 18 4 _ (omega arith) (size-at (length image) name base minor areas w.name_fits w.stored) ∙ unle-le 4 (length image) w.len_fits

  name-same : name_of (rest at written) ≡ name
  name-same = look 22 32 (omega arith) ∙ name-at (length image) name base minor areas w.name_fits w.stored

  header : good_map_header (length written) (rest at written) ≡ true
  unfolding good_map_header signed
  header =
      let c = count-is in
      let l = length_from in
      let sig : part 0 8 (rest at written) ≡ signature = look 0 8 (omega arith) ∙ sig-at (length image) name base minor areas w.name_fits w.stored in
      let h2 : 56 ≤ length (rest at written) = omega arith in
      let h4 : minor_of (rest at written) ≤ 1 = omega (arith, minor-same, w.version) in
      let h7 : count_of (rest at written) ≤ 128 = omega (arith, w.few) in
      let h8 : map_size (count_of (rest at written)) ≤ length (rest at written) = omega arith in
      none-holds (header_rows (length written) (rest at written))
      (pick-false _ 1 _ (ap not (ap (λ (x : List ℕ). same x signature) sig ∙ same_refl signature))
      ∙ pick-false _ 2 _ (le-ltb _ _ h2)
      ∙ pick-false _ 3 _ (ap not (eq-eqb _ _ major-same))
      ∙ pick-false _ 4 _ (le-ltb _ _ h4)
      ∙ pick-false _ 5 _ (ap not (eq-eqb _ _ (size_same ∙ sym length-written)))
      ∙ pick-false _ 6 _ (ne_eqb (count_of (rest at written)) 0 (λ e. omega (arith, e, w.some)))
      ∙ pick-false _ 7 _ (le-ltb _ _ h7)
      ∙ pick-false _ 8 _ (le-ltb _ _ h8)
      ∙ pick-false _ 9 _ (ap not (ap legal_name name-same ∙ w.legal)))

  is-good : good_map written at ≡ true
  is-good =
      map-good written at header
      (ap (λ (k : ℕ). good_areas k at (areas_of (rest at written))) length-written ∙ ap (good_areas (length image) at) areas-same ∙ w.good)

pub written-is-good : WrittenIsGood
written-is-good image at name base minor areas w =
    record { good = is-good image at name base minor areas w; same_areas = areas-same image at name base minor areas w }

pub written-header : WrittenHeader
written-header image at name base minor areas w h =
    record {
      major_is = major-same image at name base minor areas w;
      minor_is = minor-same image at name base minor areas w;
      base_is = base_same image at name base minor areas w h;
      size_is = size_same image at name base minor areas w;
      name_is = name-same image at name base minor areas w;
    }
