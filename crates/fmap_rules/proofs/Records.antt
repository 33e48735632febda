-- The areas of a map by the image's bytes: record k stands 56 + 42 k bytes behind the map's position.
use mathlib.Core.Path.{◌≡◌, refl, sym, ap, ap₂, subst, ◌∙◌}
use mathlib.Core.Bool.{true, not}
use mathlib.Core.List.{List, [], ◌∷◌, ◌++◌, append-nil}
use mathlib.Core.Option.{none}
use Prim.Native.Nat.{ℕ, zero, suc, ◌+◌, ◌*◌, ◌/◌, ◌%◌, ◌≤◌, ◌<◌, suc-le-suc}
use native.Mathlib.Nat.{add-zero, zero-lt-suc, suc_inj}
use native.Mathlib.Omega.{arith}
use lib.Dec.{eqb, ltb}
use lib.ListN.{length, get_or, drop_of_length-le}
use Rattle.octets.specs.Rows.{refusal}
use Rattle.octets.specs.Bytes.{le, unle, part, rest, field, same}
use Rattle.octets.proofs.Rows.{passes, pick-false}
use Rattle.octets.proofs.Parts.{length_part, length_rest, get_d_part, part-on, part-part, part-of-rest}
use Rattle.fmap_rules.specs.declared.Area.{Area}
use Rattle.fmap_rules.specs.Map.{signature, signed, count_of, map_size, area_of, areas_in, areas_of, blank_area, legal_name, header_rows, good_map_header}
use Rattle.fmap_rules.specs.Map.{good_areas, good_map}
use Rattle.fmap_rules.specs.Written.{area_bytes}
use Rattle.fmap_rules.specs.Claims.{AreaIsItsBytes}
use Rattle.fmap_rules.proofs.Areas.{length-areas, area-part}
use Rattle.fmap_rules.proofs.Rules.{holds-none, none-holds}
use Rattle.fmap_rules.proofs.Good.{good-header, good-areas, good-fits, map-good}

-- ---- the fields of a record that begins at r

module _ (xs : List ℕ) (r : ℕ) where
  pub start-at : (area_of (part r 42 xs)).place.start.0 ≡ field r 4 xs
  unfolding area_of
  start-at = ap unle (part-part 0 4 r 42 xs (omega arith) ∙ ap (λ (k : ℕ). part k 4 xs) (add-zero r))

  pub size-at : (area_of (part r 42 xs)).place.size ≡ field (r + 4) 4 xs
  unfolding area_of
  size-at = ap unle (part-part 4 4 r 42 xs (omega arith))

  pub name-at : (area_of (part r 42 xs)).name ≡ part (r + 8) 32 xs
  unfolding area_of
  name-at = part-part 8 32 r 42 xs (omega arith)

  pub flags-at : (area_of (part r 42 xs)).flags ≡ field (r + 40) 2 xs
  unfolding area_of
  flags-at = ap unle (part-part 40 2 r 42 xs (omega arith))

-- ---- the records of a good map

module _ (image : List ℕ) (at : ℕ) where
  pub count-in : count_of (rest at image) ≡ field (at + 54) 2 image
  count-in = ap unle (part-of-rest 54 2 at image)

  module _ (w : map_size (count_of (rest at image)) ≤ length (rest at image)) where
    records : List ℕ
    records = part 56 (42 * count_of (rest at image)) (rest at image)

    length-records : length records ≡ 42 * count_of (rest at image)
    unfolding records
    length-records = length_part (rest at image) 56 (42 * count_of (rest at image)) w

    pub count-whole : length (areas_of (rest at image)) ≡ field (at + 54) 2 image
    unfolding areas_of records
    count-whole = let l = length-records in length-areas records ∙ omega (arith, count-in)

    pub record-whole : (i : ℕ) → i < field (at + 54) 2 image → get_or (areas_of (rest at image)) i blank_area ≡ area_of (part (at + (56 + 42 * i)) 42 image)
    unfolding areas_of records
    record-whole i h =
        let l = length-records in
        area-part records i (omega (arith, count-in))
        ∙ ap area_of (part-part (42 * i) 42 56 (42 * count_of (rest at image)) (rest at image) (omega (arith, count-in))
        ∙ part-of-rest (56 + 42 * i) 42 at image)

  module _ (g : good_map image at ≡ true) where
    pub count_at : count_of (rest at image) ≡ field (at + 54) 2 image
    count_at = count-in

    pub areas-count : length (areas_of (rest at image)) ≡ field (at + 54) 2 image
    areas-count = count-whole (good-fits image at g).whole

    pub record-at : (i : ℕ) → i < field (at + 54) 2 image → get_or (areas_of (rest at image)) i blank_area ≡ area_of (part (at + (56 + 42 * i)) 42 image)
    record-at = record-whole (good-fits image at g).whole

-- ---- an area's bytes

le-unle : (xs : List ℕ) (k : ℕ) → length xs ≡ k → ((i : ℕ) → i < length xs → get_or xs i 0 < 256) → le k (unle xs) ≡ xs
unfolding le unle
le-unle [] zero e f = refl
le-unle [] (suc k) e f = absurd (omega (arith, e))
le-unle (x ∷ xs) zero e f = absurd (omega (arith, e))
le-unle (x ∷ xs) (suc k) e f =
    let h = f zero (zero-lt-suc _) in
    let low : (x + 256 * unle xs) % 256 ≡ x = omega arith in
    let high : (x + 256 * unle xs) / 256 ≡ unle xs = omega arith in
    ap₂ ◌∷◌ low (ap (le k) high ∙ le-unle xs k (suc_inj e) (λ i b. f (suc i) (suc-le-suc b)))

none-behind : (b : List ℕ) → length b ≡ 42 → rest 42 b ≡ []
unfolding rest
none-behind b l = drop_of_length-le b {i = 42} (omega arith)

whole : (b : List ℕ) → rest 0 b ≡ b
unfolding rest
whole b = refl

field-bytes : (b : List ℕ) (r k : ℕ) → r + k ≤ length b → ((i : ℕ) → i < length b → get_or b i 0 < 256) → le k (field r k b) ≡ part r k b
field-bytes b r k h f =
    let l = length_part b r k h in
    le-unle (part r k b) k l (λ i w. subst (λ (x : ℕ). x < 256) (sym (get_d_part b r k i (omega (arith, l)))) (f (r + i) (omega (arith, l))))

pub area-is-its-bytes : AreaIsItsBytes
unfolding area_bytes area_of
area-is-its-bytes b l f =
    let g : (i : ℕ) → i < length b → get_or b i 0 < 256 = λ i h. f i (omega (arith, h)) in
    let nothing : rest 42 b ≡ [] = none-behind b l in
    let flags : part 40 2 b ≡ rest 40 b = sym (append-nil (part 40 2 b)) ∙ ap (λ (x : List ℕ). part 40 2 b ++ x) (sym nothing) ∙ part-on b 40 2 in
    ap₂ ◌++◌ (field-bytes b 0 4 (omega arith) g)
    (ap₂ ◌++◌ (field-bytes b 4 4 (omega arith) g)
    (ap (λ (x : List ℕ). part 8 32 b ++ x) (field-bytes b 40 2 (omega arith) g ∙ flags) ∙ part-on b 8 32) ∙ part-on b 4 4)
    ∙ part-on b 0 4 ∙ whole b

-- ---- the same bytes are the same map

module _ (image other : List ℕ) (at : ℕ) (l : length image ≡ length other) (g : good_map other at ≡ true)
    (e : part at (map_size (count_of (rest at other))) image ≡ part at (map_size (count_of (rest at other))) other) where
  abbrev m : List ℕ
  m = rest at image

  abbrev o : List ℕ
  o = rest at other

  look : (k n : ℕ) → k + n ≤ map_size (count_of o) → part k n m ≡ part k n o
  look k n h =
      part-of-rest k n at image
      ∙ sym (part-part k n at (map_size (count_of o)) image h)
      ∙ ap (part k n) e
      ∙ part-part k n at (map_size (count_of o)) other h
      ∙ sym (part-of-rest k n at other)

  same_length : length m ≡ length o
  same_length = omega (arith, l, length_rest image at, length_rest other at)

  same_count : count_of m ≡ count_of o
  same_count = ap unle (look 54 2 (omega arith))

  pub same_areas : areas_of m ≡ areas_of o
  unfolding areas_of
  same_areas = ap (λ (k : ℕ). areas_in (part 56 (42 * k) m)) same_count ∙ ap areas_in (look 56 (42 * count_of o) (omega arith))

  rows : refusal (header_rows (length other) o) ≡ none
  unfolding good_map_header
  rows = holds-none (header_rows (length other) o) (good-header other at g)

  same-header : good_map_header (length image) m ≡ true
  unfolding good_map_header signed
  same-header =
      let big : 56 ≤ map_size (count_of o) = omega arith in
      none-holds (header_rows (length image) m)
      (pick-false _ 1 _ (ap (λ (x : List ℕ). not (same x signature)) (look 0 8 (omega arith)) ∙ passes 1 (header_rows (length other) o) rows)
      ∙ pick-false _ 2 _ (ap (λ (k : ℕ). ltb k 56) same_length ∙ passes 2 (header_rows (length other) o) rows)
      ∙ pick-false _ 3 _ (ap (λ (x : List ℕ). not (eqb (unle x) 1)) (look 8 1 (omega arith)) ∙ passes 3 (header_rows (length other) o) rows)
      ∙ pick-false _ 4 _ (ap (λ (x : List ℕ). ltb 1 (unle x)) (look 9 1 (omega arith)) ∙ passes 4 (header_rows (length other) o) rows)
      ∙ pick-false _ 5 _
      (ap₂ (λ (x : List ℕ) (k : ℕ). not (eqb (unle x) k)) (look 18 4 (omega arith)) l ∙ passes 5 (header_rows (length other) o) rows)
      ∙ pick-false _ 6 _ (ap (λ (k : ℕ). eqb k 0) same_count ∙ passes 6 (header_rows (length other) o) rows)
      ∙ pick-false _ 7 _ (ap (ltb 128) same_count ∙ passes 7 (header_rows (length other) o) rows)
      ∙ pick-false _ 8 _ (ap₂ (λ (n k : ℕ). ltb n (map_size k)) same_length same_count ∙ passes 8 (header_rows (length other) o) rows)
      ∙ pick-false _ 9 _ (ap (λ (x : List ℕ). not (legal_name x)) (look 22 32 (omega arith)) ∙ passes 9 (header_rows (length other) o) rows))

  pub same_map : good_map image at ≡ true
  same_map =
      map-good image at same-header
      (ap₂ (λ (k : ℕ) (xs : List Area). good_areas k at xs) l same_areas ∙ good-areas other at g)
