-- What the image's bytes say of a map makes it good.
use mathlib.Core.Path.{◌≡◌, refl, sym, ap, ◌∙◌}
use mathlib.Core.Logic.{◌⊎◌, inl, inr}
use mathlib.Core.Bool.{true, false, not}
use mathlib.Core.List.{List, [], ◌∷◌}
use Prim.Native.Nat.{ℕ, zero, suc, ◌+◌, ◌-◌, ◌≤◌, ◌<◌, suc-le-suc}
use native.Mathlib.Nat.{le_of_suc-le-suc, not-suc-le-zero, zero-lt-suc}
use native.Mathlib.Omega.{arith}
use lib.Dec.{eqb}
use lib.ListN.{length, get_or}
use lib.Seq.{get_or-drop}
use borrow.Author.Tests.{eq-eqb, ne_eqb, le-leb, le-ltb}
use Rattle.octets.specs.Tests.{◌and◌, any, find_ix}
use Rattle.octets.specs.Bytes.{unle, part, rest, field, same}
use Rattle.octets.proofs.Bools.{and_i, or-il, or-ir}
use Rattle.octets.proofs.Rows.{pick-false}
use Rattle.octets.proofs.Tests.{all-make, any-make}
use Rattle.octets.proofs.Numbers.{field-1}
use Rattle.octets.proofs.Parts.{length_part, length_rest, get_d_part, part-of-rest}
use Rattle.octets.proofs.Equal.{same_refl, same_false}
use Rattle.fmap_rules.specs.declared.Extent.{Extent}
use Rattle.fmap_rules.specs.declared.Area.{Area}
use Rattle.fmap_rules.specs.Map.{signature, minor_of, count_of, stops, name_length, legal_name, fmap_name}
use Rattle.fmap_rules.specs.Map.{map_size, areas_of, blank_area, named, end_of, disjoint, inside, disjoint_or_nested, header_rows, good_map_header}
use Rattle.fmap_rules.specs.Map.{holds_map}
use Rattle.fmap_rules.proofs.Rules.{none-holds}
use Rattle.fmap_rules.proofs.Good.{areas-good, map-good}
use Rattle.fmap_rules.proofs.Signature.{signed_part}
use Rattle.fmap_rules.proofs.Records.{start-at, size-at, name-at, count-in, count-whole, record-whole}
use Rattle.fmap.specs.InBytes.{record_of, count_in, start_in, size_in, name_in, NameAt, MapAt}
use Rattle.fmap.specs.Claims.{MapIsGood}

first_stops : (xs : List ℕ) (k : ℕ) → ((i : ℕ) → i < k → stops (get_or xs i 0) ≡ false) → k < length xs → stops (get_or xs k 0) ≡ true → find_ix stops xs ≡ k
first_stops [] k f h e = absurd (not-suc-le-zero h)
first_stops (x ∷ xs) zero f h e = rw (e, find_ix)
first_stops (x ∷ xs) (suc k) f h e =
    let q : stops x ≡ false = f zero (zero-lt-suc _) in
    rw (q, find_ix) (ap suc (first_stops xs k (λ i w. f (suc i) (suc-le-suc w)) (le_of_suc-le-suc h) e))

module _ (image : List ℕ) (r : ℕ) (h : r + 32 ≤ length image) (m : NameAt image r) where
  abbrev n : List ℕ
  n = part r 32 image

  goes : (b : ℕ) → 33 ≤ b → b ≤ 126 → stops b ≡ false
  unfolding stops
  goes b l u = ap not (and_i _ _ (le-leb 33 b l) (le-leb b 126 u))

  halts : stops 0 ≡ true
  unfolding stops ◌and◌
  halts = refl

  long : name_length n ≡ m.letters
  unfolding name_length
  long =
      let few = m.few in
      let l = length_part image r 32 h in
      first_stops n m.letters
      (λ i w. ap stops (get_d_part image r 32 i (omega arith)) ∙ goes _ (m.graphic i w).0 (m.graphic i w).1)
      (omega arith)
      (ap stops (get_d_part image r 32 m.letters (omega arith) ∙ m.then_zeros m.letters (omega arith) (omega arith)) ∙ halts)

  ends-in-zeros : (j : ℕ) → j < length (rest (name_length n) n) → eqb 0 (get_or (rest (name_length n) n) j 0) ≡ true
  unfolding rest
  ends-in-zeros j w =
      let q = long in
      let l = length_part image r 32 h in
      let d = length_rest n (name_length n) in
      eq-eqb 0 _ (sym (get_or-drop (name_length n) n j 0 ∙ get_d_part image r 32 (name_length n + j) (omega arith)
      ∙ m.then_zeros (name_length n + j) (omega arith) (omega arith)))

  pub legal-by-bytes : legal_name n ≡ true
  unfolding legal_name
  legal-by-bytes =
      let q = long in
      let some : 1 ≤ name_length n = omega (arith, m.some) in
      let few : name_length n ≤ 31 = omega (arith, m.few) in
      and_i _ _ (le-leb 1 _ some) (and_i _ _ (le-leb _ 31 few) (all-make (eqb 0) (rest (name_length n) n) 0 ends-in-zeros))

module _ (image : List ℕ) (at : ℕ) (m : MapAt image at) where
  abbrev o : List ℕ
  o = rest at image

  abbrev areas : List Area
  areas = areas_of o

  room : length o ≡ length image - at
  room = length_rest image at

  whole : map_size (count_of o) ≤ length o
  whole = omega (arith, room, m.ends, count-in image at)

  byte_at : (k : ℕ) → field k 1 o ≡ get_or image (at + k) 0
  byte_at k = ap unle (part-of-rest k 1 at image) ∙ field-1 (at + k) image

  header : good_map_header (length image) o ≡ true
  unfolding good_map_header
  header =
      let c = count-in image at in
      let w = whole in
      let h2 : 56 ≤ length o = omega arith in
      let h4 : minor_of o ≤ 1 = omega (arith, byte_at 9, m.minor) in
      let h7 : count_of o ≤ 128 = omega (arith, m.few) in
      none-holds (header_rows (length image) o)
      (pick-false _ 1 _ (ap not (signed_part image at ∙ ap (λ (l : List ℕ). same l signature) m.signature ∙ same_refl signature))
      ∙ pick-false _ 2 _ (le-ltb _ _ h2)
      ∙ pick-false _ 3 _ (ap not (eq-eqb _ 1 (byte_at 8 ∙ m.major)))
      ∙ pick-false _ 4 _ (le-ltb _ _ h4)
      ∙ pick-false _ 5 _ (ap not (eq-eqb _ _ (ap unle (part-of-rest 18 4 at image) ∙ m.size)))
      ∙ pick-false _ 6 _ (ne_eqb (count_of o) 0 (λ e. omega (arith, e, m.some)))
      ∙ pick-false _ 7 _ (le-ltb _ _ h7)
      ∙ pick-false _ 8 _ (le-ltb _ _ w)
      ∙ pick-false _ 9 _ (ap not (ap legal_name (part-of-rest 22 32 at image) ∙ legal-by-bytes image (at + 22) (omega (arith, room)) m.name)))

  back : (k : ℕ) → k < length areas → k < count_in image at
  back k h = omega (arith, count-whole image at whole)

  start_is : (k : ℕ) → k < length areas → (get_or areas k blank_area).place.start.0 ≡ start_in image (record_of at k)
  start_is k h = ap (λ (a : Area). a.place.start.0) (record-whole image at whole k (back k h)) ∙ start-at image (record_of at k)

  size_is : (k : ℕ) → k < length areas → (get_or areas k blank_area).place.size ≡ size_in image (record_of at k)
  size_is k h = ap (λ (a : Area). a.place.size) (record-whole image at whole k (back k h)) ∙ size-at image (record_of at k)

  name_is : (k : ℕ) → k < length areas → (get_or areas k blank_area).name ≡ name_in image (record_of at k)
  name_is k h = ap (λ (a : Area). a.name) (record-whole image at whole k (back k h)) ∙ name-at image (record_of at k)

  nested : (x y : Extent) (sx zx sy zy : ℕ) → x.start.0 ≡ sx → x.size ≡ zx → y.start.0 ≡ sy → y.size ≡ zy
      → ((sx + zx ≤ sy) ⊎ (sy + zy ≤ sx)) ⊎ (((sy ≤ sx) × (sx + zx ≤ sy + zy)) ⊎ ((sx ≤ sy) × (sy + zy ≤ sx + zx))) → disjoint_or_nested x y ≡ true
  unfolding disjoint_or_nested disjoint inside
  nested x y sx zx sy zy a b c d (inl (inl h)) = or-il _ _ (or-il _ _ (le-leb (end_of x) y.start.0 (omega arith)))
  nested x y sx zx sy zy a b c d (inl (inr h)) = or-il _ _ (or-ir _ _ (le-leb (end_of y) x.start.0 (omega arith)))
  nested x y sx zx sy zy a b c d (inr (inl (h, k))) =
      or-ir _ _ (or-il _ _ (and_i _ _ (le-leb y.start.0 x.start.0 (omega arith)) (le-leb (end_of x) (end_of y) (omega arith))))
  nested x y sx zx sy zy a b c d (inr (inr (h, k))) =
      or-ir _ _ (or-ir _ _ (and_i _ _ (le-leb x.start.0 y.start.0 (omega arith)) (le-leb (end_of y) (end_of x) (omega arith))))

  own : any (holds_map at (length areas)) areas ≡ true
  unfolding holds_map named
  own =
      let k = m.own_area in
      let h : k < length areas = omega (arith, count-whole image at whole, m.own_there) in
      let z : map_size (length areas) ≤ (get_or areas k blank_area).place.size = omega (arith, size_is k h, m.own_size, count-whole image at whole) in
      any-make (holds_map at (length areas)) areas blank_area k h
      (and_i _ _ (ap (same fmap_name) (name_is k h ∙ m.own_name) ∙ same_refl fmap_name)
      (and_i _ _ (eq-eqb _ at (start_is k h ∙ m.own_start)) (le-leb _ _ z)))

  differ : (i j : ℕ) → i < j → j < length areas → named (get_or areas i blank_area).name (get_or areas j blank_area) ≡ false
  unfolding named
  differ i j h k =
      same_false _ _ (λ e. m.names_differ i j h (back j k) (sym (name_is i (omega arith)) ∙ e ∙ name_is j k))

pub map-is-good : MapIsGood
map-is-good image at m =
    map-good image at (header image at m)
    (areas-good (length image) at (areas_of (rest at image))
    (λ i h. omega (arith, size_is image at m i h, m.areas_some i (back image at m i h)))
    (λ i h. omega (arith, start_is image at m i h, size_is image at m i h, m.areas_end i (back image at m i h)))
    (λ i h. ap legal_name (name_is image at m i h)
    ∙ legal-by-bytes image (record_of at i + 8) (omega (arith, m.ends, back image at m i h)) (m.areas_named i (back image at m i h)))
    (own image at m) (differ image at m)
    (λ i j h k. nested image at m _ _ _ _ _ _ (start_is image at m i (omega arith)) (size_is image at m i (omega arith))
    (start_is image at m j k) (size_is image at m j k) (m.apart i j h (back image at m j k))))
