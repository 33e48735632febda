-- An area's bytes are the map's own, and an accepted carry leaves the new map as it was.
use mathlib.Core.Path.{◌≡◌, sym, ap, subst, ◌∙◌}
use mathlib.Core.Logic.{◌⊎◌, inl, inr}
use mathlib.Core.Bool.{Bool, true, false}
use mathlib.Core.List.{List}
use mathlib.Core.Option.{none}
use Prim.Native.Nat.{ℕ, ◌+◌, ◌*◌, ◌≤◌, ◌<◌}
use native.Mathlib.Omega.{arith}
use lib.ListN.{length, get_or}
use lib.Seq.{ext_get_or}
use lib.Dec.{leb, ltb}
use borrow.Author.Tests.{leb-true, ltb-true, ltb-false, eqb-true}
use Rattle.octets.specs.Bytes.{part, rest, field}
use Rattle.octets.proofs.Bools.{and_l, and_r, and-skip, or_cases, or-false-l, or-false-r, not_f}
use Rattle.octets.proofs.Rows.{passes}
use Rattle.octets.proofs.Tests.{any_none}
use Rattle.octets.proofs.Parts.{length_part, get_d_part}
use Rattle.octets.proofs.Equal.{same_true}
use Rattle.fmap_rules.specs.declared.Extent.{Extent}
use Rattle.fmap_rules.specs.declared.ImagePosition.{ImagePosition}
use Rattle.fmap_rules.specs.declared.Area.{Area}
use Rattle.fmap_rules.specs.Map.{position, area_of, areas_of, blank_area, named, fmap_name, end_of, disjoint, holds_map, map_size, good_map}
use Rattle.fmap_rules.specs.Written.{area_bytes}
use Rattle.fmap_rules.proofs.Good.{good-within}
use Rattle.fmap_rules.proofs.Records.{count_at, areas-count, record-at, area-is-its-bytes, same_map}
use Rattle.fmap_carry.specs.Carry.{preserved, with_name, target, on_map, carry_rows}
use Rattle.fmap_carry.specs.Claims.{Arrived}
use Rattle.fmap.specs.Find.{accepted, out_of_range, find_map}
use Rattle.fmap.specs.Areas.{Looked, area_in, area_by, area_numbered}
use Rattle.fmap.specs.Carry.{place_rows, carry_at}
use Rattle.fmap.specs.Claims.{AreaBytesAreTheMaps, CarryKeepsMap}
use Rattle.fmap.proofs.Finding.{found-good}
use Rattle.fmap.proofs.Places.{old-good, new-good, new-stands, rows_pass}
use Rattle.fmap.proofs.Claims.{arrives, found-there}
use Rattle.fmap.proofs.InBytes.{held, only}

-- ---- an area's bytes

module _ (image : List ℕ) (small : (i : ℕ) → get_or image i 0 < 256) (p : ImagePosition) (k : ℕ) (f : find_map image ≡ accepted p) where
  good : good_map image p.0 ≡ true
  good = found-good image p f

  is-area : area_numbered image k ≡ area_in (areas_of (rest p.0 image)) k
  unfolding area_numbered
  is-area = ap (area_by image (λ areas. k)) f

  record-bytes : k < field (p.0 + 54) 2 image
      → area_bytes (area_of (part (p.0 + (56 + 42 * k)) 42 image)) ≡ part (p.0 + (56 + 42 * k)) 42 image
  record-bytes h =
      let l = length_part image (p.0 + (56 + 42 * k)) 42 (omega (arith, good-within image p.0 good, count_at image p.0 good)) in
      area-is-its-bytes (part (p.0 + (56 + 42 * k)) 42 image) l
      (λ i w. subst (λ (x : ℕ). x < 256) (sym (get_d_part image (p.0 + (56 + 42 * k)) 42 i w)) (small (p.0 + (56 + 42 * k) + i)))

  by_answer : (area_numbered image k).answer ≡ accepted true → area_bytes (area_numbered image k).area ≡ part (p.0 + (56 + 42 * k)) 42 image
  by_answer e =
      let t : ltb k (length (areas_of (rest p.0 image))) ≡ true = accepted-is _ _ (sym (ap (λ (l : Looked). l.answer) is-area) ∙ e) in
      let h : k < length (areas_of (rest p.0 image)) = ltb-true _ _ t in
      let w : k < field (p.0 + 54) 2 image = omega (arith, areas-count image p.0 good) in
      ap (λ (l : Looked). area_bytes l.area) is-area ∙ ap area_bytes (record-at image p.0 good k w) ∙ record-bytes w
    where
      accepted-is : (a b : Bool) → accepted a ≡ accepted b → a ≡ b
      accepted-is a b e = cc

pub area-bytes : AreaBytesAreTheMaps
area-bytes image small p k f e = by_answer image small p k f e

-- ---- the new map after a carry

module _ (old : List ℕ) (at : ℕ) (new : List ℕ) (bt : ℕ) (image : List ℕ) (e : carry_at old at new bt ≡ record { answer = none; image = image }) where
  abbrev olds : List Area
  olds = areas_of (rest at old)

  abbrev news : List Area
  news = areas_of (rest bt new)

  g : good_map old at ≡ true
  g = old-good old at new bt image e

  h : good_map new bt ≡ true
  h = new-good old at new bt image e

  abbrev size : ℕ
  size = 56 + 42 * field (bt + 54) 2 new

  -- area FMAP begins at the map and holds it
  own : with_name news fmap_name ≡ get_or news (held new bt h).0 blank_area
  unfolding with_name holds_map named
  own =
      let w = held new bt h in
      ap (λ (k : ℕ). get_or news k blank_area) (only old at new bt g h fmap_name w.0 w.1 (same_true _ _ (and_l _ _ w.2)))

  own_start : (with_name news fmap_name).place.start.0 ≡ bt
  unfolding holds_map
  own_start = ap (λ (a : Area). a.place.start.0) own ∙ eqb-true _ _ (and_l _ _ (and_r _ _ (held new bt h).2))

  own_size : size ≤ (with_name news fmap_name).place.size
  unfolding holds_map
  own_size =
      let w : map_size (length news) ≤ (get_or news (held new bt h).0 blank_area).place.size = leb-true _ _ (and_r _ _ (and_r _ _ (held new bt h).2)) in
      omega (arith, w, ap (λ (a : Area). a.place.size) own, areas-count new bt h)

  sides : (x y : Extent) → disjoint x y ≡ true → (end_of x ≤ y.start.0) ⊎ (end_of y ≤ x.start.0)
  unfolding disjoint
  sides x y q = go (or_cases _ _ q)
    where
      go : (leb (end_of x) y.start.0 ≡ true) ⊎ (leb (end_of y) x.start.0 ≡ true) → (end_of x ≤ y.start.0) ⊎ (end_of y ≤ x.start.0)
      go (inl w) = inl (leb-true _ _ w)
      go (inr w) = inr (leb-true _ _ w)

  clear : (x : ℕ) → bt ≤ x → x < bt + size → (i : ℕ) → i < length olds → preserved (get_or olds i blank_area) ≡ true
      → (x < (target news (get_or olds i blank_area)).start.0) ⊎ (end_of (target news (get_or olds i blank_area)) ≤ x)
  unfolding on_map
  clear x lo hi i l p =
      turn (sides (target news (get_or olds i blank_area)) (with_name news fmap_name).place
      (not_f _ (and-skip _ _ p (any_none (on_map news) olds blank_area
      (passes 63 (carry_rows olds news) (rows_pass old at new bt image e)) i l))))
    where
      turn : (end_of (target news (get_or olds i blank_area)) ≤ (with_name news fmap_name).place.start.0)
          ⊎ (end_of (with_name news fmap_name).place ≤ (target news (get_or olds i blank_area)).start.0)
          → (x < (target news (get_or olds i blank_area)).start.0) ⊎ (end_of (target news (get_or olds i blank_area)) ≤ x)
      turn (inl q) = inr (omega (arith, own_start))
      turn (inr q) = inl (omega (arith, own_start, own_size))

  r : Arrived old olds new news image
  r = arrives old at new bt image e

  ends : bt + size ≤ length new
  ends = omega (arith, good-within new bt h, count_at new bt h)

  bytes : part bt size image ≡ part bt size new
  bytes =
      let m = ends in
      let a = length_part image bt size (omega (arith, r.same_length)) in
      let b = length_part new bt size m in
      ext_get_or 0 (part bt size image) (part bt size new) (a ∙ sym b)
      (λ i w.
      let v : i < size = omega (arith, a, w) in
      get_d_part image bt size i v ∙ r.stay (bt + i) (clear (bt + i) (omega arith) (omega arith)) ∙ sym (get_d_part new bt size i v))

  kept : good_map image bt ≡ true
  kept =
      same_map image new bt r.same_length h
      (subst (λ (k : ℕ). part bt (56 + 42 * k) image ≡ part bt (56 + 42 * k) new) (sym (count_at new bt h)) bytes)

  range : out_of_range (length new) ≡ false
  range = passes 40 (place_rows new bt) (new-stands old at new bt image e)

  found : ((j : ℕ) → j < bt → good_map image j ≡ false) → find_map image ≡ accepted (position bt)
  unfolding out_of_range
  found lower =
      let lo : 98 ≤ length new = ltb-false _ _ (or-false-l _ _ range) in
      let hi : length new ≤ 16777216 = ltb-false _ _ (or-false-r _ _ range) in
      found-there image bt kept (omega (arith, r.same_length)) (omega (arith, r.same_length)) lower

pub carry-keeps-map : CarryKeepsMap
carry-keeps-map old at new bt image e =
    record { bytes = bytes old at new bt image e; good = kept old at new bt image e; found = found old at new bt image e }
