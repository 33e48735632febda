-- When a carry is accepted, by the images' bytes.
use mathlib.Core.Path.{◌≡◌, refl, sym, ap, ◌∙◌}
use mathlib.Core.Logic.{◌⊎◌, inl, inr}
use mathlib.Core.Bool.{Bool, true, false, not}
use mathlib.Core.List.{List}
use mathlib.Core.Option.{Option, none}
use Prim.Native.Nat.{ℕ, ◌+◌, ◌≤◌, ◌<◌}
use native.Mathlib.Omega.{arith}
use lib.Dec.{eqb, leb}
use lib.ListN.{length, get_or}
use borrow.Author.Tests.{eq-eqb, leb-true, leb-false, not-false}
use Rattle.octets.specs.Rows.{refusal}
use Rattle.octets.specs.Tests.{◌and◌, ◌or◌, any, pairs}
use Rattle.octets.specs.Bytes.{rest, same}
use Rattle.octets.proofs.Bools.{and_l, and_r, and_i, and-f, and-t, and-skip, or_cases, or-il, or-ir, or-skip, some-none, bool_cases}
use Rattle.octets.proofs.Rows.{passes}
use Rattle.octets.proofs.Tests.{any-make, any_none, any_false, pairs-get, pairs-make}
use Rattle.octets.proofs.Equal.{same_refl}
use Rattle.fmap_rules.specs.declared.ImagePosition.{ImagePosition}
use Rattle.fmap_rules.specs.declared.Extent.{Extent}
use Rattle.fmap_rules.specs.declared.Area.{Area}
use Rattle.fmap_rules.specs.Map.{areas_of, blank_area, named, fmap_name, end_of, disjoint, good_map}
use Rattle.fmap_carry.specs.Carry.{preserved, with_name, target, missing, other_size, clear_by, clear, on_map, carry_rows, Outcome, unless_refused, carried}
use Rattle.fmap_carry.specs.Carry.{carry_areas}
use Rattle.fmap_carry.proofs.Passed.{size_same, all_apart, judge-free}
use Rattle.fmap.specs.Find.{Reply, accepted, refused, find_map}
use Rattle.fmap.specs.Carry.{place_rows, carry_at, carry_to, carry_from, carry_images}
use Rattle.fmap.specs.InBytes.{record_of, count_in, start_in, size_in, name_in, Goes, MayCarry}
use Rattle.fmap.specs.Claims.{AcceptedByBytes, ImagesAcceptedByBytes}
use Rattle.fmap.proofs.Finding.{in-range, within}
use Rattle.fmap.proofs.Places.{place-good, old-stands, new-stands, old-good, new-good, rows_pass, both-stand}
use Rattle.fmap.proofs.Claims.{is_signed}
use Rattle.fmap.proofs.InBytes.{there, back, start_is, size_is, name_is, marked, unmarked, only, goes_to, good-is-map, carries-bytes}
use Rattle.fmap.proofs.FromBytes.{map-is-good}

-- ---- disjoint extents share no byte

module _ (x y : Extent) (sx zx sy zy : ℕ) (a : x.start.0 ≡ sx) (b : x.size ≡ zx) (c : y.start.0 ≡ sy) (d : y.size ≡ zy) where
  shares-none : disjoint x y ≡ true → (q : ℕ) → (sx ≤ q) × (q < sx + zx) → (sy ≤ q) × (q < sy + zy) → ⊥
  unfolding disjoint
  shares-none e q (g, h) (i, j) = go (or_cases _ _ e)
    where
      go : (leb (end_of x) y.start.0 ≡ true) ⊎ (leb (end_of y) x.start.0 ≡ true) → ⊥
      go (inl w) = let v : end_of x ≤ y.start.0 = leb-true _ _ w in omega arith
      go (inr w) = let v : end_of y ≤ x.start.0 = leb-true _ _ w in omega arith

  none-shared : 1 ≤ zx → 1 ≤ zy → ((q : ℕ) → (sx ≤ q) × (q < sx + zx) → (sy ≤ q) × (q < sy + zy) → ⊥) → disjoint x y ≡ true
  unfolding disjoint
  none-shared g h f = go (bool_cases (leb (end_of x) y.start.0)) (bool_cases (leb (end_of y) x.start.0)) (bool_cases (leb sx sy))
    where
      go : (leb (end_of x) y.start.0 ≡ true) ⊎ (leb (end_of x) y.start.0 ≡ false)
          → (leb (end_of y) x.start.0 ≡ true) ⊎ (leb (end_of y) x.start.0 ≡ false) → (leb sx sy ≡ true) ⊎ (leb sx sy ≡ false)
          → (leb (end_of x) y.start.0 or leb (end_of y) x.start.0) ≡ true
      go (inl w) v u = or-il _ _ w
      go (inr w) (inl v) u = or-ir _ _ v
      go (inr w) (inr v) (inl u) =
          let i : y.start.0 < end_of x = leb-false _ _ w in
          let k : sx ≤ sy = leb-true _ _ u in
          absurd (f sy (omega arith, omega arith) (omega arith, omega arith))
      go (inr w) (inr v) (inr u) =
          let j : x.start.0 < end_of y = leb-false _ _ v in
          let k : sy < sx = leb-false _ _ u in
          absurd (f sx (omega arith, omega arith) (omega arith, omega arith))

-- a row that asks t of the preserved areas alone
unasked : (t : Area → Bool) (a : Area) → (preserved a ≡ true → t a ≡ true) → (preserved a and not (t a)) ≡ false
unasked t a f = go (bool_cases (preserved a))
  where
    go : (preserved a ≡ true) ⊎ (preserved a ≡ false) → (preserved a and not (t a)) ≡ false
    go (inl p) = sym (and-t p (sym (ap not (f p))))
    go (inr p) = sym (and-f _ p)

-- ---- the areas of two good maps

module _ (old : List ℕ) (at : ℕ) (new : List ℕ) (bt : ℕ) (g : good_map old at ≡ true) (h : good_map new bt ≡ true) where
  abbrev olds : List Area
  olds = areas_of (rest at old)

  abbrev news : List Area
  news = areas_of (rest bt new)

  -- where an area goes, in numbers
  goal-start : (i j : ℕ) → Goes old at new bt i j → (target news (get_or olds i blank_area)).start.0 ≡ start_in new (record_of bt j)
  goal-start i j w = ap (λ (x : Extent). x.start.0) (goes_to old at new bt g h i j w) ∙ start_is new bt h j w.new_record

  goal-size : (i j : ℕ) → Goes old at new bt i j → (target news (get_or olds i blank_area)).size ≡ size_in new (record_of bt j)
  goal-size i j w = ap (λ (x : Extent). x.size) (goes_to old at new bt g h i j w) ∙ size_is new bt h j w.new_record

  -- area FMAP of the new map
  fmap-at : (f : ℕ) → f < count_in new bt → name_in new (record_of bt f) ≡ fmap_name → (with_name news fmap_name).place ≡ (get_or news f blank_area).place
  unfolding with_name
  fmap-at f l e = ap (λ (k : ℕ). (get_or news k blank_area).place) (only old at new bt g h fmap_name f (there new bt h f l) (sym (name_is new bt h f l ∙ e)))

  -- ---- what the rows ask, by bytes

  module _ (e : refusal (carry_rows olds news) ≡ none) where
    sizes : (i j : ℕ) → Goes old at new bt i j → size_in old (record_of at i) ≡ size_in new (record_of bt j)
    sizes i j w =
        sym (size_is old at g i w.old_record)
        ∙ size_same olds news e i (there old at g i w.old_record) (marked old at new bt g h i w.old_record w.preserve)
        ∙ goal-size i j w

    both : (i j k l : ℕ) → i < k → Goes old at new bt i j → Goes old at new bt k l
        → (disjoint (get_or olds i blank_area).place (get_or olds k blank_area).place ≡ true)
        × (disjoint (target news (get_or olds i blank_area)) (target news (get_or olds k blank_area)) ≡ true)
    unfolding clear clear_by
    both i j k l o w v =
        let c = pairs-get (clear news) olds blank_area (all_apart olds news e) i k o (there old at g k v.old_record) in
        let d =
        or-skip _ _ (ap not (marked old at new bt g h k v.old_record v.preserve))
        (or-skip _ _ (ap not (marked old at new bt g h i w.old_record w.preserve)) c) in
        (and_l _ _ d, and_r _ _ d)

    clear-of-map : (i j : ℕ) → Goes old at new bt i j → disjoint (target news (get_or olds i blank_area)) (with_name news fmap_name).place ≡ true
    unfolding on_map
    clear-of-map i j w =
        not-false _ (and-skip _ _ (marked old at new bt g h i w.old_record w.preserve)
        (any_none (on_map news) olds blank_area (passes 63 (carry_rows olds news) e) i (there old at g i w.old_record)))

  -- ---- and back

  module _ (m : MayCarry old at new bt) where
    goes : (i : ℕ) → i < length olds → preserved (get_or olds i blank_area) ≡ true → (j : ℕ) × Goes old at new bt i j
    goes i l p = m.none_missing i (back old at g i l) (unmarked old at new bt g h i (back old at g i l) p)

    none_missing : any (missing news) olds ≡ false
    unfolding missing named
    none_missing =
        any_false (missing news) olds blank_area
        (λ i l. unasked (λ a. any (named a.name) news) (get_or olds i blank_area)
        (λ p.
        let n = goes i l p in
        let w = n.1 in
        any-make (named (get_or olds i blank_area).name) news blank_area n.0 (there new bt h n.0 w.new_record)
        (ap (same (get_or olds i blank_area).name)
        (name_is new bt h n.0 w.new_record ∙ sym w.same_name ∙ sym (name_is old at g i w.old_record))
        ∙ same_refl (get_or olds i blank_area).name)))

    none_other : any (other_size news) olds ≡ false
    unfolding other_size
    none_other =
        any_false (other_size news) olds blank_area
        (λ i l. unasked (λ a. eqb a.place.size (target news a).size) (get_or olds i blank_area)
        (λ p.
        let n = goes i l p in
        let w = n.1 in
        eq-eqb _ _ (size_is old at g i w.old_record ∙ m.same_size i n.0 w ∙ sym (goal-size i n.0 w))))

    all-clear : pairs (clear news) olds ≡ true
    unfolding clear clear_by
    all-clear =
        pairs-make (clear news) olds blank_area
        (λ i k o l. go i k o l (bool_cases (preserved (get_or olds i blank_area))) (bool_cases (preserved (get_or olds k blank_area))))
      where
        go : (i k : ℕ) → i < k → k < length olds → (preserved (get_or olds i blank_area) ≡ true) ⊎ (preserved (get_or olds i blank_area) ≡ false)
            → (preserved (get_or olds k blank_area) ≡ true) ⊎ (preserved (get_or olds k blank_area) ≡ false)
            → clear news (get_or olds i blank_area) (get_or olds k blank_area) ≡ true
        go i k o l (inr p) q = or-il _ _ (ap not p)
        go i k o l (inl p) (inr q) = or-ir _ _ (or-il _ _ (ap not q))
        go i k o l (inl p) (inl q) =
            let n = goes i (omega arith) p in
            let n' = goes k l q in
            let w = n.1 in
            let v = n'.1 in
            or-ir _ _ (or-ir _ _ (and_i _ _
            (none-shared _ _ _ _ _ _ (start_is old at g i w.old_record) (size_is old at g i w.old_record) (start_is old at g k v.old_record)
            (size_is old at g k v.old_record) (m.old_map.areas_some i w.old_record) (m.old_map.areas_some k v.old_record)
            (m.old_apart i n.0 k n'.0 o w v))
            (none-shared _ _ _ _ _ _ (goal-start i n.0 w) (goal-size i n.0 w) (goal-start k n'.0 v) (goal-size k n'.0 v)
            (m.new_map.areas_some n.0 w.new_record) (m.new_map.areas_some n'.0 v.new_record) (m.new_apart i n.0 k n'.0 o w v))))

    none-on-map : any (on_map news) olds ≡ false
    unfolding on_map
    none-on-map =
        let f = m.new_map.own_area in
        let t = m.new_map.own_there in
        let place = fmap-at f t m.new_map.own_name in
        any_false (on_map news) olds blank_area
        (λ i l. unasked (λ a. disjoint (target news a) (with_name news fmap_name).place) (get_or olds i blank_area)
        (λ p.
        let n = goes i l p in
        let w = n.1 in
        none-shared _ _ _ _ _ _ (goal-start i n.0 w) (goal-size i n.0 w) (ap (λ (x : Extent). x.start.0) place ∙ start_is new bt h f t)
        (ap (λ (x : Extent). x.size) place ∙ size_is new bt h f t) (m.new_map.areas_some n.0 w.new_record) (m.new_map.areas_some f t)
        (m.off_map i n.0 f w t m.new_map.own_name)))

    rows-free : none ≡ refusal (carry_rows olds news)
    rows-free = judge-free olds news none_missing none_other all-clear none-on-map

-- ---- the two directions

lengths : (image : List ℕ) (at : ℕ) → refusal (place_rows image at) ≡ none → (98 ≤ length image) × (length image ≤ 16777216)
lengths image at e = within (length image) (passes 40 (place_rows image at) e)

may-carry : (old : List ℕ) (at : ℕ) (new : List ℕ) (bt : ℕ) → (carry_at old at new bt).answer ≡ none → MayCarry old at new bt
may-carry old at new bt a =
    let image = (carry_at old at new bt).image in
    let e : carry_at old at new bt ≡ record { answer = none; image = image } = ap (λ (o : Option ℕ). record { answer = o; image = image }) a in
    let g = old-good old at new bt image e in
    let h = new-good old at new bt image e in
    let r = rows_pass old at new bt image e in
    record {
      old_length = lengths old at (old-stands old at new bt image e);
      old_map = good-is-map old at g;
      new_length = lengths new bt (new-stands old at new bt image e);
      new_map = good-is-map new bt h;
      none_missing = (carries-bytes old at new bt image e).none_lost;
      same_size = sizes old at new bt g h r;
      old_apart = λ i j k l o w v.
          shares-none _ _ _ _ _ _ (start_is old at g i w.old_record) (size_is old at g i w.old_record) (start_is old at g k v.old_record)
          (size_is old at g k v.old_record) (both old at new bt g h r i j k l o w v).0;
      new_apart = λ i j k l o w v.
          shares-none _ _ _ _ _ _ (goal-start old at new bt g h i j w) (goal-size old at new bt g h i j w) (goal-start old at new bt g h k l v)
          (goal-size old at new bt g h k l v) (both old at new bt g h r i j k l o w v).1;
      off_map = λ i j f w l n.
          let place = fmap-at old at new bt g h f l n in
          shares-none _ _ _ _ _ _ (goal-start old at new bt g h i j w) (goal-size old at new bt g h i j w)
          (ap (λ (x : Extent). x.start.0) place ∙ start_is new bt h f l) (ap (λ (x : Extent). x.size) place ∙ size_is new bt h f l)
          (clear-of-map old at new bt g h r i j w);
    }

does-carry : (old : List ℕ) (at : ℕ) (new : List ℕ) (bt : ℕ) → MayCarry old at new bt → (carry_at old at new bt).answer ≡ none
unfolding carry_areas
does-carry old at new bt m =
    let g = map-is-good old at m.old_map in
    let h = map-is-good new bt m.new_map in
    let a = sym (place-good old at (in-range _ m.old_length.0 m.old_length.1) (is_signed old at g) g) in
    let b = sym (place-good new bt (in-range _ m.new_length.0 m.new_length.1) (is_signed new bt h) h) in
    sym (ap (λ (o : Outcome). o.answer) (both-stand old at new bt a b))
    ∙ ap (λ (o : Option ℕ). (unless_refused o (carried old (areas_of (rest bt new)) (areas_of (rest at old)) new) new).answer)
    (sym (rows-free old at new bt g h m))

pub accepted-by-bytes : AcceptedByBytes
accepted-by-bytes old at new bt = (may-carry old at new bt, does-carry old at new bt)

abbrev ByFound : List ℕ → List ℕ → Type 0
ByFound old new = (p : ImagePosition) × (q : ImagePosition) × (find_map old ≡ accepted p) × (find_map new ≡ accepted q) × MayCarry old p.0 new q.0

pub images-accepted-by-bytes : ImagesAcceptedByBytes
unfolding carry_images
images-accepted-by-bytes old new = (
  from (find_map old) refl,
  λ w. ap (λ (r : Reply ImagePosition). (carry_from old new r).answer) w.2
      ∙ ap (λ (r : Reply ImagePosition). (carry_to old w.0 new r).answer) w.3 ∙ does-carry old w.0.0 new w.1.0 w.4,
)
  where
    to : (p : ImagePosition) → find_map old ≡ accepted p → (r : Reply ImagePosition) → find_map new ≡ r → (carry_to old p new r).answer ≡ none
        → ByFound old new
    to p a (accepted q) b e = (p, q, a, b, may-carry old p.0 new q.0 e)
    to p a (refused k) b e = absurd (some-none e)

    from : (r : Reply ImagePosition) → find_map old ≡ r → (carry_from old new r).answer ≡ none → ByFound old new
    from (accepted p) a e = to p a (find_map new) refl e
    from (refused k) a e = absurd (some-none e)
