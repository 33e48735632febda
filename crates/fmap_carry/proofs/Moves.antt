-- The moves of the preserved areas: what holds of them holds of the areas, and what they write is what a carry writes.
use Rattle.std.proofs.Common.{◌≡◌, ◌⊎◌, ℕ, suc, ◌+◌, ◌-◌, ◌≤◌, ◌<◌, Bool, true, false, not, cond, eqb, List, [], ◌∷◌, ◌++◌, Some, None, Option, map}
use Rattle.std.proofs.Common.{position, unwrap_or, length, get_or, drop, take, set, refl, sym, ap, ◌∙◌, inl, inr, arith, append-nil, append_assoc}
use lib.ListN.{length-map}
use lib.ListN.{drop_of_length-le, get_or-eq_default}
use lib.Seq.{drop-cons, take-suc-set}
use native.Mathlib.Numerals.{add-one}
use native.Mathlib.Nat.{zero-lt-suc}
use Prim.Native.Nat.{suc-le-suc}
use borrow.Author.Tests.{le-leb, leb-true, ltb-false}
use Rattle.octets.specs.Tests.{◌and◌, ◌or◌, all, any, pairs, find_ix}
use Rattle.octets.specs.Rows.{refusal}
use Rattle.octets.specs.Bytes.{part, put}
use Rattle.octets.proofs.Bools.{bool_cases, and_i, and_l, and_r, and-f}
use Rattle.octets.proofs.Rows.{pick-false}
use Rattle.octets.proofs.Tests.{find_ix-get, get_d_map, all-get, any-on, any-stop, any-done}
use Rattle.octets.proofs.Chains.{position_any, place_any}
use Rattle.fmap_rules.specs.declared.Extent.{Extent}
use Rattle.fmap_rules.specs.declared.Area.{Area}
use Rattle.fmap_rules.specs.Map.{area_of, blank_area, named, fmap_name, end_of}
use Rattle.fmap_carry.specs.declared.Move.{Move}
use Rattle.fmap_carry.specs.Carry.{preserved, with_name, target, missing, other_size, clear_by, clear, on_map, carry_rows, carry_area, carried}
use Rattle.fmap_carry.specs.Invariants.{Fit, Fitting}
use Rattle.fmap_carry.proofs.Match.{find-count, numbers, matched, missing-by, other-size-by, on-map-by, clear_at}
use Rattle.fmap_carry.specs.Moves.{place_in, move_of, moves_of, resized, moves_apart, covers, move_rows, moved, lies}

-- ---- a place by a name

module _ (areas : List (List ℕ)) (n : List ℕ) where
  abbrev looked : Option ℕ → Type 0
  looked o = position (named n) (map area_of areas) ≡ o

  pub no-place : looked None → place_in (map area_of areas) n ≡ None
  unfolding place_in
  no-place h = go (any (named n) (map area_of areas)) (sym (position_any (named n) (map area_of areas)) ∙ h)
    where
      go : (t : Bool) → cond t (Some (find_ix (named n) (map area_of areas))) None ≡ None → cond t (Some (with_name (map area_of areas) n).place) None ≡ None
      go true e = cc
      go false e = refl

  pub at-place : (k : ℕ) → looked (Some k) → (k < length areas) × (Some (area_of (get_or areas k [])).place ≡ place_in (map area_of areas) n)
  unfolding place_in with_name
  at-place k h = go (bool_cases (any (named n) (map area_of areas)))
    where
      all : List Area
      all = map area_of areas

      go : (any (named n) (map area_of areas) ≡ true) ⊎ (any (named n) (map area_of areas) ≡ false)
          → (k < length areas) × (Some (area_of (get_or areas k [])).place ≡ place_in (map area_of areas) n)
      go (inl t) =
          let q : Some k ≡ Some (find_ix (named n) (map area_of areas)) = sym h ∙ position_any (named n) (map area_of areas) ∙ rw t in
          let e : k ≡ find_ix (named n) (map area_of areas) = cc in
          let w = (find_ix-get (named n) (map area_of areas) blank_area t).0 in
          let l : k < length areas = omega (arith, e, w, length-map areas area_of) in
          (l, rw t (ap (λ (a : Area). Some a.place) (sym (get_d_map area_of areas k blank_area [] l) ∙ ap (λ (j : ℕ). get_or (map area_of areas) j blank_area) e)))
      go (inr t) = let q : Some k ≡ None = sym h ∙ position_any (named n) (map area_of areas) ∙ rw t in cc

-- ---- tests

module _ (news : List Area) where
  any-moves : (p : Area → Bool) (q : Move → Bool) → ((a : Area) → preserved a ≡ true → q (move_of news a) ≡ p a)
      → ((a : Area) → preserved a ≡ false → p a ≡ false) → (olds : List Area) → any p olds ≡ any q (moves_of news olds)
  unfolding moves_of ◌or◌
  any-moves p q e f [] = refl
  any-moves p q e f (a ∷ olds) = go (bool_cases (preserved a)) (any-moves p q e f olds)
    where
      go : (preserved a ≡ true) ⊎ (preserved a ≡ false) → any p olds ≡ any q (moves_of news olds) → any p (a ∷ olds) ≡ any q (moves_of news (a ∷ olds))
      go (inl h) ih = rw (h, e a h, ih)
      go (inr h) ih = rw (h, f a h, ih)

  -- one area against the later ones
  all-moves : (r : Area → Bool) (q : Move → Bool) (olds : List Area)
      → ((j : ℕ) → j < length olds
      → r (get_or olds j blank_area) ≡ (not (preserved (get_or olds j blank_area)) or q (move_of news (get_or olds j blank_area))))
      → all r olds ≡ all q (moves_of news olds)
  unfolding moves_of ◌and◌ ◌or◌
  all-moves r q [] e = refl
  all-moves r q (a ∷ olds) e = go (bool_cases (preserved a)) (e 0 (zero-lt-suc _)) (all-moves r q olds (λ j h. e (suc j) (suc-le-suc h)))
    where
      go : (preserved a ≡ true) ⊎ (preserved a ≡ false) → r a ≡ (not (preserved a) or q (move_of news a)) → all r olds ≡ all q (moves_of news olds)
          → all r (a ∷ olds) ≡ all q (moves_of news (a ∷ olds))
      go (inl h) f ih = rw (f, h, ih)
      go (inr h) f ih = rw (f, h, ih)

  all-skip : (r : Area → Bool) → ((b : Area) → r b ≡ true) → (olds : List Area) → all r olds ≡ true
  all-skip r e [] = refl
  all-skip r e (a ∷ olds) = and_i _ _ (e a) (all-skip r e olds)

  clear-moves : (olds : List Area) → pairs (clear news) olds ≡ pairs moves_apart (moves_of news olds)
  unfolding moves_of clear clear_by moves_apart with_name ◌and◌ ◌or◌
  clear-moves [] = refl
  clear-moves (a ∷ olds) = go (bool_cases (preserved a)) (clear-moves olds)
    where
      later : (j : ℕ) → j < length olds
          → clear news a (get_or olds j blank_area) ≡ clear_by a (target news a) (get_or olds j blank_area) (target news (get_or olds j blank_area))
      later j h =
          clear_at (a ∷ olds) news (numbers news (a ∷ olds)) (matched news (a ∷ olds)) _ refl 0 (suc j) (zero-lt-suc _) (suc-le-suc h) a _ _ _ refl refl refl
          (ap (λ (k : ℕ). (get_or news k blank_area).place) (sym (get_d_map (λ (b : Area). find_ix (named b.name) news) olds j 0 blank_area h)))

      go : (preserved a ≡ true) ⊎ (preserved a ≡ false) → pairs (clear news) olds ≡ pairs moves_apart (moves_of news olds)
          → pairs (clear news) (a ∷ olds) ≡ pairs moves_apart (moves_of news (a ∷ olds))
      go (inl h) ih = rw (all-moves (clear news a) (moves_apart (move_of news a)) olds (λ j k. later j k ∙ rw h), h, ih)
      go (inr h) ih = rw (all-skip (clear news a) (λ b. rw h) olds, h, ih)

  -- the rows of a carry, where no area is missing
  pub rows-moves : (map : Extent) (olds : List Area) → map ≡ (with_name news fmap_name).place → any (missing news) olds ≡ false
      → refusal (carry_rows olds news) ≡ refusal (move_rows map (moves_of news olds))
  unfolding other_size on_map resized covers with_name
  rows-moves map olds e h =
      pick-false _ 60 _ h
      ∙ rw (
        any-moves (other_size news) resized (λ a p. other-size-by news a p _ refl _ _ refl refl) (λ a p. sym (and-f _ p)) olds,
        clear-moves olds,
        any-moves (on_map news) (covers map) (λ a p. on-map-by news a p _ refl _ _ refl e refl) (λ a p. sym (and-f _ p)) olds,
      )

-- ---- what is written

module _ (old : List ℕ) (news : List Area) where
  pub moved-all : (olds : List Area) (image : List ℕ) → moved old (moves_of news olds) image ≡ carried old news olds image
  unfolding moves_of moved carried carry_area
  moved-all [] image = refl
  moved-all (a ∷ olds) image = go (bool_cases (preserved a)) (moved-all olds)
    where
      go : (preserved a ≡ true) ⊎ (preserved a ≡ false)
          → ((image : List ℕ) → moved old (moves_of news olds) image ≡ carried old news olds image)
          → moved old (moves_of news (a ∷ olds)) image ≡ carried old news (a ∷ olds) image
      go (inl h) ih = rw h (ih _)
      go (inr h) ih = rw h (ih image)

-- ---- along the loop over the moves

-- what stands behind the last one
abbrev pub still : Move
still = record { from = blank_area.place; to = blank_area.place }

module _ (old : List ℕ) (moves : List Move) (i : ℕ) (h : i < length moves) where
  abbrev m : Move
  m = get_or moves i still

  pub lies-at : (n : ℕ) → all (lies (length old) n) moves ≡ true → (end_of m.from ≤ length old) × (m.to.start.0 + m.from.size ≤ n)
  unfolding lies
  lies-at n e = let t = all-get (lies (length old) n) moves still e i h in (leb-true _ _ (and_l _ _ t), leb-true _ _ (and_r _ _ t))

  pub moved-next : (image image' result : List ℕ)
      → image' ≡ put m.to.start.0 (take (m.from.start.0 + m.from.size - m.from.start.0) (drop m.from.start.0 old)) image
      → moved old (drop i moves) image ≡ result → moved old (drop (i + 1) moves) image' ≡ result
  unfolding moved part
  moved-next image image' result e f =
      let k : m.from.start.0 + m.from.size - m.from.start.0 ≡ m.from.size = omega arith in
      rw (e, k, add-one) (sym (ap (λ (l : List Move). moved old l image) (drop-cons moves i still h)) ∙ f)

pub moved-over : (old : List ℕ) (moves : List Move) (i : ℕ) (image result : List ℕ) → length moves ≤ i
    → moved old (drop i moves) image ≡ result → image ≡ result
unfolding moved
moved-over old moves i image result h f = sym (ap (λ (l : List Move). moved old l image) (drop_of_length-le moves {i = i} h)) ∙ f

-- a carry that no row refuses moves within the images
pub moves-lie : (lo ln : ℕ) (news olds : List Area) → Fitting lo ln news olds → all (lies lo ln) (moves_of news olds) ≡ true
unfolding moves_of lies
moves-lie lo ln news [] f = refl
moves-lie lo ln news (a ∷ olds) f = go (bool_cases (preserved a)) (f 0 (zero-lt-suc _)) (moves-lie lo ln news olds (λ i h. f (suc i) (suc-le-suc h)))
  where
    go : (preserved a ≡ true) ⊎ (preserved a ≡ false) → (preserved a ≡ true → Fit lo ln news a) → all (lies lo ln) (moves_of news olds) ≡ true
        → all (lies lo ln) (moves_of news (a ∷ olds)) ≡ true
    go (inl h) g ih =
        let w = g h in
        rw h (and_i _ _ (and_i _ _ (le-leb _ _ w.from) (le-leb _ _ (omega (arith, w.to, w.size)))) ih)
    go (inr h) g ih = rw h ih

-- ---- along the loop that lists them

-- of the first i areas n are preserved, none of these is missing, and the first n moves are theirs
pub record Listing (news olds : List Area) (i n : ℕ) (moves : List Move) : Type 0 where
  pub few : n ≤ i
  pub present : any (missing news) (drop i olds) ≡ any (missing news) olds
  pub listed : take n moves ++ moves_of news (drop i olds) ≡ moves_of news olds

pub listing-none : (news olds : List Area) (moves : List Move) → Listing news olds 0 0 moves
listing-none news olds moves = record { few = omega arith; present = refl; listed = refl }

-- by the number of the area with a name, and the count of all
pub place-none : (news : List Area) (n : List ℕ) → place_in news n ≡ None → eqb (find_ix (named n) news) (length news) ≡ true
unfolding place_in
place-none news n e = find-count (named n) news blank_area ∙ ap not (go (any (named n) news) e)
  where
    go : (t : Bool) → cond t (Some (with_name news n).place) None ≡ None → t ≡ false
    go true q = cc
    go false q = refl

pub place-some : (news : List Area) (n : List ℕ) (x : Extent) → place_in news n ≡ Some x
    → (eqb (find_ix (named n) news) (length news) ≡ false) × (x ≡ (with_name news n).place)
unfolding place_in
place-some news n x e = let w = go (any (named n) news) e in (find-count (named n) news blank_area ∙ ap not w.0, w.1)
  where
    go : (t : Bool) → cond t (Some (with_name news n).place) None ≡ Some x → (t ≡ true) × (x ≡ (with_name news n).place)
    go true q = (refl, (cc))
    go false q = cc

module _ {news olds : List Area} {i n : ℕ} {moves : List Move} (w : Listing news olds i n moves) where
  pub listing-all : length olds ≤ i → (any (missing news) olds ≡ false) × (take n moves ≡ moves_of news olds)
  unfolding moves_of
  listing-all h =
      let e = drop_of_length-le olds {i = i} h in
      (sym w.present ∙ any-done (missing news) olds i h, sym (append-nil (take n moves)) ∙ ap (λ (l : List Area). take n moves ++ moves_of news l) (sym e) ∙ w.listed)

  -- a is area i
  module _ (h : i < length olds) (a : Area) (e : a ≡ get_or olds i blank_area) where
    pub listing-skip : preserved a ≡ false → Listing news olds (i + 1) n moves
    unfolding missing moves_of ◌and◌
    listing-skip p =
        let q : preserved (get_or olds i blank_area) ≡ false = ap preserved (sym e) ∙ p in
        record {
          few = omega (arith, w.few);
          present = sym (any-on (missing news) olds blank_area i h (rw q)) ∙ w.present;
          listed = ap (λ (l : List Move). take n moves ++ l) (sym (ap (moves_of news) (drop-cons olds i blank_area h) ∙ rw (q, add-one))) ∙ w.listed;
        }

    pub listing-more : (x : Extent) → preserved a ≡ true → place_in news a.name ≡ Some x → n < length moves
        → Listing news olds (i + 1) (n + 1) (set moves n (record { from = a.place; to = x }))
    unfolding moves_of ◌and◌
    listing-more x p f l =
        let q : preserved (get_or olds i blank_area) ≡ true = ap preserved (sym e) ∙ p in
        let t = place-some news a.name x f in
        let v : Move = record { from = a.place; to = x } in
        let made : move_of news (get_or olds i blank_area) ≡ v = rw (← e, t.1) in
        let cut : moves_of news (drop i olds) ≡ v ∷ moves_of news (drop (i + 1) olds) =
        ap (moves_of news) (drop-cons olds i blank_area h) ∙ rw (q, made, add-one) in
        let set_ : take (n + 1) (set moves n v) ≡ take n moves ++ v ∷ [] = rw add-one (take-suc-set moves n v l) in
        record {
          few = omega (arith, w.few);
          present = sym (any-on (missing news) olds blank_area i h (rw (← e) (sym (missing-by news a p _ refl _ refl) ∙ t.0))) ∙ w.present;
          listed =
              ap (λ (k : List Move). k ++ moves_of news (drop (i + 1) olds)) set_
              ∙ append_assoc (take n moves) (v ∷ []) (moves_of news (drop (i + 1) olds))
              ∙ ap (λ (k : List Move). take n moves ++ k) (sym cut)
              ∙ w.listed;
        }

    pub listing-fails : preserved a ≡ true → place_in news a.name ≡ None → any (missing news) olds ≡ true
    listing-fails p f =
        sym w.present
        ∙ any-stop (missing news) olds blank_area i h (rw (← e) (sym (missing-by news a p _ refl _ refl) ∙ place-none news a.name f))

-- where there is no area of a name, its place is the blank one
pub place-or : (news : List Area) (n : List ℕ) → unwrap_or (place_in news n) blank_area.place ≡ (with_name news n).place
unfolding place_in with_name
place-or news n = go (bool_cases (any (named n) news))
  where
    go : (any (named n) news ≡ true) ⊎ (any (named n) news ≡ false) → unwrap_or (place_in news n) blank_area.place ≡ (with_name news n).place
    go (inl t) = rw t
    go (inr t) =
        rw t (ap (λ (a : Area). a.place) (sym (get_or-eq_default news blank_area (ltb-false (find_ix (named n) news) (length news) (place_any (named n) news ∙ t)))))
