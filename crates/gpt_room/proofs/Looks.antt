-- Laws of a look ahead from block a, over ranges in order.
use mathlib.Core.Path.{◌≡◌, refl, sym, ap, subst, ◌∙◌}
use mathlib.Core.Logic.{⊎_elim}
use mathlib.Core.Bool.{Bool, true, false, not}
use mathlib.Core.List.{List, [], ◌∷◌, map}
use Prim.Native.Nat.{ℕ, suc, ◌+◌, ◌-◌, ◌≤◌, ◌<◌, min}
use native.Mathlib.Nat.{le_refl, add-zero, zero-lt-suc, min-eq_left, min-eq_right}
use Rattle.std.specs.Prelude.{Some, None, slice_get}
use native.Mathlib.Decide.{dec_le, dec_lt}
use native.Mathlib.Omega.{arith}
use lib.Dec.{leb}
use lib.ListN.{length, get_or, take, drop, length-map, length-drop}
use lib.Seq.{get_or-drop, take_all, drop-drop}
use Rattle.std.specs.List.{position_or_len}
use Rattle.std.proofs.lemmas.List.Sums.{fails_before_first, passes_at_first}
use borrow.Author.Tests.{lt-leb, le-leb, leb-true}
use Rattle.octets.specs.Tests.{◌and◌}
use Rattle.octets.proofs.Bools.{and_l, and_r, and_i, and-f, and-t, not_t, bool_cases, clash}
use Rattle.octets.proofs.Tests.{any-make, any_false, get_d_map}
use Rattle.gpt_model.specs.declared.Block.{Block}
use Rattle.gpt_model.specs.Ranges.{block_in, in_some, in_none, room_at, run_from}
use Rattle.gpt_model.specs.Table.{BlockRange, no_blocks, spans}
use Rattle.gpt_model.proofs.Room.{Room, block_in-make, block_in-get, room-get, room-make}
use Rattle.gpt_model.proofs.Longest.{run-gap, run_holds, run-bound}
use Rattle.gpt_room.specs.Invariants.{Passed, Behind, Next, Full, Clear, Stands, taken, gap}
use Rattle.gpt_table.specs.Invariants.{blocks_of}
use Rattle.gpt_table.specs.declared.order.Range.{Range}
use Rattle.std.specs.List.Sorted.{IsNonDecreasingBy}
use Rattle.gpt_room.specs.declared.Ahead.{Ahead}
use Rattle.gpt_room.specs.declared.Ahead.TheVariants.{Taken, Gap}

-- ---- one range

pub inside-below : (b f l : ℕ) → b < f → block_in b (spans f l) ≡ false
inside-below b f l h = ⊎_elim (λ e. let w = (block_in-get b f l e).0 in absurd (omega arith)) (λ e. e) (bool_cases (block_in b (spans f l)))

-- it has a block at a or behind it
pub reaches-empty : (f l a : ℕ) → l < f → false ≡ (leb f l and leb a l)
reaches-empty f l a h = and-f _ (lt-leb f l h)

pub reaches-last : (f l a : ℕ) → f ≤ l → leb a l ≡ (leb f l and leb a l)
reaches-last f l a h = and-t (le-leb f l h) refl

pub reaches-yes : (f l a : ℕ) → (leb f l and leb a l) ≡ true → (f ≤ l) × (a ≤ l)
reaches-yes f l a e = (leb-true f l (and_l _ _ e), leb-true a l (and_r _ _ e))

pub reaches-no : (f l a : ℕ) → (leb f l and leb a l) ≡ false → (c : ℕ) → a ≤ c → block_in c (spans f l) ≡ false
reaches-no f l a e c h = ⊎_elim (λ q. absurd (go (block_in-get c f l q))) (λ q. q) (bool_cases (block_in c (spans f l)))
  where
    go : (f ≤ c) × (c ≤ l) → ⊥
    go (p, q) = clash (and_i _ _ (le-leb f l (omega arith)) (le-leb a l (omega arith))) e

-- ---- the next range

pub passed-more : {s : List BlockRange} {a b i : ℕ} → a ≤ b → Passed s a i → Passed s b i
passed-more h p = record { over = λ k u c v. p.over k u c (omega arith) }

pub passed_none : {s : List BlockRange} {a : ℕ} → Passed s a 0
passed_none = record { over = λ k u. absurd (omega arith) }

abbrev none_range : Range
none_range = record { first = record { 0 = 0 }; last = record { 0 = 0 } }

module _ (rs : List Range) where
  abbrev from_at : ℕ → ℕ
  from_at i = (get_or rs i none_range).first.0

  abbrev last_at : ℕ → ℕ
  last_at i = (get_or rs i none_range).last.0

  pub block_at : (i : ℕ) → i < length rs → get_or (map blocks_of rs) i no_blocks ≡ spans (from_at i) (last_at i)
  block_at i h = get_d_map blocks_of rs i no_blocks none_range h

  -- k ranges more are passed, none of which reaches a
  pub passed-on : (a i k : ℕ) → i + k ≤ length rs → Passed (map blocks_of rs) a i
      → ((j : ℕ) → j < k → (leb (from_at (i + j)) (last_at (i + j)) and leb a (last_at (i + j))) ≡ false) → Passed (map blocks_of rs) a (i + k)
  passed-on a i k h p f = record { over = λ j u c v. go j u c v (dec_lt j i) }
    where
      go : (j : ℕ) → j < i + k → (c : ℕ) → a ≤ c → Dec (j < i) → block_in c (get_or (map blocks_of rs) j no_blocks) ≡ false
      go j u c v (yes w) = p.over j w c v
      go j u c v (no w) =
          let e : i + (j - i) ≡ j = omega arith in
          let no = subst (λ (m : ℕ). (leb (from_at m) (last_at m) and leb a (last_at m)) ≡ false) e (f (j - i) (omega arith)) in
          ap (block_in c) (block_at j (omega arith)) ∙ reaches-no _ _ a no c v

-- what is left of the ranges: to begin with all, and the same further on
pub behind_all : (rs : List Range) {a : ℕ} → Behind rs a rs
behind_all rs = record { count = 0; within = omega arith; left = refl; passed = passed_none }

pub behind-more : {rs rest : List Range} {a b : ℕ} → a ≤ b → Behind rs a rest → Behind rs b rest
behind-more h p = record { count = p.count; within = p.within; left = p.left; passed = passed-more h p.passed }

abbrev pub reaching : ℕ → Range → Bool
reaching a r = leb r.first.0 r.last.0 and leb a r.last.0

module _ {rs rest : List Range} {a : ℕ} (p : Behind rs a rest) (k : ℕ) (e : k ≡ position_or_len (reaching a) rest) (h : k ≤ length rest) where
  left_at : (j : ℕ) (d : Range) → get_or rest j d ≡ get_or rs (p.count + j) d
  left_at j d = ap (λ (l : List Range). get_or l j d) p.left ∙ get_or-drop p.count rs j d

  pub next_is : Next rs a (take (length rest - k) (drop k rest))
  next_is =
      let long : length rest ≡ length rs - p.count = ap length p.left ∙ length-drop p.count rs in
      let whole : take (length rest - k) (drop k rest) ≡ drop k rest = take_all (length rest - k) (drop k rest) (omega (arith, length-drop k rest)) in
      rw whole
      (record {
        behind = record {
          count = p.count + k;
          within = omega (arith, p.within);
          left = ap (drop k) p.left ∙ drop-drop k p.count rs;
          passed = passed-on rs a p.count k (omega (arith, p.within)) p.passed
              (λ j l. ap (reaching a) (sym (left_at j none_range)) ∙ fails_before_first (reaching a) rest j none_range (omega (arith, e)));
        };
        reaches = λ d l.
            let l' : k < length rest = omega (arith, length-drop k rest) in
            let here = get_or-drop k rest 0 d ∙ ap (λ (m : ℕ). get_or rest m d) (add-zero k ∙ e) in
            reaches-yes _ _ a (ap (reaching a) here ∙ passes_at_first (reaching a) rest d (omega arith));
      })

-- ---- what begins at a, where rest begins with the next range

module _ (rs rest : List Range) (a last : ℕ) (asc : IsNonDecreasingBy (λ r. r.first.0) rs) (next : Next rs a rest) where
  abbrev s : List BlockRange
  s = map blocks_of rs

  abbrev i : ℕ
  i = next.behind.count

  long : length rest ≡ length rs - i
  long = ap length next.behind.left ∙ length-drop i rs

  here : get_or rest 0 none_range ≡ get_or rs i none_range
  here = ap (λ (l : List Range). get_or l 0 none_range) next.behind.left ∙ get_or-drop i rs 0 none_range ∙ ap (λ (k : ℕ). get_or rs k none_range) (add-zero i)

  -- free from a up to g, if no range from i on begins before g
  clear : (g : ℕ) → a < g → g ≤ last + 1 → (i < length rs → g ≤ from_at rs i) → (g ≤ last → in_some s g ≡ true) → Clear s a last g
  clear g p q r t =
      record {
        past = p;
        end = q;
        free = λ c u v. any_false (block_in c) s no_blocks (λ k h. each c u v k (omega (arith, length-map rs blocks_of)) (dec_lt k i));
        stop = t;
      }
    where
      each : (c : ℕ) → a ≤ c → c < g → (k : ℕ) → k < length rs → Dec (k < i) → block_in c (get_or s k no_blocks) ≡ false
      each c u v k h (yes w) = next.behind.passed.over k w c u
      each c u v k h (no w) =
          let z = asc i k none_range (omega arith) h in
          let y = r (omega arith) in
          ap (block_in c) (block_at rs k h) ∙ inside-below c _ _ (omega arith)

  clear_none : a ≤ last → length rest ≤ 0 → Clear s a last (last + 1)
  clear_none h g =
      let w = next.behind.within in
      let l = long in
      clear (last + 1) (omega arith) (omega arith) (λ u. absurd (omega arith)) (λ u. absurd (omega arith))

  module _ (h : 0 < length rest) where
    inside : i < length rs
    inside = omega (arith, long)

    holds : (b : ℕ) → block_in b (spans (from_at rs i) (last_at rs i)) ≡ true → in_some s b ≡ true
    holds b e = any-make (block_in b) s no_blocks i (omega (arith, length-map rs blocks_of, inside)) (ap (block_in b) (block_at rs i inside) ∙ e)

    proper : (from_at rs i ≤ last_at rs i) × (a ≤ last_at rs i)
    proper = rw here at (next.reaches none_range h)

    full : (get_or rest 0 none_range).first.0 ≤ a → Full s a (get_or rest 0 none_range).last.0
    full g =
        let e = ap (λ (r : Range). r.first.0) here in
        subst (λ (r : Range). Full s a r.last.0) (sym here)
        (record { from = proper.1; taken = λ c u v. holds c (block_in-make c _ _ (omega arith) v) })

    -- up to the next range or the last usable block
    clear_to : a ≤ last → a < (get_or rest 0 none_range).first.0 → Clear s a last (min (get_or rest 0 none_range).first.0 (last + 1))
    clear_to k p = subst (λ (r : Range). Clear s a last (min r.first.0 (last + 1))) (sym here) (go (dec_le (from_at rs i) last))
      where
        p' : a < from_at rs i
        p' = subst (λ (r : Range). a < r.first.0) here p

        go : Dec (from_at rs i ≤ last) → Clear s a last (min (from_at rs i) (last + 1))
        go (yes q) =
            let ahead = p' in
            let low : min (from_at rs i) (last + 1) ≡ from_at rs i = min-eq_left (omega arith) in
            rw low
            (clear (from_at rs i) (omega arith) (omega arith) (λ u. le_refl (from_at rs i))
            (λ u. holds _ (block_in-make _ _ _ (le_refl (from_at rs i)) proper.0)))
        go (no q) =
            let low : min (from_at rs i) (last + 1) ≡ last + 1 = min-eq_right (omega arith) in
            rw low (clear (last + 1) (omega arith) (omega arith) (λ u. omega arith) (λ u. absurd (omega arith)))

-- what `first` answers
first_is : (rest : List Range) (r : Range) → Some r ≡ slice_get rest 0 → (0 < length rest) × (get_or rest 0 none_range ≡ r)
first_is [] r e = cc
first_is (x ∷ rest) r e = (zero-lt-suc _, sym (cc))

first_none : (rest : List Range) → None ≡ slice_get rest 0 → length rest ≤ 0
first_none [] e = omega arith
first_none (x ∷ rest) e = cc

module _ {rs rest : List Range} {a : ℕ} (last : ℕ) (asc : IsNonDecreasingBy (λ r. r.first.0) rs) (next : Next rs a rest) where
  pub stands-none : None ≡ slice_get rest 0 → a ≤ last → Clear (map blocks_of rs) a last (last + 1)
  stands-none e h = clear_none rs rest a last asc next h (first_none rest e)

  pub stands-taken : {r : Range} → Some r ≡ slice_get rest 0 → r.first.0 ≤ a → Full (map blocks_of rs) a r.last.0
  stands-taken {r} e h =
      let w = first_is rest r e in
      subst (λ (x : Range). Full (map blocks_of rs) a x.last.0) w.1
      (full rs rest a last asc next w.0 (subst (λ (x : Range). x.first.0 ≤ a) (sym w.1) h))

  pub stands-gap : {r : Range} → Some r ≡ slice_get rest 0 → a ≤ last → a < r.first.0 → Clear (map blocks_of rs) a last (min r.first.0 (last + 1))
  stands-gap {r} e h g =
      let w = first_is rest r e in
      subst (λ (x : Range). Clear (map blocks_of rs) a last (min x.first.0 (last + 1))) w.1
      (clear_to rs rest a last asc next w.0 h (subst (λ (x : Range). a < x.first.0) (sym w.1) g))

-- ---- the two answers

taken-gap : {x g : Block} → Taken x ≡ Gap g → ⊥
taken-gap e = let z : ◌≡◌ {A = ℕ} 0 1 = cc in omega arith

module _ {s : List BlockRange} {a last : ℕ} where
  pub taken_of : {r : Ahead} {x : Block} → Stands s a last r → r ≡ Taken x → Full s a x.0
  taken_of {x = y} (taken {x} w) e = let q : x ≡ y = cc in subst (λ (z : Block). Full s a z.0) q w
  taken_of (gap w) e = absurd (taken-gap (sym e))

  pub gap_of : {r : Ahead} {g : Block} → Stands s a last r → r ≡ Gap g → Clear s a last g.0
  gap_of (taken w) e = absurd (taken-gap e)
  gap_of {g = h} (gap {g} w) e = let q : g ≡ h = cc in subst (λ (z : Block). Clear s a last z.0) q w

-- ---- the run from a on

pub run_past : (p : ℕ → Bool) (last a : ℕ) → last < a → 0 ≡ run_from p a (suc last - a)
run_past p last a h = let b = run-bound p a (suc last - a) in omega arith

module _ (s : List BlockRange) (last a : ℕ) where
  abbrev run : ℕ
  run = run_from (in_none s) a (suc last - a)

  pub run-full : {x : ℕ} → Full s a x → 0 ≡ run
  run-full p = go (dec_lt 0 run)
    where
      go : Dec (0 < run) → 0 ≡ run
      go (no h) = omega arith
      go (yes h) = absurd (clash (p.taken a (le_refl a) p.from) (not_t _ (run_holds (in_none s) a (suc last - a) a (le_refl a) (omega arith))))

  pub run-clear : {g : ℕ} → Clear s a last g → g - a ≡ run
  run-clear {g} p =
      let u = p.past in
      let v = p.end in
      let whole : g - a + (suc last - g) ≡ suc last - a = omega arith in
      let at : a + (g - a) ≡ g = omega arith in
      sym (ap (run_from (in_none s) a) (sym whole)
      ∙ run-gap (in_none s) a (g - a) (suc last - g) (λ c x y. ap not (p.free c x (omega arith))) (λ h. ap (in_none s) at ∙ ap not (p.stop (omega arith))))

-- ---- room at a

module _ (s : List BlockRange) (last size a : ℕ) where
  no_room : (Room s last size a → ⊥) → room_at s last size a ≡ false
  no_room f = ⊎_elim (λ e. absurd (f (room-get s last size a e))) (λ e. e) (bool_cases (room_at s last size a))

  module _ (pos : 0 < size) where
    pub room-past : last < a → false ≡ room_at s last size a
    room-past h = sym (no_room (λ r. let w = r.0 in omega arith))

    pub room-full : {x : ℕ} → Full s a x → false ≡ room_at s last size a
    room-full p = sym (no_room (λ r. clash (p.taken a (le_refl a) p.from) (r.1 a (le_refl a) (omega arith))))

  pub room-gap : {g : ℕ} → Clear s a last g → leb size (g - a) ≡ room_at s last size a
  room-gap {g} p = go (dec_le size (g - a))
    where
      go : Dec (size ≤ g - a) → leb size (g - a) ≡ room_at s last size a
      go (yes h) =
          let u = p.past in
          let v = p.end in
          le-leb size (g - a) h ∙ sym (room-make s last size a (omega arith, λ b x y. p.free b x (omega arith)))
      go (no h) =
          let u = p.past in
          let v = p.end in
          lt-leb size (g - a) (omega arith)
          ∙ sym (no_room (λ r. let w = r.0 in clash (p.stop (omega arith)) (r.1 g (omega arith) (omega arith))))
