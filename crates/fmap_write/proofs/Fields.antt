-- A map's bytes, written field by field.
use mathlib.Core.Path.{◌≡◌, refl, sym, ap, ◌∙◌}
use mathlib.Core.List.{List, [], ◌∷◌, ◌++◌, map, append_assoc}
use Prim.Native.Nat.{ℕ, ◌+◌, ◌*◌, ◌≤◌, ◌<◌}
use native.Mathlib.Nat.{mul-zero, add-zero}
use native.Mathlib.Omega.{arith}
use native.Mathlib.Numerals.{add-one}
use lib.ListN.{length, get_or, drop, length-append, drop_of_length-le}
use lib.Seq.{drop-cons}
use Rattle.octets.specs.Bytes.{le, part, put, flat}
use Rattle.octets.proofs.Numbers.{length-le}
use Rattle.octets.proofs.Parts.{part-here}
use Rattle.octets.proofs.Puts.{then, length-put}
use Rattle.fmap_rules.specs.declared.Area.{Area}
use Rattle.fmap_rules.specs.Written.{area_bytes, map_bytes}

-- ---- an area

pub area-written : (a : Area) (at : ℕ) (s0 s1 s2 s3 s4 : List ℕ) → length a.name ≡ 32 → s1 ≡ put at (le 4 a.place.start.0) s0
    → s2 ≡ put (at + 4) (le 4 a.place.size) s1 → s3 ≡ put (at + 8) a.name s2 → s4 ≡ put (at + 40) (le 2 a.flags) s3
    → s4 ≡ put at (area_bytes a) s0
unfolding area_bytes
area-written a at s0 s1 s2 s3 s4 wide p1 p2 p3 p4 =
    let l1 = length-le 4 a.place.start.0 in
    let l2 = length-le 4 a.place.size in
    then s0 _ s1 _ s4 at (at + 4) p1
    (then s1 _ s2 _ s4 (at + 4) (at + 8) p2 (then s2 _ s3 _ s4 (at + 8) (at + 40) p3 p4 (omega arith)) (omega arith))
    (omega arith)

-- ---- areas one after the other

abbrev bytes_of : List Area → List ℕ
bytes_of areas = flat (map area_bytes areas)

-- areas are written up to i: with the others written behind them the whole is
pub record WrittenTo (l : List Area) (at : ℕ) (old new : List ℕ) (i : ℕ) : Type 0 where
  pub below : i ≤ length l
  pub same_length : length new ≡ length old
  pub whole : put (at + 42 * i) (bytes_of (drop i l)) new ≡ put at (bytes_of l) old

pub written_none : (l : List Area) (at : ℕ) (old : List ℕ) → WrittenTo l at old old 0
written_none l at old = record { below = omega arith; same_length = refl; whole = rw (mul-zero, add-zero) }

pub written_on : {l : List Area} {at : ℕ} {old new next : List ℕ} {i : ℕ} (d a : Area) → i < length l → a ≡ get_or l i d
    → next ≡ put (at + 42 * i) (area_bytes a) new → length (area_bytes a) ≡ 42 → WrittenTo l at old new i → WrittenTo l at old next (i + 1)
written_on {l} {at} {old} {new} {next} {i} d a h e p k q =
    let cut : drop i l ≡ a ∷ drop (i + 1) l = rw (e, add-one) (drop-cons l i d h) in
    record {
      below = omega arith;
      same_length = ap length p ∙ length-put _ _ new ∙ q.same_length;
      whole =
          then new (area_bytes a) next (bytes_of (drop (i + 1) l)) _ (at + 42 * i) (at + 42 * (i + 1)) p refl (omega arith)
          ∙ ap (λ (l : List Area). put (at + 42 * i) (bytes_of l) new) (sym cut)
          ∙ q.whole;
    }

pub written_all : {l : List Area} {at : ℕ} {old new : List ℕ} {i : ℕ} → length l ≤ i → WrittenTo l at old new i → new ≡ put at (bytes_of l) old
unfolding put
written_all {l} {at} {old} {new} {i} h q =
    ap (λ (l : List Area). put (at + 42 * i) (bytes_of l) new) (sym (drop_of_length-le l {i = i} h)) ∙ q.whole

-- ---- the header, then the areas

module _ (len : ℕ) (name : List ℕ) (base minor : ℕ) (wide : length name ≡ 32) where
  abbrev start : List ℕ
  start = 95 ∷ 95 ∷ 70 ∷ 77 ∷ 65 ∷ 80 ∷ 95 ∷ 95 ∷ 1 ∷ minor ∷ []

  abbrev head : ℕ → List ℕ
  head count = start ++ (le 8 base ++ (le 4 len ++ (name ++ le 2 count)))

  length-head : (count : ℕ) → length (head count) ≡ 56
  length-head count = simp (length-append, length-le) (omega arith)

  split : (areas : List Area) → map_bytes len name base minor areas ≡ head (length areas) ++ bytes_of areas
  unfolding map_bytes
  split areas = simp append_assoc

  first : (areas : List Area) → part 0 56 (map_bytes len name base minor areas) ≡ head (length areas)
  first areas = ap (part 0 56) (split areas) ∙ part-here (head (length areas)) (bytes_of areas) 56 (length-head _)

  pub header-written : (at count : ℕ) (s0 s1 s2 s3 s4 s5 : List ℕ) → s1 ≡ put at start s0 → s2 ≡ put (at + 10) (le 8 base) s1
      → s3 ≡ put (at + 18) (le 4 len) s2 → s4 ≡ put (at + 22) name s3 → s5 ≡ put (at + 54) (le 2 count) s4
      → (areas : List Area) → count ≡ length areas → s5 ≡ put at (part 0 56 (map_bytes len name base minor areas)) s0
  header-written at count s0 s1 s2 s3 s4 s5 p1 p2 p3 p4 p5 areas e =
      let l2 = length-le 8 base in
      let l3 = length-le 4 len in
      then s0 start s1 _ s5 at (at + 10) p1
      (then s1 _ s2 _ s5 (at + 10) (at + 18) p2
      (then s2 _ s3 _ s5 (at + 18) (at + 22) p3
      (then s3 _ s4 _ s5 (at + 22) (at + 54) p4 p5 (omega arith)) (omega arith)) (omega arith)) refl
      ∙ ap (λ (k : ℕ). put at (head k) s0) e
      ∙ ap (λ (l : List ℕ). put at l s0) (sym (first areas))

  pub map-written : (at : ℕ) (areas : List Area) (s0 s1 s2 : List ℕ) → s1 ≡ put at (part 0 56 (map_bytes len name base minor areas)) s0
      → s2 ≡ put (at + 56) (bytes_of areas) s1 → s2 ≡ put at (map_bytes len name base minor areas) s0
  map-written at areas s0 s1 s2 p q =
      let l = length-head (length areas) in
      then s0 (head (length areas)) s1 (bytes_of areas) s2 at (at + 56) (p ∙ ap (λ (l : List ℕ). put at l s0) (first areas)) q (omega arith)
      ∙ ap (λ (l : List ℕ). put at l s0) (sym (split areas))
