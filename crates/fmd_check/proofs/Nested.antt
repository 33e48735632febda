-- Sections lie in their parents, and any two are disjoint or one lies in the other.
use mathlib.Core.Path.{◌≡◌, refl, sym, ap, subst, ◌∙◌}
use mathlib.Core.Logic.{◌⊎◌, inl, inr, ⊎_elim}
use mathlib.Core.Bool.{true}
use mathlib.Core.List.{List}
use Prim.Native.Nat.{ℕ, zero, suc, ◌+◌, ◌≤◌, ◌<◌}
use native.Mathlib.Nat.{eq-or-lt_of_le}
use native.Mathlib.Numerals.{add-one}
use native.Mathlib.Omega.{arith}
use lib.Dec.{leb}
use lib.ListN.{length, get_or}
use borrow.Author.Tests.{leb-true, leb-false, le-leb}
use Rattle.octets.proofs.Bools.{and_i, or-il, or-ir, bool_cases}
use Rattle.fmap_rules.specs.Map.{position, blank_area, end_of, disjoint, inside, disjoint_or_nested}
use Rattle.fmap_rules.specs.declared.Extent.{Extent}
use Rattle.fmap_rules.specs.declared.Area.{Area}
use Rattle.fmd_parse.specs.Trees.{Tree}
use Rattle.fmd_table.specs.declared.Section.{Section}
use Rattle.fmd_table.specs.Table.{blank_placed}
use Rattle.fmd_check.specs.Fitted.{Fitted}
use Rattle.fmd_table.specs.declared.Placed.{Placed}
use Rattle.fmd_check.specs.Areas.{position_in, area_from, area_at, layout_areas}
use Rattle.fmd_check.specs.Claims.{AreasNested}
use Rattle.fmd_check.proofs.Places.{Top, Child, above, ends}
use Rattle.fmd_check.proofs.Shape.{length-areas, area-at}

-- ---- extents

-- x lies in y
record In (x y : Extent) : Type 0 where
  pub from : y.start.0 ≤ x.start.0
  pub to : end_of x ≤ end_of y

data Clear (x y : Extent) : Type 0 where
  before : end_of x ≤ y.start.0 → Clear x y
  behind : end_of y ≤ x.start.0 → Clear x y

in-self : {x : Extent} → In x x
in-self {x} = record { from = omega arith; to = omega arith }

in_on : {x y u : Extent} → In x y → In y u → In x u
in_on {x} {y} {u} a b = record { from = omega arith; to = omega arith }

clear_in : {x y u v : Extent} → In u x → In v y → Clear x y → Clear u v
clear_in {x} {y} {u} {v} a b (before h) = before (omega arith)
clear_in {x} {y} {u} {v} a b (behind h) = behind (omega arith)

clear-swap : {x y : Extent} → Clear x y → Clear y x
clear-swap (before h) = behind h
clear-swap (behind h) = before h

abbrev Within : Extent → Extent → Type 0
Within x y = (y.start.0 ≤ x.start.0) × (end_of x ≤ end_of y)

abbrev Apart : Extent → Extent → Type 0
Apart x y = ((end_of x ≤ y.start.0) ⊎ (end_of y ≤ x.start.0)) ⊎ (Within x y ⊎ Within y x)

clear_apart : {x y : Extent} → Clear x y → Apart x y
clear_apart (before h) = inl (inl h)
clear_apart (behind h) = inl (inr h)

-- the rule of a map says the same by a test
within-inside : (x y : Extent) → Within x y → inside x y ≡ true
unfolding inside
within-inside x y a = and_i _ _ (le-leb _ _ a.0) (le-leb _ _ a.1)

pub apart-test : (x y : Extent) → Apart x y → disjoint_or_nested x y ≡ true
unfolding disjoint_or_nested disjoint
apart-test x y a =
    ⊎_elim (λ c. or-il _ _ (⊎_elim (λ h. or-il _ _ (le-leb _ _ h)) (λ h. or-ir _ _ (le-leb _ _ h)) c))
    (λ w. or-ir _ _ (⊎_elim (λ i. or-il _ _ (within-inside x y i)) (λ i. or-ir _ _ (within-inside y x i)) w)) a

-- ---- section k of the list

abbrev level_at : List Placed → ℕ → ℕ
level_at ps k = (get_or ps k blank_placed).level

abbrev parent_at : List Placed → ℕ → ℕ
parent_at ps k = (get_or ps k blank_placed).parent

-- where it lies in the image
at : List Placed → ℕ → Extent
at ps k = record { start = position (position_in (level_at ps k) ps k); size = (get_or ps k blank_placed).size }

starts : (ps : List Placed) (k n : ℕ) → level_at ps k ≡ suc n → (at ps k).start.0 ≡ (get_or ps k blank_placed).offset.0 + position_in n ps (parent_at ps k)
unfolding at position_in
starts ps k n e = rw e

child-in : (ps : List Placed) (k : ℕ) → Child ps k (get_or ps k blank_placed) → In (at ps k) (at ps (parent_at ps k))
unfolding at
child-in ps k a =
    let e = starts ps k (level_at ps (parent_at ps k)) (sym a.level ∙ add-one _) in record { from = omega arith; to = omega (arith, a.within) }

ordered : (j k : ℕ) → (j ≡ k) ⊎ ((j < k) ⊎ (k < j))
ordered j k =
    ⊎_elim (λ e. ⊎_elim inl (λ h. inr (inl h)) (eq-or-lt_of_le (leb-true j k e))) (λ e. inr (inr (leb-false j k e))) (bool_cases (leb j k))

-- ---- any two

module _ (s : List ℕ) (z : ℕ) (l : List Section) (ps : List Placed) (t : Tree s l) (f : Fitted z l ps) where
  abbrev There : ℕ → Type 0
  There k = k < length ps

  abbrev Above : ℕ → Type 0
  Above k = Top z (get_or ps k blank_placed) ⊎ Child ps k (get_or ps k blank_placed)

  low : (k : ℕ) → There k → 1 ≤ level_at ps k
  low k h = ⊎_elim (λ a. let e = a.level in omega arith) (λ a. let e = a.level in omega arith) (above s z l ps t f k h)

  -- siblings, of one level and one parent
  module _ (n : ℕ) where
    later : (j k : ℕ) → There k → j < k → level_at ps j ≡ suc n → level_at ps k ≡ suc n → parent_at ps j ≡ parent_at ps k → Clear (at ps j) (at ps k)
    unfolding at
    later j k h q v w e =
        before (omega (arith, (f.each k h).after j q e, starts ps j n v, starts ps k n w, ap (position_in n ps) e))

    siblings : (j k : ℕ) → There j → There k → level_at ps j ≡ suc n → level_at ps k ≡ suc n → parent_at ps j ≡ parent_at ps k
        → (j ≡ k) ⊎ Clear (at ps j) (at ps k)
    siblings j k g h v w e =
        ⊎_elim inl (λ q. inr (⊎_elim (λ o. later j k h o v w e) (λ o. clear-swap (later k j g o w v (sym e))) q)) (ordered j k)

  -- two of one level
  level-apart : (n j k : ℕ) → There j → There k → level_at ps j ≡ suc n → level_at ps k ≡ suc n → (j ≡ k) ⊎ Clear (at ps j) (at ps k)
  level-apart zero j k g h v w = go (above s z l ps t f j g) (above s z l ps t f k h)
    where
      deep : {A : Type 0} (i : ℕ) → There i → level_at ps i ≡ 1 → Child ps i (get_or ps i blank_placed) → A
      deep i o e a = let p = a.parent in absurd (omega (arith, a.level, low (parent_at ps i) (omega arith)))

      go : Above j → Above k → (j ≡ k) ⊎ Clear (at ps j) (at ps k)
      go (inl a) (inl b) = siblings zero j k g h v w (a.parent ∙ sym b.parent)
      go (inr a) b = deep j g v a
      go (inl a) (inr b) = deep k h w b
  level-apart (suc n) j k g h v w = go (level-apart n) (above s z l ps t f j g) (above s z l ps t f k h)
    where
      go : ((i m : ℕ) → There i → There m → level_at ps i ≡ suc n → level_at ps m ≡ suc n → (i ≡ m) ⊎ Clear (at ps i) (at ps m)) → Above j → Above k
          → (j ≡ k) ⊎ Clear (at ps j) (at ps k)
      go r (inl a) b = absurd (omega (arith, a.level))
      go r (inr a) (inl b) = absurd (omega (arith, b.level))
      go r (inr a) (inr b) =
          let p = a.parent in
          let q = b.parent in
          let x = a.level in
          let y = b.level in
          ⊎_elim (siblings (suc n) j k g h v w) (λ c. inr (clear_in (child-in ps j a) (child-in ps k b) c))
          (r (parent_at ps j) (parent_at ps k) (omega arith) (omega arith) (omega arith) (omega arith))

  -- k at least as deep as j
  deeper-apart : (n j k : ℕ) → There j → There k → level_at ps k ≡ n → level_at ps j ≤ n → Clear (at ps j) (at ps k) ⊎ In (at ps k) (at ps j)
  deeper-apart zero j k g h v w = absurd (omega (arith, low k h))
  deeper-apart (suc n) j k g h v w = ⊎_elim equal (less (deeper-apart n) (above s z l ps t f k h)) (eq-or-lt_of_le w)
    where
      equal : level_at ps j ≡ suc n → Clear (at ps j) (at ps k) ⊎ In (at ps k) (at ps j)
      equal e =
          ⊎_elim (λ q. inr (subst (λ (i : ℕ). In (at ps i) (at ps j)) q in-self)) inl (level-apart n j k g h e v)

      less : ((i m : ℕ) → There i → There m → level_at ps m ≡ n → level_at ps i ≤ n → Clear (at ps i) (at ps m) ⊎ In (at ps m) (at ps i)) → Above k
          → level_at ps j < suc n → Clear (at ps j) (at ps k) ⊎ In (at ps k) (at ps j)
      less r (inl a) q = absurd (omega (arith, a.level, low j g))
      less r (inr a) q =
          let p = a.parent in
          let x = a.level in
          ⊎_elim (λ c. inl (clear_in in-self (child-in ps k a) c)) (λ i. inr (in_on (child-in ps k a) i))
          (r j (parent_at ps k) g (omega arith) (omega arith) (omega arith))

  apart : (j k : ℕ) → There j → There k → Apart (at ps j) (at ps k)
  apart j k g h =
      ⊎_elim (λ e. ⊎_elim clear_apart (λ i. inr (inr (i.from, i.to))) (deeper-apart (level_at ps k) j k g h refl (leb-true _ _ e)))
      (λ e.
      let q = leb-false (level_at ps j) (level_at ps k) e in
      ⊎_elim (λ c. clear_apart (clear-swap c)) (λ i. inr (inl (i.from, i.to))) (deeper-apart (level_at ps j) k j h g refl (omega arith)))
      (bool_cases (leb (level_at ps j) (level_at ps k)))

  -- ---- the areas

  abbrev areas : List Area
  areas = layout_areas s l ps

  there : {k : ℕ} → k < length areas → There k
  there h = rw (length-areas s l ps) at h

  place_at : (k : ℕ) → There k → (get_or areas k blank_area).place ≡ at ps k
  unfolding at area_at area_from
  place_at k h = ap (λ (a : Area). a.place) (area-at s l ps k h)

  in-parent : (k p : ℕ) → There k → parent_at ps k ≡ p → p < k → Within (get_or areas k blank_area).place (get_or areas p blank_area).place
  in-parent k p h e q = rw (place_at k h, place_at p (omega arith)) (go (above s z l ps t f k h))
    where
      go : Above k → Within (at ps k) (at ps p)
      go (inl a) = absurd (omega (arith, a.parent, t.room, f.count))
      go (inr a) = let w = subst (λ (i : ℕ). In (at ps k) (at ps i)) e (child-in ps k a) in (w.from, w.to)

  two-apart : (j k : ℕ) → There j → There k → Apart (get_or areas j blank_area).place (get_or areas k blank_area).place
  two-apart j k g h = rw (place_at j g, place_at k h) (apart j k g h)

  size-some : (k : ℕ) → There k → (get_or areas k blank_area).place.start.0 < end_of (get_or areas k blank_area).place
  unfolding at
  size-some k h = rw (place_at k h) (omega (arith, (f.each k h).some))

  end-within : (k : ℕ) → There k → end_of (get_or areas k blank_area).place ≤ z
  unfolding at
  end-within k h = rw (place_at k h) (ends s z l ps t f k h)

pub areas-nested : AreasNested
areas-nested s z l ps t f =
    record {
      count = length-areas s l ps ∙ f.count;
      some = λ k h. size-some s z l ps t f k (there s z l ps t f h);
      within = λ k h. end-within s z l ps t f k (there s z l ps t f h);
      child = λ k h. let g = there s z l ps t f h in in-parent s z l ps t f k _ g (f.parent k g);
      apart = λ j k g h. two-apart s z l ps t f j k (there s z l ps t f g) (there s z l ps t f h);
    }
