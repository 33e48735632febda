-- What holds of every resolution leaves no other one.
use Rattle.std.specs.Prelude.{Option, Some, None}
use mathlib.Core.Path.{◌≡◌, sym, ap, ap₂, ◌∙◌}
use mathlib.Core.Bool.{Bool, true, false}
use mathlib.Core.Logic.{◌⊎◌, inl, inr}
use mathlib.Core.List.{List}
use Prim.Native.Nat.{ℕ, zero, suc, ◌+◌, ◌-◌, ◌≤◌, ◌<◌}
use native.Mathlib.Nat.{eq-or-lt_of_le, not-suc-le-zero}
use native.Mathlib.Omega.{arith}
use lib.Dec.{eqb}
use lib.ListN.{length, get_or, take}
use lib.Seq.{ext_get_or, get_or-take, length-take-le}
use borrow.Author.Tests.{eqb-true, eqb-false}
use Rattle.octets.proofs.Bools.{bool_cases}
use Rattle.fmd_parse.specs.Trees.{blank_section}
use Rattle.fmd_table.specs.Table.{blank_placed}
use Rattle.fmd_table.specs.declared.ParentOffset.{ParentOffset}
use Rattle.fmd_table.specs.declared.Section.{Section}
use Rattle.fmd_table.specs.declared.Placed.{Placed}
use Rattle.fmd_check.specs.Plans.{placed_end, room_of, start_of}
use Rattle.fmd_check.specs.Fitted.{Siblings, Neighbours, BeginsAt, EndsAt, Fitted}
use Rattle.fmd_check.specs.Claims.{FittedOnce}

-- ---- a section has a previous sibling or none, and a next one or none

module _ (l : List Section) (k : ℕ) where
  abbrev NoneAmong : ℕ → ℕ → Type 0
  NoneAmong a b = (j : ℕ) → a ≤ j → j < b → Siblings l j k → ⊥

  -- one more that is none, in front or behind
  none-front : (a b : ℕ) → NoneAmong (suc a) b → (Siblings l a k → ⊥) → NoneAmong a b
  none-front a b f g j x y = by (eq-or-lt_of_le {n = a} {m = j} x)
    where
      by : (a ≡ j) ⊎ (a < j) → Siblings l j k → ⊥
      by (inl e) = rw (sym e) g
      by (inr e) = f j e y

  none-behind : (a b : ℕ) → NoneAmong a b → (Siblings l b k → ⊥) → NoneAmong a (suc b)
  none-behind a b f g j x y = by (eq-or-lt_of_le {n = j} {m = b} (omega arith))
    where
      by : (j ≡ b) ⊎ (j < b) → Siblings l j k → ⊥
      by (inl e) = rw e g
      by (inr e) = f j x e

  sibling-or-not : (j : ℕ) → Siblings l j k ⊎ (Siblings l j k → ⊥)
  sibling-or-not j = by (bool_cases (eqb (get_or l j blank_section).parent (get_or l k blank_section).parent))
    where
      t : Bool
      t = eqb (get_or l j blank_section).parent (get_or l k blank_section).parent

      by : (t ≡ true) ⊎ (t ≡ false) → Siblings l j k ⊎ (Siblings l j k → ⊥)
      by (inl q) = inl (eqb-true _ _ q)
      by (inr q) = inr (eqb-false _ _ q)

  previous : (m : ℕ) → m ≤ k → NoneAmong m k → ((j : ℕ) × Neighbours l j k) ⊎ NoneAmong 0 k
  previous zero h f = inr f
  previous (suc m) h f = by (previous m (omega arith)) (sibling-or-not m)
    where
      by : (NoneAmong m k → ((j : ℕ) × Neighbours l j k) ⊎ NoneAmong 0 k) → Siblings l m k ⊎ (Siblings l m k → ⊥) → ((j : ℕ) × Neighbours l j k) ⊎ NoneAmong 0 k
      by below (inl s) = inl (m, record { before = h; siblings = s; between = f })
      by below (inr s) = below (none-front m k f s)

  -- the n sections from i on are looked at
  next : (n i : ℕ) → k < i → i + n ≡ length l → NoneAmong (suc k) i → ((i : ℕ) × (i < length l) × Neighbours l k i) ⊎ NoneAmong (suc k) (length l)
  next zero i h e f = let w : i ≡ length l = omega arith in inr (rw (sym w) f)
  next (suc n) i h e f = by (next n (suc i) (omega arith) (omega arith)) (sibling-or-not i)
    where
      by : (NoneAmong (suc k) (suc i) → ((i : ℕ) × (i < length l) × Neighbours l k i) ⊎ NoneAmong (suc k) (length l))
          → Siblings l i k ⊎ (Siblings l i k → ⊥) → ((i : ℕ) × (i < length l) × Neighbours l k i) ⊎ NoneAmong (suc k) (length l)
      by above (inl s) = inl (i, omega arith, record { before = h; siblings = sym s; between = λ j x y t. f j x y (t ∙ s) })
      by above (inr s) = above (none-behind (suc k) i f s)

-- ---- section k of two resolutions that agree below k

module _ (z : ℕ) (l : List Section) (ps qs : List Placed) (k : ℕ) (h : k < length l) (same-before : (j : ℕ) → j < k
    → get_or ps j blank_placed ≡ get_or qs j blank_placed) where
  begins-once : (o : Option ParentOffset) (x y : ℕ) → BeginsAt l ps k o x → BeginsAt l qs k o y → x ≡ y
  begins-once (Some o) x y a b = a ∙ sym b
  begins-once None x y a b = by (previous l k k (omega arith) (λ j u v. absurd (omega arith)))
    where
      by : ((j : ℕ) × Neighbours l j k) ⊎ ((j : ℕ) → 0 ≤ j → j < k → Siblings l j k → ⊥) → x ≡ y
      by (inl (j, n)) = a.0 j n ∙ ap placed_end (same-before j n.before) ∙ sym (b.0 j n)
      by (inr f) = a.1 (λ j u. f j (omega arith) u) ∙ sym (b.1 (λ j u. f j (omega arith) u))

  module _ (short : k ≤ length ps) (short' : k ≤ length qs) where
    one-room : (par par' : ℕ) → par ≡ par' → room_of z par (take k ps) ≡ room_of z par' (take k qs)
    one-room par par' e =
        let m = length-take-le k ps short in
        let m' = length-take-le k qs short' in
        ap₂ (room_of z) e
        (ext_get_or blank_placed (take k ps) (take k qs) (m ∙ sym m')
        (λ j u.
        let v : j < k = omega arith in
        get_or-take k ps j blank_placed v ∙ same-before j v ∙ sym (get_or-take k qs j blank_placed v)))

    ends-once : (s : Option ℕ) (p q : Placed) → p.offset.0 ≡ q.offset.0 → p.parent ≡ q.parent → EndsAt z l ps k s p → EndsAt z l qs k s q → p.size ≡ q.size
    ends-once (Some n) p q e f a b = a ∙ sym b
    ends-once None p q e f a b = by (next l k (length l - suc k) (suc k) (omega arith) (omega arith) (λ j u v. absurd (omega arith)))
      where
        by : ((i : ℕ) × (i < length l) × Neighbours l k i) ⊎ ((j : ℕ) → suc k ≤ j → j < length l → Siblings l j k → ⊥) → p.size ≡ q.size
        by (inl (i, u, n)) = let w : placed_end p ≡ placed_end q = ap (λ (o : Option ParentOffset). start_of o 0) (sym (a.0 i u n) ∙ b.0 i u n) in omega arith
        by (inr g) = let w : placed_end p ≡ placed_end q = a.1 g ∙ one-room p.parent q.parent f ∙ sym (b.1 g) in omega arith

placed_same : (p q : Placed) → p.offset.0 ≡ q.offset.0 → p.size ≡ q.size → p.parent ≡ q.parent → p.level ≡ q.level → p ≡ q
placed_same p q a b c d = λ i. record { offset = record { 0 = a i }; size = b i; parent = c i; level = d i }

module _ (z : ℕ) (l : List Section) (ps qs : List Placed) (f : Fitted z l ps) (g : Fitted z l qs) where
  at_last : (n : ℕ) → n < length l → ((k : ℕ) → k < n → get_or ps k blank_placed ≡ get_or qs k blank_placed)
      → get_or ps n blank_placed ≡ get_or qs n blank_placed
  at_last n h s =
      let u : n < length ps = omega (arith, f.count) in
      let v : n < length qs = omega (arith, g.count) in
      let o = begins-once z l ps qs n h s (get_or l n blank_section).offset _ _ (f.begins n u) (g.begins n v) in
      let par = f.parent n u ∙ sym (g.parent n v) in
      placed_same _ _ o
      (ends-once z l ps qs n h s (omega arith) (omega arith) (get_or l n blank_section).size (get_or ps n blank_placed) (get_or qs n blank_placed) o par
      (f.ends n u)
      (g.ends n v))
      par (f.level n u ∙ sym (g.level n v))

  -- the places below n agree
  below : (n : ℕ) → n ≤ length l → (k : ℕ) → k < n → get_or ps k blank_placed ≡ get_or qs k blank_placed
  below zero h k w = absurd (not-suc-le-zero w)
  below (suc n) h k w = by (below n (omega arith)) (eq-or-lt_of_le {n = k} {m = n} (omega arith))
    where
      by : ((j : ℕ) → j < n → get_or ps j blank_placed ≡ get_or qs j blank_placed) → (k ≡ n) ⊎ (k < n) → get_or ps k blank_placed ≡ get_or qs k blank_placed
      by s (inl e) = rw e (at_last n h s)
      by s (inr e) = s k e

pub fitted-once : FittedOnce
fitted-once z l ps qs f g =
    ext_get_or blank_placed ps qs (f.count ∙ sym g.count) (λ k h. below z l ps qs f g (length l) (omega arith) k (omega (arith, f.count)))
