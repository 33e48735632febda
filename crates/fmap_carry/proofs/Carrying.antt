-- Laws of the image after a carry: one area more, and what arrives and stays.
use mathlib.Core.Path.{◌≡◌, refl, sym, ap, ◌∙◌}
use mathlib.Core.Logic.{◌⊎◌, inl, inr}
use mathlib.Core.Bool.{true, false, not}
use mathlib.Core.List.{List, [], ◌∷◌}
use Prim.Native.Nat.{ℕ, zero, suc, ◌+◌, ◌≤◌, ◌<◌, suc-le-suc}
use native.Mathlib.Nat.{not-suc-le-zero, le_of_suc-le-suc, zero-lt-suc}
use native.Mathlib.Omega.{arith}
use lib.ListN.{length, get_or}
use lib.Dec.{leb}
use borrow.Author.Tests.{leb-true}
use Rattle.octets.specs.Tests.{pairs}
use Rattle.octets.specs.Bytes.{part, put}
use Rattle.octets.proofs.Bools.{and_l, and_r, or_cases, or-skip, bool_cases}
use Rattle.octets.proofs.Tests.{all-get}
use Rattle.octets.proofs.Parts.{length_part}
use Rattle.octets.proofs.Puts.{length-put, part-put-out, part-put-same}
use Rattle.fmap_rules.specs.declared.Extent.{Extent}
use Rattle.fmap_rules.specs.declared.Area.{Area}
use Rattle.fmap_rules.specs.Map.{blank_area, end_of, disjoint}
use Rattle.fmap_carry.specs.Carry.{preserved, target, clear_by, clear, carry_area, carried}
use Rattle.fmap_carry.specs.Invariants.{Fit, Fitting}

apart : (x y : Extent) → disjoint x y ≡ true → (end_of x ≤ y.start.0) ⊎ (end_of y ≤ x.start.0)
unfolding disjoint
apart x y e = go (or_cases _ _ e)
  where
    go : (leb (end_of x) y.start.0 ≡ true) ⊎ (leb (end_of y) x.start.0 ≡ true) → (end_of x ≤ y.start.0) ⊎ (end_of y ≤ x.start.0)
    go (inl h) = inl (leb-true _ _ h)
    go (inr h) = inr (leb-true _ _ h)

-- of two areas that are both carried
targets-apart : (news : List Area) (a b : Area) → clear news a b ≡ true → preserved a ≡ true → preserved b ≡ true
    → (end_of (target news a) ≤ (target news b).start.0) ⊎ (end_of (target news b) ≤ (target news a).start.0)
unfolding clear clear_by
targets-apart news a b e p q = apart _ _ (and_r _ _ (or-skip _ _ (ap not q) (or-skip _ _ (ap not p) e)))

module _ (old : List ℕ) (news : List Area) where
  -- ---- one area

  pub carry-kept : (a : Area) (image : List ℕ) → preserved a ≡ true
      → carry_area old news a image ≡ put (target news a).start.0 (part a.place.start.0 a.place.size old) image
  unfolding carry_area
  carry-kept a image e = rw e

  pub carry-other : (a : Area) (image : List ℕ) → preserved a ≡ false → carry_area old news a image ≡ image
  unfolding carry_area
  carry-other a image e = rw e

  pub length-area : (a : Area) (image : List ℕ) → length (carry_area old news a image) ≡ length image
  length-area a image = go (bool_cases (preserved a))
    where
      go : (preserved a ≡ true) ⊎ (preserved a ≡ false) → length (carry_area old news a image) ≡ length image
      go (inl e) = ap length (carry-kept a image e) ∙ length-put _ _ image
      go (inr e) = ap length (carry-other a image e)

  pub length-carried : (olds : List Area) (image : List ℕ) → length (carried old news olds image) ≡ length image
  unfolding carried
  length-carried [] image = refl
  length-carried (a ∷ olds) image = length-carried olds (carry_area old news a image) ∙ length-area a image

  -- ---- a part that meets no target stays

  abbrev Clear : Area → ℕ → ℕ → Type 0
  Clear a s k = preserved a ≡ true → (end_of (target news a) ≤ s) ⊎ (s + k ≤ (target news a).start.0)

  module _ (m : ℕ) where
    part-area : (a : Area) (image : List ℕ) (s k : ℕ) → (preserved a ≡ true → Fit (length old) m news a) → Clear a s k
        → part s k (carry_area old news a image) ≡ part s k image
    part-area a image s k f c = go (bool_cases (preserved a))
      where
        side : preserved a ≡ true → (end_of (target news a) ≤ s) ⊎ (s + k ≤ (target news a).start.0)
            → ((target news a).start.0 + length (part a.place.start.0 a.place.size old) ≤ s) ⊎ (s + k ≤ (target news a).start.0)
        side e (inl q) = let w = f e in let l = length_part old a.place.start.0 a.place.size w.from in inl (omega (arith, w.size))
        side e (inr q) = inr q

        go : (preserved a ≡ true) ⊎ (preserved a ≡ false) → part s k (carry_area old news a image) ≡ part s k image
        go (inl e) = ap (part s k) (carry-kept a image e) ∙ part-put-out _ image s k _ (side e (c e))
        go (inr e) = ap (part s k) (carry-other a image e)

    pub part-carried : (olds : List Area) (image : List ℕ) (s k : ℕ) → Fitting (length old) m news olds
        → ((i : ℕ) → i < length olds → Clear (get_or olds i blank_area) s k) → part s k (carried old news olds image) ≡ part s k image
    unfolding carried
    part-carried [] image s k f c = refl
    part-carried (a ∷ olds) image s k f c =
        part-carried olds (carry_area old news a image) s k (λ i h. f (suc i) (suc-le-suc h)) (λ i h. c (suc i) (suc-le-suc h))
        ∙ part-area a image s k (f zero (zero-lt-suc _)) (c zero (zero-lt-suc _))

    -- ---- each preserved area arrives

    placed : (a : Area) (image : List ℕ) → length image ≡ m → preserved a ≡ true → Fit (length old) m news a
        → part (target news a).start.0 (target news a).size (carry_area old news a image) ≡ part a.place.start.0 a.place.size old
    placed a image l e f =
        let b = length_part old a.place.start.0 a.place.size f.from in
        let z : (target news a).size ≡ length (part a.place.start.0 a.place.size old) = sym f.size ∙ sym b in
        let w : (target news a).start.0 + length (part a.place.start.0 a.place.size old) ≤ length image = omega (arith, f.to) in
        ap (part (target news a).start.0 (target news a).size) (carry-kept a image e)
        ∙ ap (λ (k : ℕ). part (target news a).start.0 k (put (target news a).start.0 (part a.place.start.0 a.place.size old) image)) z
        ∙ part-put-same (part a.place.start.0 a.place.size old) image (target news a).start.0 w

    pub arrives : (olds : List Area) (image : List ℕ) → length image ≡ m → pairs (clear news) olds ≡ true → Fitting (length old) m news olds
        → (i : ℕ) → i < length olds → preserved (get_or olds i blank_area) ≡ true
        → part (target news (get_or olds i blank_area)).start.0 (target news (get_or olds i blank_area)).size (carried old news olds image)
        ≡ part (get_or olds i blank_area).place.start.0 (get_or olds i blank_area).place.size old
    unfolding carried
    arrives [] image l e f i h p = absurd (not-suc-le-zero h)
    arrives (a ∷ olds) image l e f zero h p =
        part-carried olds (carry_area old news a image) (target news a).start.0 (target news a).size (λ j k. f (suc j) (suc-le-suc k))
        (λ j k q. swap (get_or olds j blank_area)
        (targets-apart news a (get_or olds j blank_area) (all-get (clear news a) olds blank_area (and_l _ _ e) j k) p q))
        ∙ placed a image l p (f zero (zero-lt-suc _) p)
      where
        swap : (b : Area) → (end_of (target news a) ≤ (target news b).start.0) ⊎ (end_of (target news b) ≤ (target news a).start.0)
            → (end_of (target news b) ≤ (target news a).start.0) ⊎ (end_of (target news a) ≤ (target news b).start.0)
        swap b (inl q) = inr q
        swap b (inr q) = inl q
    arrives (a ∷ olds) image l e f (suc i) h p =
        arrives olds (carry_area old news a image) (length-area a image ∙ l) (and_r _ _ e) (λ j k. f (suc j) (suc-le-suc k)) i (le_of_suc-le-suc h) p
