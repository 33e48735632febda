-- Room: a run of free blocks as a fact, and the lowest aligned start that has it.
use mathlib.Core.Path.{◌≡◌, refl, sym, ap, ◌∙◌}
use mathlib.Core.Logic.{◌⊎◌, inl, inr}
use mathlib.Core.Bool.{Bool, true, false, not, true≢false, false≢true}
use mathlib.Core.List.{List}
use mathlib.Core.Option.{none, some}
use Prim.Native.Nat.{ℕ, zero, suc, ◌+◌, ◌-◌, ◌≤◌, ◌<◌}
use native.Mathlib.Decide.{dec_lt, ℕ_discrete}
use native.Mathlib.Omega.{arith}
use borrow.Author.Tests.{leb-true, le-leb, eqb-true, eq-eqb}
use Rattle.octets.proofs.Bools.{and_l, and_r, and_i, and-skip, bool_cases, not_t, clash, some-none, option_cases}
use Rattle.gpt_model.specs.Table.{BlockRange, no_blocks, spans}
use Rattle.gpt_model.specs.Ranges.{block_in, in_some, in_none, MultipleOf, all_from, room_at, lowest_from, aligned_at, lowest_start}
use Rattle.gpt_model.proofs.Multiples.{multiple-mod, mod-multiple}

-- ---- a block in a range

pub block_in-make : (b f l : ℕ) → f ≤ b → b ≤ l → block_in b (spans f l) ≡ true
unfolding block_in
block_in-make b f l h g = and_i _ _ (le-leb _ _ h) (le-leb _ _ g)

pub block_in-get : (b f l : ℕ) → block_in b (spans f l) ≡ true → (f ≤ b) × (b ≤ l)
unfolding block_in
block_in-get b f l e = (leb-true _ _ (and_l _ _ e), leb-true _ _ (and_r _ _ e))

pub block_in-none : (b : ℕ) → block_in b no_blocks ≡ true → ⊥
unfolding block_in
block_in-none b e = false≢true e

pub not-in-none : (b : ℕ) → block_in b no_blocks ≡ false
unfolding block_in
not-in-none b = refl

-- ---- all_from and first_from

pub all_from-get : (p : ℕ → Bool) (lo k : ℕ) → all_from p lo k ≡ true → (b : ℕ) → lo ≤ b → b < lo + k → p b ≡ true
unfolding all_from
all_from-get p lo zero e b h g = absurd (omega arith)
all_from-get p lo (suc k) e b h g = go (ℕ_discrete b lo) (all_from-get p (suc lo) k (and_r _ _ e) b)
  where
    go : Dec (b ≡ lo) → (suc lo ≤ b → b < suc lo + k → p b ≡ true) → p b ≡ true
    go (yes q) ih = ap p q ∙ and_l _ _ e
    go (no n) ih = ih (omega arith) (omega arith)

pub all_from-make : (p : ℕ → Bool) (lo k : ℕ) → ((b : ℕ) → lo ≤ b → b < lo + k → p b ≡ true) → all_from p lo k ≡ true
unfolding all_from
all_from-make p lo zero f = refl
all_from-make p lo (suc k) f = and_i _ _ (f lo (omega arith) (omega arith)) (all_from-make p (suc lo) k (λ b h g. f b (omega arith) (omega arith)))

pub all_from-fails : (p : ℕ → Bool) (lo k : ℕ) → all_from p lo k ≡ false → (b : ℕ) × (lo ≤ b) × (b < lo + k) × (p b ≡ false)
unfolding all_from
all_from-fails p lo zero e = absurd (true≢false e)
all_from-fails p lo (suc k) e = go (bool_cases (p lo)) (all_from-fails p (suc lo) k)
  where
    go : (p lo ≡ true) ⊎ (p lo ≡ false) → (all_from p (suc lo) k ≡ false → (b : ℕ) × (suc lo ≤ b) × (b < suc lo + k) × (p b ≡ false))
        → (b : ℕ) × (lo ≤ b) × (b < lo + suc k) × (p b ≡ false)
    go (inl q) ih =
        let w = ih (and-skip _ _ q e) in
        let l = w.1 in
        let h = w.2 in
        (w.0, omega arith, omega arith, w.3)
    go (inr q) ih = (lo, omega arith, omega arith, q)

lowest_from-yes : (p : ℕ → Bool) (lo k : ℕ) → p lo ≡ true → lowest_from p lo (suc k) ≡ some lo
unfolding lowest_from
lowest_from-yes p lo k e = rw (e, lowest_from)

lowest_from-no : (p : ℕ → Bool) (lo k : ℕ) → p lo ≡ false → lowest_from p lo (suc k) ≡ lowest_from p (suc lo) k
unfolding lowest_from
lowest_from-no p lo k e = rw (e, lowest_from)

lowest_from-end : (p : ℕ → Bool) (lo : ℕ) → lowest_from p lo zero ≡ none
unfolding lowest_from
lowest_from-end p lo = refl

pub lowest_from-none : (p : ℕ → Bool) (lo k : ℕ) → lowest_from p lo k ≡ none → (b : ℕ) → lo ≤ b → b < lo + k → p b ≡ false
lowest_from-none p lo zero e b h g = absurd (omega arith)
lowest_from-none p lo (suc k) e b h g = go (bool_cases (p lo)) (ℕ_discrete b lo) (lowest_from-none p (suc lo) k)
  where
    go : (p lo ≡ true) ⊎ (p lo ≡ false) → Dec (b ≡ lo) → (lowest_from p (suc lo) k ≡ none → (b : ℕ) → suc lo ≤ b → b < suc lo + k → p b ≡ false) → p b ≡ false
    go (inl q) d ih = absurd (some-none (sym (lowest_from-yes p lo k q) ∙ e))
    go (inr q) (yes r) ih = ap p r ∙ q
    go (inr q) (no r) ih = ih (sym (lowest_from-no p lo k q) ∙ e) b (omega arith) (omega arith)

pub lowest_from-some : (p : ℕ → Bool) (lo k s : ℕ) → lowest_from p lo k ≡ some s
    → (lo ≤ s) × (s < lo + k) × (p s ≡ true) × ((b : ℕ) → lo ≤ b → b < s → p b ≡ false)
lowest_from-some p lo zero s e = absurd (some-none (sym e ∙ lowest_from-end p lo))
lowest_from-some p lo (suc k) s e = go (bool_cases (p lo)) (lowest_from-some p (suc lo) k s)
  where
    go : (p lo ≡ true) ⊎ (p lo ≡ false)
        → (lowest_from p (suc lo) k ≡ some s → (suc lo ≤ s) × (s < suc lo + k) × (p s ≡ true) × ((b : ℕ) → suc lo ≤ b → b < s → p b ≡ false))
        → (lo ≤ s) × (s < lo + suc k) × (p s ≡ true) × ((b : ℕ) → lo ≤ b → b < s → p b ≡ false)
    go (inl q) ih =
        let w = lowest_from-yes p lo k q in
        let r : lo ≡ s = cc in
        (omega arith, omega arith, ap p (sym r) ∙ q, λ b h g. absurd (omega arith))
    go (inr q) ih =
        let r = ih (sym (lowest_from-no p lo k q) ∙ e) in
        (omega arith, omega arith, r.2, λ b h g. low b h g r (ℕ_discrete b lo))
      where
        low : (b : ℕ) → lo ≤ b → b < s → (suc lo ≤ s) × (s < suc lo + k) × (p s ≡ true) × ((b : ℕ) → suc lo ≤ b → b < s → p b ≡ false)
            → Dec (b ≡ lo) → p b ≡ false
        low b h g r (yes u) = ap p u ∙ q
        low b h g r (no u) = r.3 b (omega arith) g

-- ---- room

-- the blocks s to s + size − 1 end at last or before, and each lies in no partition
abbrev pub Room : List BlockRange → ℕ → ℕ → ℕ → Type 0
Room t last size s = (s + size ≤ suc last) × ((b : ℕ) → s ≤ b → b < s + size → in_some t b ≡ false)

pub room-make : (t : List BlockRange) (last size s : ℕ) → Room t last size s → room_at t last size s ≡ true
unfolding room_at
room-make t last size s r =
    and_i _ _ (le-leb _ _ r.0) (all_from-make (in_none t) s size (λ b h g. ap not (r.1 b h g)))

pub room-get : (t : List BlockRange) (last size s : ℕ) → room_at t last size s ≡ true → Room t last size s
unfolding room_at
room-get t last size s e =
    (leb-true _ _ (and_l _ _ e), λ b h g. not_t _ (all_from-get (in_none t) s size (and_r _ _ e) b h g))

-- ---- aligned starts

-- a multiple of m with room
abbrev pub Start : List BlockRange → ℕ → ℕ → ℕ → ℕ → Type 0
Start t last size m s = MultipleOf m s × Room t last size s

module _ (t : List BlockRange) (first last size m : ℕ) where
  aligned-make : (s : ℕ) → Start t last size m s → aligned_at t last size m s ≡ true
  aligned-make s w = and_i _ _ (eq-eqb _ _ (multiple-mod m s w.0)) (room-make t last size s w.1)

  aligned-get : (s : ℕ) → aligned_at t last size m s ≡ true → Start t last size m s
  aligned-get s e = (mod-multiple m s (eqb-true _ _ (and_l _ _ e)), room-get t last size s (and_r _ _ e))

  -- none: no multiple of m has room
  pub start_none : 0 < size → lowest_start t first last size m ≡ none → (s : ℕ) → first ≤ s → Start t last size m s → ⊥
  unfolding lowest_start
  start_none pos e s h w =
      let r = w.1.0 in
      clash (aligned-make s w) (lowest_from-none (aligned_at t last size m) first (suc last - first) e s h (omega arith))

  pub start-some : (s : ℕ) → lowest_start t first last size m ≡ some s
      → (first ≤ s) × Start t last size m s × ((b : ℕ) → first ≤ b → b < s → Start t last size m b → ⊥)
  unfolding lowest_start
  start-some s e =
      let r = lowest_from-some (aligned_at t last size m) first (suc last - first) s e in
      (r.0, aligned-get s r.2, λ b h g w. clash (aligned-make b w) (r.3 b h g))

  -- the lowest multiple of m with room is what `lowest_start` answers, and none is what it answers where none has room
  pub start_is : (s : ℕ) → 0 < size → first ≤ s → Start t last size m s → ((b : ℕ) → first ≤ b → b < s → Start t last size m b → ⊥)
      → lowest_start t first last size m ≡ some s
  start_is s pos h r low = go (option_cases (lowest_start t first last size m))
    where
      go : (lowest_start t first last size m ≡ none) ⊎ ((s : ℕ) × (lowest_start t first last size m ≡ some s)) → lowest_start t first last size m ≡ some s
      go (inl e) = absurd (start_none pos e s h r)
      go (inr w) = let k = start-some w.0 w.1 in
          w.1 ∙ ap some (same k (dec_lt w.0 s) (dec_lt s w.0))
        where
          same : (first ≤ w.0) × Start t last size m w.0 × ((b : ℕ) → first ≤ b → b < w.0 → Start t last size m b → ⊥)
              → Dec (w.0 < s) → Dec (s < w.0) → w.0 ≡ s
          same k (yes a) d = absurd (low w.0 k.0 a k.1)
          same k (no a) (yes b) = absurd (k.2 s h b r)
          same k (no a) (no b) = omega arith

  pub start-is-none : ((s : ℕ) → first ≤ s → Start t last size m s → ⊥) → lowest_start t first last size m ≡ none
  start-is-none f = go (option_cases (lowest_start t first last size m))
    where
      go : (lowest_start t first last size m ≡ none) ⊎ ((s : ℕ) × (lowest_start t first last size m ≡ some s)) → lowest_start t first last size m ≡ none
      go (inl e) = e
      go (inr w) = let k = start-some w.0 w.1 in absurd (f w.0 k.0 k.1)
