-- A walk over the blocks from partition to gap to partition: what a loop that places or counts cites.
use mathlib.Core.Path.{◌≡◌, refl, sym, ap, ◌∙◌}
use mathlib.Core.Bool.{true, false, not}
use mathlib.Core.List.{List, [], ◌∷◌, map}
use mathlib.Core.Option.{none, some}
use Prim.Native.Nat.{ℕ, zero, suc, ◌+◌, ◌-◌, ◌≤◌, ◌<◌, max}
use native.Mathlib.Nat.{not-suc-le-zero, le_of_suc-le-suc, le_refl}
use native.Mathlib.Decide.{dec_lt}
use native.Mathlib.Omega.{arith}
use lib.ListN.{length, get_or}
use Rattle.octets.proofs.Bools.{clash}
use Rattle.gpt_model.specs.Table.{BlockRange}
use Rattle.gpt_model.specs.Ranges.{in_some, in_none, lowest_start, count_from, free_count, longest, longest_free}
use Rattle.gpt_model.proofs.Multiples.{Up}
use Rattle.gpt_model.proofs.Room.{Start, start_is, start-is-none}
use Rattle.gpt_model.proofs.Counts.{count-false, count-true, count_add}
use Rattle.gpt_model.proofs.Longest.{longest-skip, longest-gap}

pub get_d_map : {A : Type 0} (f : A → ℕ) (xs : List A) (i y : ℕ) (d : A) → i < length xs → get_or (map f xs) i y ≡ f (get_or xs i d)
get_d_map f [] i y d h = absurd (not-suc-le-zero h)
get_d_map f (x ∷ xs) zero y d h = refl
get_d_map f (x ∷ xs) (suc i) y d h = get_d_map f xs i y d (le_of_suc-le-suc h)

-- ---- placing at a multiple of m
module _ (s : List BlockRange) (first last size m : ℕ) (pos : 0 < size) where
  -- no multiple of m below a has room
  abbrev pub Low : ℕ → Type 0
  Low a = (c : ℕ) → first ≤ c → c < a → Start s last size m c → ⊥

  pub low-start : Low first
  low-start c p q r = omega arith

  pub low-over : (a x : ℕ) → Low a → ((c : ℕ) → a ≤ c → c ≤ x → in_some s c ≡ true) → Low (x + 1)
  low-over a x low f c p q r = go (dec_lt c a)
    where
      go : Dec (c < a) → ⊥
      go (yes w) = low c p w r
      go (no w) = clash (f c (omega arith) (omega arith)) (r.1.1 c (le_refl c) (omega arith))

  -- a gap from a up to but without g, where u is the lowest multiple from a on: too short from u on, or long enough
  module _ (a g u : ℕ) (low : Low a) (up : Up m a u) where
    pub low-gap : g < u + size → (g ≤ last → in_some s g ≡ true) → Low g
    low-gap short stop c p q r = go (dec_lt c a)
      where
        go : Dec (c < a) → ⊥
        go (yes w) = low c p w r
        go (no w) =
            let k = r.1.0 in
            let v = up.least c (omega arith) r.0 in
            clash (stop (omega arith)) (r.1.1 g (omega arith) (omega arith))

    pub low-found : first ≤ a → u + size ≤ g → g ≤ last + 1 → ((c : ℕ) → a ≤ c → c < g → in_some s c ≡ false) → lowest_start s first last size m ≡ some u
    low-found fa fits end clear =
        let v = up.past in
        start_is s first last size m u pos (omega arith)
        (up.multiple, (omega arith, λ b p q. clear b (omega arith) (omega arith))) (λ b p q r. go b p q r (dec_lt b a))
      where
        go : (b : ℕ) → first ≤ b → b < u → Start s last size m b → Dec (b < a) → ⊥
        go b p q r (yes w) = low b p w r
        go b p q r (no w) = let v = up.least b (omega arith) r.0 in omega arith

  pub low-none : (a : ℕ) → Low a → last < a → lowest_start s first last size m ≡ none
  low-none a low out = start-is-none s first last size m (λ c h r. go c h r (dec_lt c a))
    where
      go : (c : ℕ) → first ≤ c → Start s last size m c → Dec (c < a) → ⊥
      go c h r (yes x) = low c h x r
      go c h r (no x) = let w = r.1.0 in omega arith

max_assoc : (x y z : ℕ) → max (max x y) z ≡ max x (max y z)
max_assoc x y z = omega arith

-- ---- counting: from a on, k blocks are left
module _ (s : List BlockRange) (first last : ℕ) where
  abbrev pub Counted : ℕ → ℕ → Type 0
  Counted n a = n + count_from (in_none s) a (suc last - a) ≡ free_count s first last

  abbrev pub Longest : ℕ → ℕ → Type 0
  Longest m a = max m (longest (in_none s) a (suc last - a)) ≡ longest_free s first last

  pub counted_start : Counted 0 first
  unfolding free_count
  counted_start = omega arith

  pub longest-start : Longest 0 first
  unfolding longest_free
  longest-start = omega arith

  pub counted-over : (n a x : ℕ) → x ≤ last → a ≤ x → Counted n a → ((c : ℕ) → a ≤ c → c ≤ x → in_some s c ≡ true) → Counted n (x + 1)
  counted-over n a x xl ax h f =
      let k : suc last - a ≡ (x + 1 - a) + (suc last - (x + 1)) = omega arith in
      let e : a + (x + 1 - a) ≡ x + 1 = omega arith in
      let p = ap (count_from (in_none s) a) k in
      let q = count_add (in_none s) a (x + 1 - a) (suc last - (x + 1)) in
      let z = count-false (in_none s) a (x + 1 - a) (λ b u v. ap not (f b u (omega arith))) in
      let w = ap (λ (y : ℕ). count_from (in_none s) y (suc last - (x + 1))) e in
      omega arith

  pub counted-gap : (n a g : ℕ) → a ≤ g → g ≤ last + 1 → Counted n a → ((c : ℕ) → a ≤ c → c < g → in_some s c ≡ false) → Counted (n + (g - a)) g
  counted-gap n a g ag gl h f =
      let k : suc last - a ≡ (g - a) + (suc last - g) = omega arith in
      let e : a + (g - a) ≡ g = omega arith in
      let p = ap (count_from (in_none s) a) k in
      let q = count_add (in_none s) a (g - a) (suc last - g) in
      let z = count-true (in_none s) a (g - a) (λ b u v. ap not (f b u (omega arith))) in
      let w = ap (λ (y : ℕ). count_from (in_none s) y (suc last - g)) e in
      omega arith

  pub longest-over : (m a x : ℕ) → x ≤ last → a ≤ x → Longest m a → ((c : ℕ) → a ≤ c → c ≤ x → in_some s c ≡ true) → Longest m (x + 1)
  longest-over m a x xl ax h f =
      let k : suc last - a ≡ (x + 1 - a) + (suc last - (x + 1)) = omega arith in
      let e : a + (x + 1 - a) ≡ x + 1 = omega arith in
      let p = ap (longest (in_none s) a) k in
      let q = longest-skip (in_none s) a (x + 1 - a) (suc last - (x + 1)) (λ b u v. ap not (f b u (omega arith))) in
      let w = ap (λ (y : ℕ). longest (in_none s) y (suc last - (x + 1))) e in
      ap (max m) (sym (p ∙ q ∙ w)) ∙ h

  pub longest-step : (m a g : ℕ) → a ≤ g → g ≤ last + 1 → Longest m a → ((c : ℕ) → a ≤ c → c < g → in_some s c ≡ false)
      → (g ≤ last → in_some s g ≡ true) → Longest (max m (g - a)) g
  longest-step m a g ag gl h f stop =
      let k : suc last - a ≡ (g - a) + (suc last - g) = omega arith in
      let e : a + (g - a) ≡ g = omega arith in
      let p = ap (longest (in_none s) a) k in
      let q = longest-gap (in_none s) a (g - a) (suc last - g) (λ b u v. ap not (f b u (omega arith))) (λ u. ap (in_none s) e ∙ ap not (stop (omega arith))) in
      let w = ap (λ (y : ℕ). max (g - a) (longest (in_none s) y (suc last - g))) e in
      max_assoc m (g - a) (longest (in_none s) g (suc last - g)) ∙ sym (ap (max m) (p ∙ q ∙ w)) ∙ h

  pub counted-end : (n a : ℕ) → last < a → Counted n a → n ≡ free_count s first last
  unfolding count_from
  counted-end n a h e = let k : suc last - a ≡ 0 = omega arith in omega (arith, e, ap (count_from (in_none s) a) k)

  pub longest-end : (m a : ℕ) → last < a → Longest m a → m ≡ longest_free s first last
  unfolding longest
  longest-end m a h e = let k : suc last - a ≡ 0 = omega arith in omega (arith, e, ap (longest (in_none s) a) k)
