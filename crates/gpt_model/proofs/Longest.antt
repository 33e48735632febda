-- The longest run: along a walk from gap to gap, and against room.
use mathlib.Core.Path.{◌≡◌, refl, sym, ap, ap₂, ◌∙◌}
use mathlib.Core.Logic.{◌⊎◌, inl, inr}
use mathlib.Core.Bool.{Bool, true, false, not}
use mathlib.Core.List.{List}
use Prim.Native.Nat.{ℕ, zero, suc, ◌+◌, ◌-◌, ◌≤◌, ◌<◌, max}
use native.Mathlib.Nat.{le_refl, suc-add, zero-add, add-zero}
use native.Mathlib.Decide.{dec_le, ℕ_discrete}
use native.Mathlib.Omega.{arith}
use lib.Dec.{leb}
use borrow.Author.Tests.{le-leb, lt-leb}
use Rattle.octets.proofs.Bools.{bool_cases, not_t, clash}
use Rattle.gpt_model.specs.Table.{BlockRange}
use Rattle.gpt_model.specs.Ranges.{in_none, room_at, run_from, longest, longest_free}
use Rattle.gpt_model.proofs.Room.{Room, room-make, room-get}

-- ---- run_from

run-no : (p : ℕ → Bool) (lo k : ℕ) → p lo ≡ false → run_from p lo k ≡ 0
unfolding run_from
run-no p lo zero e = refl
run-no p lo (suc k) e = rw (e, run_from)

run-yes : (p : ℕ → Bool) (lo k : ℕ) → p lo ≡ true → run_from p lo (suc k) ≡ suc (run_from p (suc lo) k)
unfolding run_from
run-yes p lo k e = rw (e, run_from)

run_end : (p : ℕ → Bool) (lo : ℕ) → run_from p lo zero ≡ 0
unfolding run_from
run_end p lo = refl

-- a gap: p holds of a numbers, and fails at the next, if there is one
pub run-gap : (p : ℕ → Bool) (lo a b : ℕ) → ((c : ℕ) → lo ≤ c → c < lo + a → p c ≡ true) → (0 < b → p (lo + a) ≡ false) → run_from p lo (a + b) ≡ a
run-gap p lo zero zero f g = run_end p lo
run-gap p lo zero (suc b) f g = run-no p lo (0 + suc b) (ap p (sym (add-zero lo)) ∙ g (omega arith))
run-gap p lo (suc a) b f g =
    ap (run_from p lo) (suc-add a b) ∙ run-yes p lo (a + b) (f lo (omega arith) (omega arith))
    ∙ ap suc (run-gap p (suc lo) a b (λ c x y. f c (omega arith) (omega arith)) (λ x. ap p shift ∙ g x))
  where
    shift : suc lo + a ≡ lo + suc a
    shift = omega arith

longest-suc : (p : ℕ → Bool) (lo k : ℕ) → longest p lo (suc k) ≡ max (run_from p lo (suc k)) (longest p (suc lo) k)
unfolding longest
longest-suc p lo k = refl

-- ---- the walk's two steps: over a partition, and over a gap

pub longest-skip : (p : ℕ → Bool) (lo a b : ℕ) → ((c : ℕ) → lo ≤ c → c < lo + a → p c ≡ false) → longest p lo (a + b) ≡ longest p (lo + a) b
longest-skip p lo zero b f = ap₂ (longest p) (sym (add-zero lo)) (zero-add b)
longest-skip p lo (suc a) b f =
    ap (longest p lo) (suc-add a b) ∙ longest-suc p lo (a + b)
    ∙ ap₂ max (run-no p lo (suc (a + b)) (f lo (omega arith) (omega arith)))
    (longest-skip p (suc lo) a b (λ c x y. f c (omega arith) (omega arith)) ∙ ap (λ (x : ℕ). longest p x b) shift)
    ∙ omega arith
  where
    shift : suc lo + a ≡ lo + suc a
    shift = omega arith

pub longest-gap : (p : ℕ → Bool) (lo a b : ℕ) → ((c : ℕ) → lo ≤ c → c < lo + a → p c ≡ true) → (0 < b → p (lo + a) ≡ false)
    → longest p lo (a + b) ≡ max a (longest p (lo + a) b)
longest-gap p lo zero b f g = ap₂ (longest p) (sym (add-zero lo)) (zero-add b) ∙ omega arith
longest-gap p lo (suc a) b f g =
    ap (longest p lo) (suc-add a b) ∙ longest-suc p lo (a + b)
    ∙ ap₂ max (ap (run_from p lo) (sym (suc-add a b)) ∙ run-gap p lo (suc a) b f g)
    (longest-gap p (suc lo) a b (λ c x y. f c (omega arith) (omega arith)) (λ x. ap p shift ∙ g x) ∙ ap (λ (x : ℕ). max a (longest p x b)) shift)
    ∙ omega arith
  where
    shift : suc lo + a ≡ lo + suc a
    shift = omega arith

-- ---- the longest run against room

-- p holds of all the numbers that run_from counts
pub run_holds : (p : ℕ → Bool) (lo k b : ℕ) → lo ≤ b → b < lo + run_from p lo k → p b ≡ true
run_holds p lo zero b h g = let z = run_end p lo in absurd (omega arith)
run_holds p lo (suc k) b h g = go (bool_cases (p lo)) (ℕ_discrete b lo) (run_holds p (suc lo) k b)
  where
    go : (p lo ≡ true) ⊎ (p lo ≡ false) → Dec (b ≡ lo) → (suc lo ≤ b → b < suc lo + run_from p (suc lo) k → p b ≡ true) → p b ≡ true
    go (inr q) d ih = let z = run-no p lo (suc k) q in absurd (omega arith)
    go (inl q) (yes e) ih = ap p e ∙ q
    go (inl q) (no e) ih = let z = run-yes p lo k q in ih (omega arith) (omega arith)

pub run-bound : (p : ℕ → Bool) (lo k : ℕ) → run_from p lo k ≤ k
run-bound p lo zero = let z = run_end p lo in omega arith
run-bound p lo (suc k) = go (bool_cases (p lo)) (run-bound p (suc lo) k)
  where
    go : (p lo ≡ true) ⊎ (p lo ≡ false) → run_from p (suc lo) k ≤ k → run_from p lo (suc k) ≤ suc k
    go (inl q) ih = let z = run-yes p lo k q in omega arith
    go (inr q) ih = let z = run-no p lo (suc k) q in omega arith

-- and it fails at the next, if there is one
pub run-stops : (p : ℕ → Bool) (lo k : ℕ) → run_from p lo k < k → p (lo + run_from p lo k) ≡ false
run-stops p lo zero h = absurd (omega arith)
run-stops p lo (suc k) h = go (bool_cases (p lo)) (run-stops p (suc lo) k)
  where
    go : (p lo ≡ true) ⊎ (p lo ≡ false) → (run_from p (suc lo) k < k → p (suc lo + run_from p (suc lo) k) ≡ false) → p (lo + run_from p lo (suc k)) ≡ false
    go (inl q) ih = let z = run-yes p lo k q in ap p (omega arith) ∙ ih (omega arith)
    go (inr q) ih = let z = run-no p lo (suc k) q in ap p (omega arith) ∙ q

-- a run of m numbers is counted whole
pub run-least : (p : ℕ → Bool) (lo k m : ℕ) → m ≤ k → ((b : ℕ) → lo ≤ b → b < lo + m → p b ≡ true) → m ≤ run_from p lo k
run-least p lo k zero h f = omega arith
run-least p lo zero (suc m) h f = absurd (omega arith)
run-least p lo (suc k) (suc m) h f =
    let z = run-yes p lo k (f lo (omega arith) (omega arith)) in
    let w : m ≤ run_from p (suc lo) k = run-least p (suc lo) k m (omega arith) (λ b x y. f b (omega arith) (omega arith)) in
    omega arith

longest-zero : (p : ℕ → Bool) (lo : ℕ) → longest p lo zero ≡ 0
unfolding longest
longest-zero p lo = refl

-- a run of m numbers anywhere
longest-least : (p : ℕ → Bool) (lo k s m : ℕ) → lo ≤ s → s + m ≤ lo + k → ((b : ℕ) → s ≤ b → b < s + m → p b ≡ true) → m ≤ longest p lo k
longest-least p lo zero s m h g f = omega arith
longest-least p lo (suc k) s m h g f = go (ℕ_discrete s lo) (longest-least p (suc lo) k s m)
  where
    go : Dec (s ≡ lo) → (suc lo ≤ s → s + m ≤ suc lo + k → ((b : ℕ) → s ≤ b → b < s + m → p b ≡ true) → m ≤ longest p (suc lo) k) → m ≤ longest p lo (suc k)
    go (yes e) ih =
        let z = longest-suc p lo k in
        let w : m ≤ run_from p lo (suc k) = run-least p lo (suc k) m (omega arith) (λ b x y. f b (omega arith) (omega arith)) in
        omega arith
    go (no e) ih = let z = longest-suc p lo k in let w = ih (omega arith) (omega arith) f in omega arith

-- the longest run stands somewhere
longest-stands : (p : ℕ → Bool) (lo k m : ℕ) → 0 < m → m ≤ longest p lo k
    → (s : ℕ) × (lo ≤ s) × (s + m ≤ lo + k) × ((b : ℕ) → s ≤ b → b < s + m → p b ≡ true)
longest-stands p lo zero m pos h = let z = longest-zero p lo in absurd (omega arith)
longest-stands p lo (suc k) m pos h = go (dec_le m (run_from p lo (suc k))) (longest-stands p (suc lo) k m pos)
  where
    go : Dec (m ≤ run_from p lo (suc k))
        → (m ≤ longest p (suc lo) k → (s : ℕ) × (suc lo ≤ s) × (s + m ≤ suc lo + k) × ((b : ℕ) → s ≤ b → b < s + m → p b ≡ true))
        → (s : ℕ) × (lo ≤ s) × (s + m ≤ lo + suc k) × ((b : ℕ) → s ≤ b → b < s + m → p b ≡ true)
    go (yes e) ih = let z = run-bound p lo (suc k) in (lo, omega arith, omega arith, λ b x y. run_holds p lo (suc k) b x (omega arith))
    go (no e) ih =
        let z = longest-suc p lo k in
        let r = ih (omega arith) in
        let a = r.1 in
        let b = r.2 in
        (r.0, omega arith, omega arith, r.3)

-- there is room for size blocks exactly where the longest run has as many
pub room_fits : (t : List BlockRange) (first last size s : ℕ) → first ≤ s → Room t last size s → size ≤ longest_free t first last
unfolding longest_free
room_fits t first last size s h r = go (dec_le s last)
  where
    go : Dec (s ≤ last) → size ≤ longest (in_none t) first (suc last - first)
    go (yes e) = let a = r.0 in longest-least (in_none t) first (suc last - first) s size h (omega arith) (λ b x y. ap not (r.1 b x y))
    go (no e) = let a = r.0 in omega arith

pub fits-room : (t : List BlockRange) (first last size : ℕ) → 0 < size → size ≤ longest_free t first last → (s : ℕ) × (first ≤ s) × Room t last size s
unfolding longest_free
fits-room t first last size pos h =
    let r = longest-stands (in_none t) first (suc last - first) size pos h in
    let a = r.1 in
    let b = r.2 in
    (r.0, a, (omega arith, λ c x y. not_t _ (r.3 c x y)))

-- a run of that length stands somewhere
pub longest-room : (t : List BlockRange) (first last : ℕ) → first ≤ suc last → (s : ℕ) × (first ≤ s) × Room t last (longest_free t first last) s
longest-room t first last h = go (ℕ_discrete (longest_free t first last) 0)
  where
    go : Dec (longest_free t first last ≡ 0) → (s : ℕ) × (first ≤ s) × Room t last (longest_free t first last) s
    go (yes z) = (first, omega arith, (omega arith, λ b x y. absurd (omega arith)))
    go (no z) = fits-room t first last (longest_free t first last) (omega arith) (le_refl _)

-- room for some blocks is a run of as many
pub room-run : (t : List BlockRange) (last size s : ℕ) → 0 < size → leb size (run_from (in_none t) s (suc last - s)) ≡ room_at t last size s
room-run t last size s pos = go (bool_cases (room_at t last size s))
  where
    run : ℕ
    run = run_from (in_none t) s (suc last - s)

    go : (room_at t last size s ≡ true) ⊎ (room_at t last size s ≡ false) → leb size run ≡ room_at t last size s
    go (inl q) =
        let r = room-get t last size s q in
        let h = r.0 in
        le-leb _ _ (run-least (in_none t) s (suc last - s) size (omega arith) (λ c l m. ap not (r.1 c l m))) ∙ sym q
    go (inr q) = more (dec_le size run)
      where
        more : Dec (size ≤ run) → leb size run ≡ room_at t last size s
        more (no h) = lt-leb size run (omega arith) ∙ sym q
        more (yes h) =
            let b = run-bound (in_none t) s (suc last - s) in
            absurd (clash (room-make t last size s (omega arith, λ c l m. not_t _ (run_holds (in_none t) s (suc last - s) c l (omega arith)))) q)
