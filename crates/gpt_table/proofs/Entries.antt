-- Laws of the entries of a table.
use mathlib.Core.Path.{◌≡◌, refl, sym, ap, ap₂, ◌∙◌}
use mathlib.Core.Logic.{◌⊎◌, inl, inr}
use mathlib.Core.Bool.{Bool, true, false, not, cond, ◌&&◌, ◌||◌}
use mathlib.Core.List.{List, [], ◌∷◌}
use Prim.Native.Nat.{ℕ, zero, suc, ◌+◌, ◌/◌, ◌≤◌, ◌<◌}
use native.Mathlib.Nat.{le_refl, zero-lt-suc}
use native.Mathlib.Decide.{dec_lt, ℕ_discrete}
use native.Mathlib.Omega.{arith}
use lib.Dec.{ltb}
use lib.ListN.{length, get_or, set, take, drop, length-set}
use lib.Seq.{get_or-set_same, get_or-set_other}
use borrow.Author.Tests.{eq-eqb, ne_eqb, lt-ltb, le-ltb}
use Rattle.std.specs.Prelude.{Option, Some, None, IsSome, is_some, unwrap_or, position, nat_eq}
use Rattle.std.specs.Simd.{first_chunks}
use Rattle.std.specs.Option.{option_eq}
use Rattle.std.specs.List.{position_or_len, list_any, enumerate_from}
use Rattle.octets.specs.Tests.{◌and◌, ◌or◌, any, find_ix}
use Rattle.octets.specs.Bytes.{chunks}
use Rattle.octets.proofs.Bools.{bool_cases, clash, and-false-l}
use Rattle.octets.proofs.Chains.{place_list, place_or}
use Rattle.octets.proofs.Chunks.{length-chunks}
use Rattle.gpt_model.specs.Table.{unused, entries}
use Rattle.gpt_model.proofs.Entries.{unused-nil}
use Rattle.gpt_table.specs.Invariants.{without, wanted}

-- ---- the table that bytes are

chunks_are : (w k : ℕ) (xs : List ℕ) → first_chunks w k xs ≡ chunks w k xs
unfolding chunks
chunks_are w zero xs = refl
chunks_are w (suc k) xs = ap (λ (es : List (List ℕ)). take w xs ∷ es) (chunks_are w k (drop w xs))

pub entries_are : (t : List ℕ) → length t ≡ 16384 → first_chunks 128 (length t / 128) t ≡ entries t
entries_are t e = rw e (chunks_are 128 128 t)

pub length-entries : (t : List ℕ) → length (entries t) ≡ 128
length-entries t = length-chunks 128 128 t

-- ---- the lowest unused entry

ltb-suc : (a b : ℕ) → ltb (suc a) (suc b) ≡ ltb a b
ltb-suc a b = go (dec_lt a b)
  where
    go : Dec (a < b) → ltb (suc a) (suc b) ≡ ltb a b
    go (yes h) = lt-ltb (suc a) (suc b) (omega arith) ∙ sym (lt-ltb a b h)
    go (no h) = le-ltb (suc a) (suc b) (omega arith) ∙ sym (le-ltb a b (omega arith))

some-found : {A : Type 0} (p : A → Bool) (xs : List A) → any p xs ≡ ltb (find_ix p xs) (length xs)
unfolding ◌or◌
some-found p [] = refl
some-found p (x ∷ xs) = go (bool_cases (p x)) (some-found p xs)
  where
    go : (p x ≡ true) ⊎ (p x ≡ false) → any p xs ≡ ltb (find_ix p xs) (length xs) → (p x or any p xs) ≡ ltb (find_ix p (x ∷ xs)) (suc (length xs))
    go (inl q) ih = rw (q, find_ix) (sym (lt-ltb 0 (suc (length xs)) (zero-lt-suc _)))
    go (inr q) ih = rw (q, find_ix) (ih ∙ sym (ltb-suc (find_ix p xs) (length xs)))

module _ {A : Type 0} (p : A → Bool) (xs : List A) where
  pub place-found : (i : ℕ) → position p xs ≡ Some i → i ≡ find_ix p xs
  place-found i e = ap (λ (o : Option ℕ). unwrap_or o (length xs)) (sym e) ∙ place_or p xs

  pub some-place : is_some (position p xs) ≡ any p xs
  some-place = go (ltb (position_or_len p xs) (length xs)) ∙ ap (λ (k : ℕ). ltb k (length xs)) (place_list p xs) ∙ sym (some-found p xs)
    where
      go : (b : Bool) → is_some (cond b (Some (position_or_len p xs)) None) ≡ b
      go true = refl
      go false = refl

pub some-lower : (t : List ℕ) → find_ix unused (entries t) < 128 → any unused (entries t) ≡ true
some-lower t h = some-found unused (entries t) ∙ lt-ltb _ _ (omega (arith, length-entries t))

-- over a table's bytes es, whose entries are t
module _ (es : List ℕ) {t : List (List ℕ)} {o : Option ℕ} (e : t ≡ entries es) (q : o ≡ position unused t) where
  pub lowest_is : {i : ℕ} → o ≡ Some i → i ≡ find_ix unused (entries es)
  lowest_is {i} r = place-found unused (entries es) i (sym (ap (position unused) e) ∙ sym q ∙ r)

  pub lowest-some : any unused (entries es) ≡ true → IsSome o
  lowest-some r = ap is_some (q ∙ ap (position unused) e) ∙ some-place unused (entries es) ∙ r

-- ---- one entry left out

unused_set : (es : List (List ℕ)) (k i : ℕ) → i < length es → k ≡ i → unused (get_or (set es k []) i []) ≡ true
unused_set es k i h q = ap unused (ap (λ (m : ℕ). get_or (set es m []) i []) q ∙ get_or-set_same es i [] [] h) ∙ unused-nil

module _ (but : Option ℕ) (i : ℕ) (e : List ℕ) where
  pub wanted-here : not (option_eq nat_eq but (Some i)) ≡ true → wanted but i e ≡ not (unused e)
  unfolding ◌and◌
  wanted-here q = rw q

  pub wanted-left : not (option_eq nat_eq but (Some i)) ≡ false → wanted but i e ≡ false
  unfolding ◌and◌
  wanted-left q = rw q

module _ (es : List (List ℕ)) (i : ℕ) (h : i < length es) where
  pub wanted_is : (but : Option ℕ) → wanted but i (get_or es i []) ≡ not (unused (get_or (without but es) i []))
  unfolding ◌and◌
  wanted_is None = refl
  wanted_is (Some k) = go (ℕ_discrete k i)
    where
      go : Dec (k ≡ i) → wanted (Some k) i (get_or es i []) ≡ not (unused (get_or (set es k []) i []))
      go (yes q) = rw (eq-eqb k i q, unused_set es k i h q)
      go (no q) = rw (ne_eqb k i q, get_or-set_other es k i [] [] (λ e. q (sym e)))

  pub used-in : (but : Option ℕ) → unused (get_or (without but es) i []) ≡ false → get_or (without but es) i [] ≡ get_or es i []
  used-in None u = refl
  used-in (Some k) u = go (ℕ_discrete k i)
    where
      go : Dec (k ≡ i) → get_or (set es k []) i [] ≡ get_or es i []
      go (yes q) = absurd (clash (unused_set es k i h q) u)
      go (no q) = get_or-set_other es k i [] [] (λ e. q (sym e))

pub length-without : (but : Option ℕ) (es : List (List ℕ)) → length (without but es) ≡ length es
length-without None es = refl
length-without (Some k) es = length-set es k []

-- ---- whether one that is wanted passes a test s

module _ (s : List ℕ → Bool) where
  abbrev tried : Option ℕ → ℕ × List ℕ → Bool
  tried but p = wanted but p.0 p.1 && s p.1

  abbrev passes : List ℕ → Bool
  passes e = not (unused e) and s e

  passes-nil : passes [] ≡ false
  passes-nil = and-false-l _ _ (ap not unused-nil)

  joined : (a b : Bool) → ((true and a) && b) ≡ (a and b)
  unfolding ◌and◌
  joined true b = refl
  joined false b = refl

  or_is : (a b : Bool) → (a || b) ≡ (a or b)
  unfolding ◌or◌
  or_is true b = refl
  or_is false b = refl

  kept-here : (but : Option ℕ) (n : ℕ) (e : List ℕ) → option_eq nat_eq but (Some n) ≡ false → tried but (n, e) ≡ passes e
  kept-here but n e q = ap (λ (b : Bool). (not b and not (unused e)) && s e) q ∙ joined (not (unused e)) (s e)

  left-here : (but : Option ℕ) (n : ℕ) (e : List ℕ) → option_eq nat_eq but (Some n) ≡ true → tried but (n, e) ≡ passes []
  unfolding ◌and◌
  left-here but n e q = ap (λ (b : Bool). (not b and not (unused e)) && s e) q ∙ sym passes-nil

  step : (but : Option ℕ) (n : ℕ) (e d : List ℕ) (es ds : List (List ℕ)) → tried but (n, e) ≡ passes d
      → list_any (tried but) (enumerate_from (n + 1) es) ≡ any passes ds → list_any (tried but) (enumerate_from n (e ∷ es)) ≡ any passes (d ∷ ds)
  step but n e d es ds p q = ap₂ (λ (a b : Bool). a || b) p q ∙ or_is (passes d) (any passes ds)

  some-of : (but : Option ℕ) (n : ℕ) (es : List (List ℕ)) → ((k : ℕ) → n ≤ k → option_eq nat_eq but (Some k) ≡ false)
      → list_any (tried but) (enumerate_from n es) ≡ any passes es
  some-of but n [] f = refl
  some-of but n (e ∷ es) f = step but n e e es es (kept-here but n e (f n (le_refl n))) (some-of but (n + 1) es (λ k h. f k (omega arith)))

  some-at : (k n : ℕ) (es : List (List ℕ)) (j : ℕ) → n + j ≡ k → list_any (tried (Some k)) (enumerate_from n es) ≡ any passes (set es j [])
  some-at k n [] zero q = refl
  some-at k n [] (suc j) q = refl
  some-at k n (e ∷ es) zero q =
      step (Some k) n e [] es es (left-here (Some k) n e (eq-eqb k n (omega arith)))
      (some-of (Some k) (n + 1) es (λ m h. ne_eqb k m (λ r. omega arith)))
  some-at k n (e ∷ es) (suc j) q =
      step (Some k) n e e es (set es j []) (kept-here (Some k) n e (ne_eqb k n (λ r. omega arith))) (some-at k (n + 1) es j (omega arith))

  pub some-passes : (but : Option ℕ) (es : List (List ℕ)) → list_any (tried but) (enumerate_from 0 es) ≡ any passes (without but es)
  some-passes None es = some-of None 0 es (λ k h. refl)
  some-passes (Some k) es = some-at k 0 es k (omega arith)

-- ---- what the trace names

-- a table has an unused entry exactly where the lowest one stands below 128
pub some-unused : (t : List ℕ) → any unused (entries t) ≡ ltb (find_ix unused (entries t)) 128
some-unused t = some-found unused (entries t) ∙ ap (ltb (find_ix unused (entries t))) (length-entries t)
