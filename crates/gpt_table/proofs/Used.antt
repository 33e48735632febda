-- Laws of used entries decoded into numbers.
use mathlib.Core.Path.{◌≡◌, refl, sym, ap, ap₂, subst, ◌∙◌}
use mathlib.Core.Logic.{◌⊎◌, inl, inr}
use mathlib.Core.Bool.{Bool, true, false}
use mathlib.Core.List.{List, [], ◌∷◌, ◌++◌, map, append-nil}
use Prim.Native.Nat.{ℕ, zero, suc, ◌+◌, ◌≤◌, ◌<◌, suc-le-suc}
use native.Mathlib.Nat.{not-suc-le-zero, le_of_suc-le-suc}
use native.Mathlib.Numerals.{add-one}
use native.Mathlib.Omega.{arith}
use lib.ListN.{length, get_or, set, take, length-set}
use lib.Seq.{take-suc, take-suc-set, take_all}
use Rattle.octets.specs.Tests.{◌or◌}
use Rattle.octets.proofs.Bools.{bool_cases}
use Rattle.gpt_model.specs.Ranges.{block_in, in_some}
use Rattle.gpt_model.specs.Table.{no_blocks, unused, range_of}
use Rattle.gpt_model.proofs.Entries.{range-unused, range-nil}
use Rattle.gpt_table.specs.Invariants.{Whole, used, Decoded}

-- ---- the used ones of a list

pub used-yes : (e : List ℕ) (es : List (List ℕ)) → unused e ≡ false → used (e ∷ es) ≡ e ∷ used es
used-yes e es q = rw (q, used)

pub used-no : (e : List ℕ) (es : List (List ℕ)) → unused e ≡ true → used (e ∷ es) ≡ used es
used-no e es q = rw (q, used)

used-append : (xs ys : List (List ℕ)) → used (xs ++ ys) ≡ used xs ++ used ys
used-append [] ys = refl
used-append (e ∷ xs) ys = go (bool_cases (unused e)) (used-append xs ys)
  where
    go : (unused e ≡ true) ⊎ (unused e ≡ false) → used (xs ++ ys) ≡ used xs ++ used ys → used (e ∷ (xs ++ ys)) ≡ used (e ∷ xs) ++ used ys
    go (inl q) ih = used-no e (xs ++ ys) q ∙ ih ∙ ap (λ (l : List (List ℕ)). l ++ used ys) (sym (used-no e xs q))
    go (inr q) ih =
        used-yes e (xs ++ ys) q ∙ ap (λ (l : List (List ℕ)). e ∷ l) ih ∙ ap (λ (l : List (List ℕ)). l ++ used ys) (sym (used-yes e xs q))

-- what holds of each holds of each used one, which is not unused
pub used-each : (P : List ℕ → Type 0) (es : List (List ℕ)) → ((i : ℕ) → i < length es → P (get_or es i []))
    → (i : ℕ) → i < length (used es) → (unused (get_or (used es) i []) ≡ false) × P (get_or (used es) i [])
used-each P [] f i h = absurd (not-suc-le-zero h)
used-each P (e ∷ es) f i h = go (bool_cases (unused e)) (used-each P es (λ j k. f (suc j) (suc-le-suc k)))
  where
    Q : List (List ℕ) → ℕ → Type 0
    Q l j = j < length l → (unused (get_or l j []) ≡ false) × P (get_or l j [])

    more : unused e ≡ false → ((j : ℕ) → Q (used es) j) → (j : ℕ) → Q (e ∷ used es) j
    more q ih zero k = (q, f zero (suc-le-suc (omega arith)))
    more q ih (suc j) k = ih j (le_of_suc-le-suc k)

    go : (unused e ≡ true) ⊎ (unused e ≡ false) → ((j : ℕ) → Q (used es) j) → (unused (get_or (used (e ∷ es)) i []) ≡ false) × P (get_or (used (e ∷ es)) i [])
    go (inl q) ih = subst (λ (l : List (List ℕ)). Q l i) (sym (used-no e es q)) (ih i) h
    go (inr q) ih = subst (λ (l : List (List ℕ)). Q l i) (sym (used-yes e es q)) (more q ih i) h

-- ---- decoded one entry a turn: the used ones of the first i entries

module _ (es : List (List ℕ)) (i : ℕ) (h : i < length es) where
  used-skip : unused (get_or es i []) ≡ true → used (take (i + 1) es) ≡ used (take i es)
  used-skip q =
      ap (λ (k : ℕ). used (take k es)) (add-one i) ∙ ap used (take-suc es i [] h) ∙ used-append (take i es) (get_or es i [] ∷ [])
      ∙ ap (λ (l : List (List ℕ)). used (take i es) ++ l) (used-no (get_or es i []) [] q) ∙ append-nil (used (take i es))

  used-more : unused (get_or es i []) ≡ false → used (take (i + 1) es) ≡ used (take i es) ++ (get_or es i [] ∷ [])
  used-more q =
      ap (λ (k : ℕ). used (take k es)) (add-one i) ∙ ap used (take-suc es i [] h) ∙ used-append (take i es) (get_or es i [] ∷ [])
      ∙ ap (λ (l : List (List ℕ)). used (take i es) ++ l) (used-yes (get_or es i []) [] q)

map_more : {X : Type 0} (f : List ℕ → X) (es : List (List ℕ)) (e : List ℕ) → map f (es ++ (e ∷ [])) ≡ map f es ++ (f e ∷ [])
map_more f [] e = refl
map_more f (d ∷ es) e = ap (λ l. f d ∷ l) (map_more f es e)

-- the first n of xs, of 128, are what f makes of the used ones of the first i of es
pub record Decoding {X : Type 0} (f : List ℕ → X) (es : List (List ℕ)) (xs : List X) (n i : ℕ) : Type 0 where
  pub turn : i ≤ 128
  pub fewer : n ≤ i
  pub long : length xs ≡ 128
  pub taken : take n xs ≡ map f (used (take i es))

pub decoding-start : {X : Type 0} (f : List ℕ → X) (es : List (List ℕ)) (xs : List X) → length xs ≡ 128 → Decoding f es xs 0 0
decoding-start f es xs l = record { turn = omega arith; fewer = omega arith; long = l; taken = refl }

module _ {X : Type 0} {f : List ℕ → X} {es : List (List ℕ)} {xs : List X} {n i : ℕ} (size : length es ≡ 128) (h : i < 128) (d : Decoding f es xs n i) where
  pub decoding-skip : unused (get_or es i []) ≡ true → Decoding f es xs n (i + 1)
  decoding-skip q =
      record { turn = omega arith; fewer = omega (arith, d.fewer); long = d.long; taken = d.taken ∙ ap (map f) (sym (used-skip es i (omega arith) q)) }

  pub decoding-more : {x : X} → unused (get_or es i []) ≡ false → x ≡ f (get_or es i []) → Decoding f es (set xs n x) (n + 1) (i + 1)
  decoding-more {x} q e =
      let fewer = d.fewer in
      let long = d.long in
      record {
        turn = omega arith;
        fewer = omega arith;
        long = length-set xs n x ∙ long;
        taken = ap (λ (k : ℕ). take k (set xs n x)) (add-one n) ∙ take-suc-set xs n x (omega arith) ∙ ap₂ (λ l w. l ++ (w ∷ [])) d.taken e
            ∙ sym (map_more f (used (take i es)) (get_or es i [])) ∙ ap (map f) (sym (used-more es i (omega arith) q));
      }

pub decoding-as : {X : Type 0} {f : List ℕ → X} {es : List (List ℕ)} {xs xs' : List X} {n n' i : ℕ} → xs' ≡ xs → n' ≡ n → Decoding f es xs n i
    → Decoding f es xs' n' i
decoding-as p q d = rw (p, q) d

-- the entries es are those of t but the one left out, each of t has 128 bytes
pub decoding-end : {X : Type 0} {f : List ℕ → X} {es : List (List ℕ)} {xs : List X} {n i : ℕ} → length es ≡ 128 → 128 ≤ i
    → ((k : ℕ) → k < length es → unused (get_or es k []) ≡ false → Whole (get_or es k [])) → Decoding f es xs n i → Decoded f (used es) xs n
decoding-end {f} {es} {n = n} {i = i} size h whole d =
    record {
      most = omega (arith, d.fewer, d.turn);
      taken = d.taken ∙ ap (λ (l : List (List ℕ)). map f (used l)) (take_all i es (omega arith));
      whole = λ k z. let w = used-each (λ e. unused e ≡ false → Whole e) es whole k z in w.1 w.0;
    }

-- ---- blocks

pub slot-nil : range_of [] ≡ no_blocks
slot-nil = range-nil

inside-none : (b : ℕ) → block_in b no_blocks ≡ false
unfolding block_in
inside-none b = refl

pub lies-used : (b : ℕ) (es : List (List ℕ)) → in_some (map range_of (used es)) b ≡ in_some (map range_of es) b
unfolding ◌or◌
lies-used b [] = refl
lies-used b (e ∷ es) = go (bool_cases (unused e)) (lies-used b es)
  where
    go : (unused e ≡ true) ⊎ (unused e ≡ false) → in_some (map range_of (used es)) b ≡ in_some (map range_of es) b
        → in_some (map range_of (used (e ∷ es))) b ≡ (block_in b (range_of e) or in_some (map range_of es) b)
    go (inl q) ih = ap (λ (l : List (List ℕ)). in_some (map range_of l) b) (used-no e es q) ∙ ih ∙ sym (rw (range-unused e q, inside-none b))
    go (inr q) ih = ap (λ (l : List (List ℕ)). in_some (map range_of l) b) (used-yes e es q) ∙ ap (λ (t : Bool). block_in b (range_of e) or t) ih
