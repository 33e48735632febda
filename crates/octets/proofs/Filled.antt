-- Laws of lists of known length: element by element, and filled one element a turn.
use mathlib.Core.Path.{◌≡◌, sym, ap, ◌∙◌}
use mathlib.Core.List.{List, [], ◌∷◌}
use Prim.Native.Nat.{ℕ, zero, suc, ◌+◌, ◌≤◌, ◌<◌}
use native.Mathlib.Nat.{suc-add, add-suc}
use native.Mathlib.Numerals.{add-one}
use native.Mathlib.Omega.{arith}
use lib.ListN.{length, get_or, set, take, drop, length-set, drop_of_length-le}
use lib.Seq.{drop-cons, take-suc, take-suc-set, take_all}

-- k elements from i on; at a numeral k it computes to a list of k elements
abbrev pub each : ℕ → ℕ → List ℕ → List ℕ
each zero i xs = []
each (suc k) i xs = get_or xs i 0 ∷ each k (suc i) xs

each_from : (k i : ℕ) (xs : List ℕ) → length xs ≡ i + k → drop i xs ≡ each k i xs
each_from zero i xs l = drop_of_length-le xs {i = i} (omega arith)
each_from (suc k) i xs l =
    drop-cons xs i 0 (omega arith) ∙ ap (λ (r : List ℕ). get_or xs i 0 ∷ r) (each_from k (suc i) xs (l ∙ add-suc i k ∙ sym (suc-add i k)))

pub each-is : (k : ℕ) (xs : List ℕ) → length xs ≡ k → xs ≡ each k 0 xs
each-is k xs l = each_from k 0 xs (omega arith)

-- the first i of the m elements of a are those of xs
pub record Filled (m : ℕ) (xs a : List ℕ) (i : ℕ) : Type 0 where
  pub below : i ≤ m
  pub width : length a ≡ m
  pub same : take i a ≡ take i xs

pub filled_on : {m : ℕ} {xs a : List ℕ} {i : ℕ} (v : ℕ) → length xs ≡ m → i < m → get_or xs i 0 ≡ v
    → Filled m xs a i → Filled m xs (set a i v) (i + 1)
filled_on {m} {xs} {a} {i} v l h e p =
    let w = p.width in
    let hx : i < length xs = omega arith in
    let ha : i < length a = omega arith in
    record {
      below = omega arith;
      width = length-set a i v ∙ p.width;
      same = rw (add-one, take-suc-set a i v ha, take-suc xs i 0 hx, p.same, e);
    }

pub filled-all : {m : ℕ} {xs a : List ℕ} {i : ℕ} → length xs ≡ m → m ≤ i → Filled m xs a i → a ≡ xs
filled-all {m} {xs} {a} {i} l h p =
    let w = p.width in
    sym (take_all i a (omega arith)) ∙ (p.same ∙ take_all i xs (omega arith))
