-- The lowest number that passes a test. Definitions only.
use Rattle.std.specs.Prelude.{Bool, cond, ℕ, zero, suc, ltb}

-- of the k numbers from i on; i + k where none passes
unfoldable pub first_from : ℕ → ℕ → (ℕ → Bool) → ℕ
first_from zero i p = i
first_from (suc k) i p = cond (p i) i (first_from k (suc i) p)

-- of the numbers below k; k where none passes
unfoldable pub lowest : ℕ → (ℕ → Bool) → ℕ
lowest k p = first_from k 0 p

-- some number below k passes
abbrev pub some_below : ℕ → (ℕ → Bool) → Bool
some_below k p = ltb (lowest k p) k
