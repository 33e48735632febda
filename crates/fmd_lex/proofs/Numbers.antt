-- Laws of numbers.
use Rattle.std.specs.Prelude.{Option, Some, None, option_and_then, Ok, Err}
use Prim.Native.Nat.{ℕ, ◌*◌, ◌≤◌}
use mathlib.Core.List.{List, [], ◌∷◌}
use lib.ListN.{drop}
use lib.Dec.{leb}
use borrow.Author.Tests.{leb-true}
use Rattle.octets.proofs.Bools.{choice}
use Rattle.text_words.specs.Numerals.{Begun, numeral_of}
use Rattle.fmd_lex.specs.Numbers.{unit_of, capped, scaled, scaled_after, number_in}

-- ---- every number is at most 4,294,967,295

abbrev pub NumberFits : Option ℕ → Type 0
NumberFits (Some n) = n ≤ 4294967295
NumberFits None = Unit {0}

capped_fits : (n : ℕ) → NumberFits (capped n)
unfolding capped
capped_fits n = choice NumberFits (leb n 4294967295) (Some n) None (λ e. leb-true n 4294967295 e) (λ e. tt)

scaled_fits : (n : ℕ) (xs : List ℕ) → NumberFits (scaled n xs)
unfolding scaled
scaled_fits n [] = capped_fits n
scaled_fits n (x ∷ []) = by_unit (unit_of x)
  where
    by_unit : (u : Option ℕ) → NumberFits (option_and_then (λ (m : ℕ). capped (n * m)) u)
    by_unit (Some m) = capped_fits (n * m)
    by_unit None = tt
scaled_fits n (x ∷ y ∷ ys) = tt

after-fits : (w : List ℕ) (v : Begun) → NumberFits (scaled_after w v)
after-fits w (Ok v) = scaled_fits v.value (drop v.end w)
after-fits w (Err e) = tt

pub number_fits : (w : List ℕ) → NumberFits (number_in w)
unfolding number_in
number_fits w = after-fits w (numeral_of 4294967295 w)
