-- Numbers of a layout text.
use Rattle.std.specs.Prelude.{cond, List, [], ◌∷◌, ℕ, ◌*◌, leb, eqb, drop, Option, Some, None, option_and_then, Ok, Err}
use Prim.Native.Char.{code}
use Rattle.text_words.specs.Numerals.{Begun, numeral_of}

-- L8: Numbers: 0, or decimal without leading 0, or 0x and hex digits of either case, then optional K, M or G (1,024 and its powers);
-- at most 4,294,967,295.

-- what K, M and G stand for
unfoldable pub unit_of : ℕ → Option ℕ
unit_of b = cond (eqb b (code "K")) (Some 1024) (cond (eqb b (code "M")) (Some 1048576) (cond (eqb b (code "G")) (Some 1073741824) None))

-- at most 4,294,967,295
unfoldable pub capped : ℕ → Option ℕ
capped n = cond (leb n 4294967295) (Some n) None

-- the number n, then nothing, or K, M or G as the word's last byte
unfoldable pub scaled : ℕ → List ℕ → Option ℕ
scaled n [] = capped n
scaled n (x ∷ []) = option_and_then (λ u. capped (n * u)) (unit_of x)
scaled n (x ∷ y ∷ ys) = None

-- the numeral that the word w begins with, then what `scaled` says; what is over the limit is so with K, M or G too
abbrev pub scaled_after : List ℕ → Begun → Option ℕ
scaled_after w (Ok v) = scaled v.value (drop v.end w)
scaled_after w (Err e) = None

-- the number that a word is
unfoldable pub number_in : List ℕ → Option ℕ
number_in w = scaled_after w (numeral_of 4294967295 w)
