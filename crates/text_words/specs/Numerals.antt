-- Numerals: the number that a word begins with, and the place after its last digit.
use Rattle.std.specs.Prelude.{cond, List, [], ◌∷◌, ℕ, suc, ◌+◌, ◌*◌, ltb, leb, eqb, Result, Ok, Err}
use Prim.Native.Char.{code}
use Rattle.text_words.specs.Classes.{digit_of}
use Rattle.text_words.specs.declared.digits.Numeral.{Numeral}
use Rattle.text_words.specs.declared.digits.NoNumeral.{NoNumeral}
use Rattle.text_words.specs.declared.digits.NoNumeral.TheVariants.{Over, Missing}

abbrev pub Begun : Type 0
Begun = Result Numeral NoNumeral

-- the number n up to the place e
abbrev pub numeral : ℕ → ℕ → Begun
numeral n e = Ok (record { value = n; end = e })

-- the number n up to the place e; at most `most`
unfoldable pub up_to : ℕ → ℕ → ℕ → Begun
up_to most n e = cond (leb n most) (numeral n e) (Err Over)

-- the digits before the place `at` make n: the digits that xs begins with come after them, and any number of digits is read
unfoldable pub digits_from : ℕ → ℕ → ℕ → List ℕ → ℕ → Begun
digits_from most base n [] at = up_to most n at
digits_from most base n (x ∷ xs) at =
    cond (ltb (digit_of x) base) (digits_from most base (n * base + digit_of x) xs (suc at)) (up_to most n at)

-- one digit at least
unfoldable pub some_digits : ℕ → ℕ → List ℕ → ℕ → Begun
some_digits most base [] at = Err Missing
some_digits most base (x ∷ xs) at = cond (ltb (digit_of x) base) (digits_from most base 0 (x ∷ xs) at) (Err Missing)

-- after a first 0: x and hex digits, else it is 0; so a further decimal digit is no part of it
unfoldable pub after_zero : ℕ → List ℕ → Begun
after_zero most [] = numeral 0 1
after_zero most (x ∷ xs) = cond (eqb x (code "x")) (some_digits most 16 xs 2) (numeral 0 1)

-- L8: Numbers: 0, or decimal without leading 0, or 0x and hex digits of either case, ..; at most ..
unfoldable pub numeral_of : ℕ → List ℕ → Begun
numeral_of most [] = Err Missing
numeral_of most (x ∷ xs) = cond (eqb x (code "0")) (after_zero most xs) (some_digits most 10 (x ∷ xs) 0)
