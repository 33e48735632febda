-- Classes of bytes.
use Rattle.std.specs.Prelude.{Bool, cond, ℕ, ◌-◌, ltb, leb, eqb, Option}
use Rattle.std.specs.Bool.{then_some}
use Prim.Native.Char.{code}
use Rattle.octets.specs.Ascii.{ascii}
use Rattle.octets.specs.Tests.{◌and◌, any}

-- L4: Blanks are space, tab, CR, LF
unfoldable pub is_blank : ℕ → Bool
is_blank b = any (eqb b) (ascii " \t\r\n")

-- 21 to 7E hex
abbrev pub is_graphic : ℕ → Bool
is_graphic b = leb 0x21 b and leb b 0x7E

-- 0 to 9
unfoldable pub is_digit : ℕ → Bool
is_digit b = leb (code "0") b and leb b (code "9")

-- the value of a hex digit of either case, 99 for any other byte
unfoldable pub digit_of : ℕ → ℕ
digit_of b =
    cond (ltb b 48) 99
    (cond (ltb b 58) (b - 48)
    (cond (ltb b 65) 99
    (cond (ltb b 71) (b - 55)
    (cond (ltb b 97) 99
    (cond (ltb b 103) (b - 87) 99)))))

-- that value, of a digit of the base
unfoldable pub digit_in : ℕ → ℕ → Option ℕ
digit_in base b = then_some (ltb (digit_of b) base) (digit_of b)
