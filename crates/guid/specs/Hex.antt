-- Hex digits. Definitions only.
use Rattle.std.specs.Prelude.{Bool, cond, List, [], ◌∷◌, ℕ, ◌+◌, ◌-◌, ◌*◌, ◌/◌, ◌%◌, leb, ltb}
use Prim.Native.Char.{Char, code}
use Rattle.octets.specs.Tests.{◌and◌}

-- the byte is one of the characters from lo to hi
abbrev pub within : Char → Char → ℕ → Bool
within lo hi b = leb (code lo) b and leb b (code hi)

-- ---- G1: hex of either case read

-- the value of a digit; 16 for a byte that is none
unfoldable pub hex_value : ℕ → ℕ
hex_value b =
    cond (within "0" "9" b) (b - code "0")
    (cond (within "A" "F" b) (b - code "A" + 10)
    (cond (within "a" "f" b) (b - code "a" + 10)
    16))

abbrev pub is_hex_digit : ℕ → Bool
is_hex_digit b = ltb (hex_value b) 16

-- the bytes that digits stand for, two digits a byte, the higher first
unfoldable pub bytes_of : List ℕ → List ℕ
bytes_of [] = []
bytes_of (h ∷ []) = []
bytes_of (h ∷ l ∷ ds) = (16 * hex_value h + hex_value l) ∷ bytes_of ds

-- ---- G1: upper case written

-- the digit with the value n, below 16
unfoldable pub hex_digit_of : ℕ → ℕ
hex_digit_of n = cond (ltb n 10) (code "0" + n) (code "A" + (n - 10))

-- the digits of bytes
unfoldable pub digits_of : List ℕ → List ℕ
digits_of [] = []
digits_of (b ∷ bs) = hex_digit_of (b / 16) ∷ hex_digit_of (b % 16) ∷ digits_of bs

-- a byte in upper case
unfoldable pub upper : ℕ → ℕ
upper b = cond (within "a" "z" b) (b - code "a" + code "A") b
