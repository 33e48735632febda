-- What the lent tables hold: for each digit of a 64-bit word, what a number of bit steps makes of the digit where it stands. Definitions only.
use Rattle.std.specs.Prelude.{◌≡◌, List, ℕ, zero, suc, ◌+◌, ◌*◌, ◌/◌, ◌%◌, ◌^◌, ◌<◌, get_or}
use Rattle.std.specs.Int.Bits.{bit_xor}
use Rattle.crc_lanes.specs.Crc.{bit_steps}

-- r tables one after the other, each of 2 ^ b entries: table j has, for each digit k of b bits, what n + j * b bit steps make of k
unfoldable pub Digits : ℕ → ℕ → ℕ → List ℕ → Type 0
Digits b r n t = (j k : ℕ) → j < r → k < 2 ^ b → get_or t (j * 2 ^ b + k) 0 ≡ bit_steps (n + j * b) k

-- sixteen tables for digits of 4 bits: together they take a word 64 bit steps on, past its own eight bytes
abbrev pub Near : List ℕ → Type 0
Near t = Digits 4 16 4 t

-- eight tables for digits of 8 bits: together they take a word 256 bit steps on, past its own eight bytes and 24 more
abbrev pub Far : List ℕ → Type 0
Far t = Digits 8 8 200 t

-- the sum (xor) of the entries for the n low digits of x, each below w, the lowest digit in the last of n tables
unfoldable pub sum_of : ℕ → List ℕ → ℕ → ℕ → ℕ
sum_of w t zero x = 0
sum_of w t (suc n) x = bit_xor (get_or t (n * w + x % w) 0) (sum_of w t n (x / w))
