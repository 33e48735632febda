-- Numbers as text, and text put into a buffer. Definitions only.
use Rattle.std.specs.Prelude.{cond, List, ◌≡◌, ℕ, ◌+◌, ltb, length}
use Rattle.io.specs.Digits.{last_digits}
use Rattle.octets.specs.Bytes.{put}

-- the last digits of n, as many as asked, in lower-case hex
unfoldable pub hex_digits : ℕ → ℕ → List ℕ
hex_digits width n = last_digits 16 width n

-- the digits of a number below 1,000
unfoldable pub decimal_digits : ℕ → List ℕ
decimal_digits n = last_digits 10 (cond (ltb n 10) 1 (cond (ltb n 100) 2 3)) n

-- us stand from at on in what was xs, and end before r
abbrev pub Puts : ℕ → List ℕ → ℕ → List ℕ → List ℕ → Type 0
Puts at us r xs ys = (r ≡ at + length us) × (ys ≡ put at us xs)
