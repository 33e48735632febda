-- What a text and its stored bytes have to do with each other, character by character: no word of the code. Definitions only.
use Rattle.std.specs.Prelude.{◌≡◌, ◌⊎◌, List, [], ◌∷◌, ℕ, ◌+◌, ◌-◌, ◌*◌, ◌≤◌, ◌<◌, length, get_or}
use Prim.Native.Char.{code}

-- G1: hex of either case: the character c is the digit of value v
abbrev pub Digit : ℕ → ℕ → Type 0
Digit c v = ((v < 10) × (c ≡ code "0" + v)) ⊎ ((10 ≤ v) × (v < 16) × ((c ≡ code "A" + (v - 10)) ⊎ (c ≡ code "a" + (v - 10))))

-- the two characters from p on are the digits of the byte b, the higher first
abbrev pub Pair : List ℕ → ℕ → ℕ → Type 0
Pair text p b = (high : ℕ) × (low : ℕ) × Digit (get_or text p 0) high × Digit (get_or text (p + 1) 0) low × (b ≡ 16 * high + low)

-- where the sixteen pairs of digits stand in the text (G1: Groups 8-4-4-4-12), and which stored byte each is (G2: The first three groups are stored reversed)
abbrev pub in_text : List ℕ
in_text = 0 ∷ 2 ∷ 4 ∷ 6 ∷ 9 ∷ 11 ∷ 14 ∷ 16 ∷ 19 ∷ 21 ∷ 24 ∷ 26 ∷ 28 ∷ 30 ∷ 32 ∷ 34 ∷ []

abbrev pub in_bytes : List ℕ
in_bytes = 3 ∷ 2 ∷ 1 ∷ 0 ∷ 5 ∷ 4 ∷ 7 ∷ 6 ∷ 8 ∷ 9 ∷ 10 ∷ 11 ∷ 12 ∷ 13 ∷ 14 ∷ 15 ∷ []

-- the text stands for the bytes
pub record StandsFor (text bytes : List ℕ) : Type 0 where
  -- G1: exactly 36 bytes
  pub size : (length text ≡ 36) × (length bytes ≡ 16)
  pub dashes : (get_or text 8 0 ≡ code "-") × (get_or text 13 0 ≡ code "-") × (get_or text 18 0 ≡ code "-") × (get_or text 23 0 ≡ code "-")
  pub pairs : (k : ℕ) → k < 16 → Pair text (get_or in_text k 0) (get_or bytes (get_or in_bytes k 0) 0)
