-- The text of a GUID and its 16 stored bytes. Definitions only.
use Rattle.std.specs.Prelude.{Bool, List, [], ◌∷◌, ◌++◌, reverse, ℕ, eqb, length, get_or}
use Rattle.octets.specs.Ascii.{ascii}
use Rattle.octets.specs.Bytes.{part, rest, same}
use Rattle.octets.specs.Tests.{◌and◌, all}
use Rattle.guid.specs.Hex.{is_hex_digit, bytes_of, digits_of}

-- ---- G1: Groups 8-4-4-4-12, exactly 36 bytes

-- the digits of the five groups of a text
unfoldable pub digits_in : List ℕ → List ℕ
digits_in t = part 0 8 t ++ part 9 4 t ++ part 14 4 t ++ part 19 4 t ++ part 24 12 t

-- the bytes between its groups
unfoldable pub dashes_in : List ℕ → List ℕ
dashes_in t = get_or t 8 0 ∷ get_or t 13 0 ∷ get_or t 18 0 ∷ get_or t 23 0 ∷ []

unfoldable pub is_guid_text : List ℕ → Bool
is_guid_text t = eqb (length t) 36 and (same (dashes_in t) (ascii "----") and all is_hex_digit (digits_in t))

-- 32 digits as a text: five groups with dashes between them
unfoldable pub grouped : List ℕ → List ℕ
grouped ds =
    part 0 8 ds ++ ascii "-" ++ part 8 4 ds ++ ascii "-" ++ part 12 4 ds ++ ascii "-" ++ part 16 4 ds ++ ascii "-" ++ part 20 12 ds

-- ---- G2: The first three groups are stored reversed.

-- bytes in the text's order as they are stored, and stored bytes in the text's order: it is its own inverse
unfoldable pub reordered : List ℕ → List ℕ
reordered bs = reverse (part 0 4 bs) ++ reverse (part 4 2 bs) ++ reverse (part 6 2 bs) ++ rest 8 bs

-- the stored bytes of a GUID text
unfoldable pub stored_of : List ℕ → List ℕ
stored_of t = reordered (bytes_of (digits_in t))

-- the text of 16 stored bytes
unfoldable pub text_of : List ℕ → List ℕ
text_of g = grouped (digits_of (reordered g))
