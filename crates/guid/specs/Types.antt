-- The short names of types. Definitions only.
use Rattle.std.specs.Prelude.{Bool, List, [], ◌∷◌, map, ℕ, get_or}
use Prim.Native.String.{String}
use Rattle.octets.specs.Ascii.{ascii}
use Rattle.octets.specs.Bytes.{same}
use Rattle.octets.specs.Tests.{find_ix}

-- a short name and the GUID text that it stands for
pub record ShortName : Type 0 where
  pub name : List ℕ
  pub text : List ℕ

abbrev pub short : String → String → ShortName
short n t = record { name = ascii n; text = ascii t }

-- ---- G3: Five short names stand for types, in lower case only.

-- the list of G4
abbrev pub short_names : List ShortName
short_names =
    short "system" "C12A7328-F81F-11D2-BA4B-00A0C93EC93B"
    ∷ short "msft" "E3C9E316-0B5C-4DB8-817D-F92DF00215AE"
    ∷ short "data" "EBD0A0A2-B9E5-4433-87C0-68B6B72699C7"
    ∷ short "linux" "0FC63DAF-8483-4772-8E79-3D69D8477DE4"
    ∷ short "swap" "0657FD6D-A4AB-43C4-84E5-0933C84B4F4F"
    ∷ []

abbrev pub is_named : List ℕ → ShortName → Bool
is_named t s = same t s.name

-- the place of a short name in the list; for any other text the list's length
unfoldable pub short_at : List ℕ → ℕ
short_at t = find_ix (is_named t) short_names

-- the text that a short name stands for; any other text stands for itself
unfoldable pub expand : List ℕ → List ℕ
expand t = get_or (map (λ s. s.text) short_names) (short_at t) t
