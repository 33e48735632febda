-- What is claimed of all GUIDs and all texts: the statements of the theorems (proofs/Claims, proofs/Stands).
use Rattle.std.specs.Prelude.{◌≡◌, ◌≢◌, ◌↔◌, Bool, true, List, map, ℕ, ◌≤◌, ltb, length, get_or}
use Rattle.std.proofs.Math.Option.{none, some}
use Prim.Native.Char.{code}
use Rattle.octets.specs.Ascii.{ascii}
use Rattle.octets.specs.Tests.{all}
use Rattle.guid.specs.Hex.{upper}
use Rattle.guid.specs.Calls.{read_of, read_type_of, write_of}
use Rattle.guid.specs.Stands.{StandsFor}

-- every number is a byte
abbrev pub are_bytes : List ℕ → Bool
are_bytes xs = all (λ b. ltb b 256) xs

-- reading what was written gives the bytes back, for every GUID and all buffers of the right lengths
abbrev pub WrittenReadsBack : Type 0
WrittenReadsBack =
    (guid text buffer : List ℕ) → are_bytes guid ≡ true → (write_of guid text).number ≡ none → length buffer ≡ 16
    → read_of (write_of guid text).buffer buffer ≡ record { number = none; buffer = guid }

-- writing what was read gives the text in upper case, for every text that is read
abbrev pub ReadWritesUpper : Type 0
ReadWritesUpper =
    (text guid buffer : List ℕ) → (read_of text guid).number ≡ none → length buffer ≡ 36
    → write_of (read_of text guid).buffer buffer ≡ record { number = none; buffer = map upper text }

-- R1: A refusal returns its number alone .. and changes no lent byte.
abbrev pub RefusedStays : Type 0
RefusedStays =
    (text guid : List ℕ) (k : ℕ)
    → ((read_of text guid).number ≡ some k → (read_of text guid).buffer ≡ guid) × ((write_of guid text).number ≡ some k → (write_of guid text).buffer ≡ text)

-- a text is read exactly where it stands for some bytes, into 16 bytes, and these are what it stands for
abbrev pub ReadsText : Type 0
ReadsText =
    (text guid : List ℕ)
    → (((read_of text guid).number ≡ none) ↔ ((length guid ≡ 16) × ((bytes : List ℕ) × StandsFor text bytes)))
    × ((read_of text guid).number ≡ none → StandsFor text (read_of text guid).buffer)

-- 16 bytes are written into 36, and what is written stands for them, in upper case
abbrev pub WritesText : Type 0
WritesText =
    (guid text : List ℕ)
    → (((write_of guid text).number ≡ none) ↔ ((length guid ≡ 16) × (length text ≡ 36)))
    × ((write_of guid text).number ≡ none → are_bytes guid ≡ true
    → let w = (write_of guid text).buffer in StandsFor w guid × ((i : ℕ) → ¬ ((code "a" ≤ get_or w i 0) × (get_or w i 0 ≤ code "z"))))

-- G1: a type may also be a short name. G3: Five short names stand for types, in lower case only
pub record ReadsTypes : Type 0 where
  pub system : (guid : List ℕ) → read_type_of (ascii "system") guid ≡ read_of (ascii "C12A7328-F81F-11D2-BA4B-00A0C93EC93B") guid
  pub msft : (guid : List ℕ) → read_type_of (ascii "msft") guid ≡ read_of (ascii "E3C9E316-0B5C-4DB8-817D-F92DF00215AE") guid
  pub basic : (guid : List ℕ) → read_type_of (ascii "data") guid ≡ read_of (ascii "EBD0A0A2-B9E5-4433-87C0-68B6B72699C7") guid
  pub linux : (guid : List ℕ) → read_type_of (ascii "linux") guid ≡ read_of (ascii "0FC63DAF-8483-4772-8E79-3D69D8477DE4") guid
  pub swap : (guid : List ℕ) → read_type_of (ascii "swap") guid ≡ read_of (ascii "0657FD6D-A4AB-43C4-84E5-0933C84B4F4F") guid
  -- all else is read as a GUID text
  pub other : (text guid : List ℕ) → text ≢ ascii "system" → text ≢ ascii "msft" → text ≢ ascii "data" → text ≢ ascii "linux" → text ≢ ascii "swap"
      → read_type_of text guid ≡ read_of text guid
