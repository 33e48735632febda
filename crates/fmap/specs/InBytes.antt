-- What a good map and a carry are by the image's bytes alone, record by record: no word of the code. Definitions only.
use Rattle.std.specs.Prelude.{◌≡◌, ◌⊎◌, List, ◌++◌, ℕ, ◌+◌, ◌*◌, ◌/◌, ◌%◌, ◌≤◌, ◌<◌, length, get_or}
use Rattle.octets.specs.Ascii.{ascii}
use Rattle.octets.specs.Bytes.{part, field, zeros}

-- (M1), (M2) where record k of a map begins, 56 bytes behind the map's position and 42 a record
abbrev pub record_of : ℕ → ℕ → ℕ
record_of at k = at + (56 + 42 * k)

-- how many records a map has
abbrev pub count_in : List ℕ → ℕ → ℕ
count_in image at = field (at + 54) 2 image

-- offset, size and name of the record that begins at r
abbrev pub start_in : List ℕ → ℕ → ℕ
start_in image r = field r 4 image

abbrev pub size_in : List ℕ → ℕ → ℕ
size_in image r = field (r + 4) 4 image

abbrev pub name_in : List ℕ → ℕ → List ℕ
name_in image r = part (r + 8) 32 image

-- (M4) the 32 bytes from r on are 1 to 31 bytes of 21 to 7E hex, then zeros
pub record NameAt (image : List ℕ) (r : ℕ) : Type 0 where
  pub letters : ℕ
  pub some : 1 ≤ letters
  pub few : letters ≤ 31
  pub graphic : (i : ℕ) → i < letters → (33 ≤ get_or image (r + i) 0) × (get_or image (r + i) 0 ≤ 126)
  pub then_zeros : (i : ℕ) → letters ≤ i → i < 32 → get_or image (r + i) 0 ≡ 0

-- (M7) two records' areas are disjoint, or one lies in the other
abbrev pub end_in : List ℕ → ℕ → ℕ
end_in image r = start_in image r + size_in image r

abbrev pub Apart : List ℕ → ℕ → ℕ → Type 0
Apart image r s =
    ((end_in image r ≤ start_in image s) ⊎ (end_in image s ≤ start_in image r))
    ⊎ (((start_in image s ≤ start_in image r) × (end_in image r ≤ end_in image s)) ⊎ ((start_in image r ≤ start_in image s)
    × (end_in image s ≤ end_in image r)))

-- (M3), (M4), (M5), (M6), (M7), (M8) of the map at a position
pub record MapAt (image : List ℕ) (at : ℕ) : Type 0 where
  pub signature : part at 8 image ≡ ascii "__FMAP__"
  pub major : get_or image (at + 8) 0 ≡ 1
  pub minor : get_or image (at + 9) 0 ≤ 1
  pub size : field (at + 18) 4 image ≡ length image
  pub some : 1 ≤ count_in image at
  pub few : count_in image at ≤ 128
  pub ends : at + (56 + 42 * count_in image at) ≤ length image
  pub name : NameAt image (at + 22)
  pub areas_named : (k : ℕ) → k < count_in image at → NameAt image (record_of at k + 8)
  pub areas_some : (k : ℕ) → k < count_in image at → 1 ≤ size_in image (record_of at k)
  pub areas_end : (k : ℕ) → k < count_in image at → start_in image (record_of at k) + size_in image (record_of at k) ≤ length image
  pub names_differ : (i j : ℕ) → i < j → j < count_in image at → name_in image (record_of at i) ≡ name_in image (record_of at j) → ⊥
  pub apart : (i j : ℕ) → i < j → j < count_in image at → Apart image (record_of at i) (record_of at j)
  pub own_area : ℕ
  pub own_there : own_area < count_in image at
  pub own_name : name_in image (record_of at own_area) ≡ ascii "FMAP" ++ zeros 28
  pub own_start : start_in image (record_of at own_area) ≡ at
  pub own_size : 56 + 42 * count_in image at ≤ size_in image (record_of at own_area)

-- the record that begins at r has this name: its bytes, none of them zero, then a zero
pub record CalledAt (image : List ℕ) (r : ℕ) (name : List ℕ) : Type 0 where
  pub letters : part (r + 8) (length name) image ≡ name
  pub no_zero : (i : ℕ) → i < length name → get_or name i 0 ≡ 0 → ⊥
  pub then_zero : get_or image (r + 8 + length name) 0 ≡ 0

-- (M11) record i of the old map is marked PRESERVE, and record j of the new map has its name
pub record Goes (old : List ℕ) (at : ℕ) (new : List ℕ) (bt i j : ℕ) : Type 0 where
  pub old_record : i < count_in old at
  pub new_record : j < count_in new bt
  pub preserve : field (record_of at i + 40) 2 old / 8 % 2 ≡ 1
  pub same_name : name_in old (record_of at i) ≡ name_in new (record_of bt j)

-- no byte lies in the areas of both records
abbrev pub ShareNone : List ℕ → ℕ → ℕ → Type 0
ShareNone image r s =
    (x : ℕ) → (start_in image r ≤ x) × (x < end_in image r) → (start_in image s ≤ x) × (x < end_in image s) → ⊥

-- (Q4), (R15), (R16), R23, R24 what a carry by two positions asks of the images
pub record MayCarry (old : List ℕ) (at : ℕ) (new : List ℕ) (bt : ℕ) : Type 0 where
  pub old_length : (98 ≤ length old) × (length old ≤ 16777216)
  pub old_map : MapAt old at
  pub new_length : (98 ≤ length new) × (length new ≤ 16777216)
  pub new_map : MapAt new bt
  -- each preserved area is in the new map (else 60), with its size (else 61)
  pub none_missing : (i : ℕ) → i < count_in old at → field (record_of at i + 40) 2 old / 8 % 2 ≡ 1 → (j : ℕ) × Goes old at new bt i j
  pub same_size : (i j : ℕ) → Goes old at new bt i j → size_in old (record_of at i) ≡ size_in new (record_of bt j)
  -- no two share a byte in either map (else 62)
  pub old_apart : (i j k l : ℕ) → i < k → Goes old at new bt i j → Goes old at new bt k l → ShareNone old (record_of at i) (record_of at k)
  pub new_apart : (i j k l : ℕ) → i < k → Goes old at new bt i j → Goes old at new bt k l → ShareNone new (record_of bt j) (record_of bt l)
  -- in the new map none shares a byte with area FMAP (else 63)
  pub off_map : (i j f : ℕ) → Goes old at new bt i j → f < count_in new bt → name_in new (record_of bt f) ≡ ascii "FMAP" ++ zeros 28
      → ShareNone new (record_of bt j) (record_of bt f)

-- (M11), (M12) the bytes that record i says go where record j says, and every other byte stays
pub record CarriedBytes (old : List ℕ) (at : ℕ) (new : List ℕ) (bt : ℕ) (image : List ℕ) : Type 0 where
  pub same_length : length image ≡ length new
  pub none_lost : (i : ℕ) → i < count_in old at → field (record_of at i + 40) 2 old / 8 % 2 ≡ 1 → (j : ℕ) × Goes old at new bt i j
  pub arrive : (i j : ℕ) → Goes old at new bt i j → (k : ℕ) → k < size_in old (record_of at i)
      → get_or image (start_in new (record_of bt j) + k) 0 ≡ get_or old (start_in old (record_of at i) + k) 0
  pub stay : (x : ℕ)
      → ((i j : ℕ) → Goes old at new bt i j
      → (x < start_in new (record_of bt j)) ⊎ (start_in new (record_of bt j) + size_in new (record_of bt j) ≤ x))
      → get_or image x 0 ≡ get_or new x 0
