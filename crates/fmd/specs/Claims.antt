-- What is claimed besides the equations of the calls: the statements of the theorems. Users rely on these.
use Rattle.std.specs.Prelude.{◌≡◌, List, [], ℕ, ◌≤◌, ◌<◌, length, get_or, Result}
use Rattle.std.proofs.Math.Option.{none, some}
use Rattle.octets.specs.Rows.{code_of}
use Rattle.fmap_rules.specs.Map.{position, blank_area}
use Rattle.fmap_rules.specs.Written.{Writable}
use Rattle.fmap_rules.specs.declared.Area.{Area}
use Rattle.fmap.specs.Written.{Holds}
use Rattle.fmd_table.specs.declared.Section.{Section}
use Rattle.fmd_table.specs.declared.Placed.{Placed}
use Rattle.fmd_head.specs.declared.TextImage.{TextImage}
use Rattle.fmd_check.specs.Fitted.{Fitted}
use Rattle.fmd_check.specs.Check.{good, check_text}
use Rattle.fmd_check.specs.Nested.{start_at, Nested, AreaStands}
use Rattle.fmd.specs.Calls.{number_of, layout_in, list_text, record_text, write_text}
use Rattle.fmd.specs.declared.Refusal.{Refusal}
use Rattle.fmd.specs.declared.SectionRecord.{SectionRecord as Listed}

-- no refusal's number is 0
abbrev pub ZeroIsAccepted : Type 1
ZeroIsAccepted = (A : Type 0) (a : Result A Refusal) → code_of (number_of a) ≡ 0 → number_of a ≡ none

-- (L14), (L15) sections lie in their parents and in the image, and any two, at any depth, are disjoint or one lies in the other
abbrev pub SectionsNested : Type 0
SectionsNested =
    (s : List ℕ) (i : TextImage) (l : List Section) (ps : List Placed) (m : ℕ) → check_text s ≡ good i l ps m
    → Nested (layout_in s).image.size l (layout_in s).areas

-- (L12), (L13), (L14) each section's offset and size: as given, or by its siblings and its parent
abbrev pub SectionsFitted : Type 0
SectionsFitted =
    (s : List ℕ) (i : TextImage) (l : List Section) (ps : List Placed) (m : ℕ) → check_text s ≡ good i l ps m → Fitted (layout_in s).image.size l ps

-- (L15), (L17), (M4) what is listed, and written, of section k of the text: position, size, flags and name; Nested has the count
abbrev pub SectionsInOrder : Type 0
SectionsInOrder =
    (s : List ℕ) (i : TextImage) (l : List Section) (ps : List Placed) (m : ℕ) → check_text s ≡ good i l ps m
    → (k : ℕ) → k < length l → AreaStands s l ps (layout_in s).areas k

-- what get_or answers past the end of a list
abbrev pub blank_listed : Listed
blank_listed = record { position = position 0; size = 0; flags = 0; name = [] }

-- (L16) record k is area k, and behind the last stands what stood there
pub record Fills (areas : List Area) (ys zs : List Listed) : Type 0 where
  pub same_length : length zs ≡ length ys
  pub positions : (k : ℕ) → k < length areas → (get_or zs k blank_listed).position ≡ (get_or areas k blank_area).place.start
  pub sizes : (k : ℕ) → k < length areas → (get_or zs k blank_listed).size ≡ (get_or areas k blank_area).place.size
  pub flags : (k : ℕ) → k < length areas → (get_or zs k blank_listed).flags ≡ (get_or areas k blank_area).flags
  pub names : (k : ℕ) → k < length areas → (get_or zs k blank_listed).name ≡ (get_or areas k blank_area).name
  pub unused : (k : ℕ) → length areas ≤ k → get_or zs k blank_listed ≡ get_or ys k blank_listed

abbrev pub ListedFills : Type 0
ListedFills = (s : List ℕ) (ys : List Listed) → (list_text s ys).answer ≡ none → Fills (layout_in s).areas ys (list_text s ys).sections

-- (R1) a refusal changes no record
abbrev pub RefusedListStays : Type 0
RefusedListStays = (s : List ℕ) (ys : List Listed) (n : ℕ) → (list_text s ys).answer ≡ some n → (list_text s ys).sections ≡ ys

abbrev pub RefusedRecordsStay : Type 0
RefusedRecordsStay = (s bs : List ℕ) (n : ℕ) → (record_text s bs).answer ≡ some n → (record_text s bs).records ≡ bs

-- what an accepted text says can be written as a good map
abbrev pub SaidIsWritable : Type 0
SaidIsWritable =
    (s : List ℕ) → (layout_in s).answer ≡ none
    → Writable (layout_in s).image.size (layout_in s).at.0 (layout_in s).image.name 1 (layout_in s).areas

-- (L17), (L18), L19, (R34) the image has the stated size and holds the map where the answer says
abbrev pub WrittenHolds : Type 0
WrittenHolds =
    (s image : List ℕ) → (write_text s image).answer ≡ none
    → (length image ≡ (layout_in s).image.size)
    × Holds (write_text s image).at.0 (layout_in s).image.name (layout_in s).image.address 1 (layout_in s).areas image (write_text s image).image

-- L18: It is written at the start of section FMAP. Section m is FMAP.
abbrev pub WrittenAtFmap : Type 0
WrittenAtFmap =
    (s image : List ℕ) (i : TextImage) (l : List Section) (ps : List Placed) (m : ℕ) → check_text s ≡ good i l ps m
    → (write_text s image).answer ≡ none → (write_text s image).at.0 ≡ start_at (layout_in s).areas m

-- (R1) a refusal changes no lent byte
abbrev pub RefusedStays : Type 0
RefusedStays = (s image : List ℕ) (n : ℕ) → (write_text s image).answer ≡ some n → (write_text s image).image ≡ image
