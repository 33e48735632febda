-- What each call answers and leaves behind.
use Rattle.std.specs.Prelude.{cond, List, [], ◌++◌, map, ℕ, eqb, length, drop, Option as Optional, Some, None, Result, Ok, Err}
use Rattle.std.proofs.Math.Option.{Option, none, some}
use Rattle.octets.specs.Bytes.{zeros, put, flat}
use Rattle.fmap_rules.specs.Map.{position}
use Rattle.fmap_rules.specs.Written.{area_bytes, map_bytes}
use Rattle.fmap_rules.specs.declared.ImagePosition.{ImagePosition}
use Rattle.fmap_rules.specs.declared.Area.{Area}
use Rattle.fmd_head.specs.Refusals.{number_of as text_number}
use Rattle.fmd_head.specs.declared.TextImage.{TextImage}
use Rattle.fmd_check.specs.Check.{Checked, fault, good, check_text}
use Rattle.fmd_check.specs.Areas.{stored_name, area_at, layout_areas}
use Rattle.fmd.specs.declared.Refusal.{Refusal}
use Rattle.fmd.specs.declared.Refusal.TheVariants.{WrongLength, OfText}
use Rattle.fmd.specs.declared.Image.{Image}
use Rattle.fmd.specs.declared.SectionRecord.{SectionRecord}

-- (W15) the number of each refusal
abbrev pub refusal_number : Refusal → ℕ
refusal_number WrongLength = 1
refusal_number (OfText r) = text_number r

-- the number of what a call answers; none where the call is accepted
abbrev pub number_of : {A : Type 0} → Result A Refusal → Option ℕ
number_of (Ok a) = none
number_of (Err r) = some (refusal_number r)

-- ---- what a layout text says

-- no image, where a text is refused
abbrev pub blank_image : Image
blank_image = record { name = zeros 32; size = 0; address = 0; count = 0 }

-- a refusal's number or none; the image; its sections as areas of a map; the position of section FMAP
pub record Said : Type 0 where
  pub answer : Option ℕ
  pub image : Image
  pub areas : List Area
  pub at : ImagePosition

-- (R1) a refusal's number alone
abbrev pub refused_with : Option ℕ → Said
refused_with n = record { answer = n; image = blank_image; areas = []; at = position 0 }

-- L17: .. base the address or 0
abbrev pub address_of : Optional ℕ → ℕ
address_of (Some a) = a
address_of None = 0

-- (R3) name, size, address and section count
unfoldable pub image_of : List ℕ → TextImage → ℕ → Image
image_of s i count = record { name = stored_name s i.place i.length; size = i.size; address = address_of i.address; count = count }

abbrev pub said_by : List ℕ → Checked → Said
said_by s (fault n p) = refused_with (some n)
said_by s (good i l ps m) =
    record { answer = none; image = image_of s i (length l); areas = layout_areas s l ps; at = (area_at s l ps m).place.start }

unfoldable pub layout_in : List ℕ → Said
layout_in s = said_by s (check_text s)

-- ---- reading

pub record Read : Type 0 where
  pub answer : Option ℕ
  pub image : Image

unfoldable pub read_text : List ℕ → Read
read_text s = record { answer = (layout_in s).answer; image = (layout_in s).image }

-- ---- listing

pub record Listed : Type 0 where
  pub answer : Option ℕ
  pub image : Image
  pub sections : List SectionRecord

-- an area as a section of the list
abbrev pub list_record : Area → SectionRecord
list_record a = record { position = a.place.start; size = a.place.size; flags = a.flags; name = a.name }

-- L16: .. filled one record at a time (position, size, flags as in the map, name), children after parents; unused records stay.
abbrev pub filled : List SectionRecord → List SectionRecord → List SectionRecord
filled xs ys = xs ++ drop (length xs) ys

abbrev pub list_by : Said → List SectionRecord → Listed
list_by x ys = record { answer = x.answer; image = x.image; sections = filled (map list_record x.areas) ys }

-- R33: FMD: 1 (section list not 128 records)
unfoldable pub layout_for : List ℕ → ℕ → Said
layout_for s places = cond (eqb places 128) (layout_in s) (refused_with (some 1))

unfoldable pub list_text : List ℕ → List SectionRecord → Listed
list_text s ys = list_by (layout_for s (length ys)) ys

-- ---- listing as bytes

pub record Recorded : Type 0 where
  pub answer : Option ℕ
  pub image : Image
  pub records : List ℕ

-- (L16) the bytes of each section as an area of the map, from the first record on; unused records stay
abbrev pub record_by : Said → List ℕ → Recorded
record_by x bs = record { answer = x.answer; image = x.image; records = put 0 (flat (map area_bytes x.areas)) bs }

-- (R33) 128 records of 42 bytes
unfoldable pub record_text : List ℕ → List ℕ → Recorded
record_text s bs = cond (eqb (length bs) 5376) (record_by (layout_in s) bs) (record { answer = some 1; image = blank_image; records = bs })

-- ---- writing

-- a refusal's number or none, the position of the map that was written, and the image afterwards
pub record Written : Type 0 where
  pub answer : Option ℕ
  pub at : ImagePosition
  pub image : List ℕ

abbrev pub unwritten : ℕ → List ℕ → Written
unwritten n image = record { answer = some n; at = position 0; image = image }

-- L18: It is written at the start of section FMAP. L17: version 1.1, base the address or 0
abbrev pub with_map : Said → List ℕ → List ℕ
with_map x image = put x.at.0 (map_bytes (length image) x.image.name x.image.address 1 x.areas) image

-- R34: Writing a map into an image: FMD's refusals, then 1 where the image length is not the stated size.
abbrev pub write_by : Said → List ℕ → Option ℕ → Written
write_by x image (some n) = unwritten n image
write_by x image none =
    cond (eqb (length image) x.image.size) (record { answer = none; at = x.at; image = with_map x image }) (unwritten 1 image)

unfoldable pub write_text : List ℕ → List ℕ → Written
write_text s image = write_by (layout_in s) image (layout_in s).answer

-- ---- what the values of the code say

-- the image of an answer, blank after a refusal
abbrev pub image_in : Result Image Refusal → Image
image_in (Ok i) = i
image_in (Err r) = blank_image

-- the position of an answer, 0 after a refusal
abbrev pub written_at : Result ImagePosition Refusal → ImagePosition
written_at (Ok at) = at
written_at (Err r) = position 0

abbrev pub reading : Result Image Refusal → Read
reading r = record { answer = number_of r; image = image_in r }

abbrev pub list_of : Result Image Refusal → List SectionRecord → Listed
list_of r ys = record { answer = number_of r; image = image_in r; sections = ys }

abbrev pub recorded : Result Image Refusal → List ℕ → Recorded
recorded r bs = record { answer = number_of r; image = image_in r; records = bs }

abbrev pub written : Result ImagePosition Refusal → List ℕ → Written
written r image = record { answer = number_of r; at = written_at r; image = image }
