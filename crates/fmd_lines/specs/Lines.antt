-- The lines that the listing program prints (S12). Definitions only.
use Rattle.std.specs.Prelude.{List, [], ◌∷◌, ◌++◌, map, ℕ, take}
use Rattle.std.proofs.Math.Option.{Option, none, some}
use Rattle.octets.specs.Ascii.{ascii}
use Rattle.octets.specs.Bytes.{flat}
use Rattle.text_out.specs.Text.{hex_digits, decimal_digits}
use Rattle.fmap_rules.specs.Map.{name_length}
use Rattle.fmd.specs.Calls.{Said, list_record, layout_in}
use Rattle.fmd.specs.declared.Image.{Image}
use Rattle.fmd.specs.declared.SectionRecord.{SectionRecord}

-- a number in hex, and a space
unfoldable pub hex_field : ℕ → ℕ → List ℕ
hex_field width n = hex_digits width n ++ ascii " "

-- a name without the zeros after it
unfoldable pub name_text : List ℕ → List ℕ
name_text stored = take (name_length stored) stored

-- position, size and flags of a section, each with a space after it
unfoldable pub numbers_text : SectionRecord → List ℕ
numbers_text s = (hex_field 8 s.position.0 ++ hex_field 8 s.size) ++ hex_field 4 s.flags

unfoldable pub section_line : SectionRecord → List ℕ
section_line s = (numbers_text s ++ name_text s.name) ++ (10 ∷ [])

unfoldable pub image_line : Image → List ℕ
image_line i = (((name_text i.name ++ ascii " ") ++ hex_field 8 i.size) ++ hex_digits 16 i.address) ++ (10 ∷ [])

-- a word, a space and a number
unfoldable pub numbered_line : List ℕ → ℕ → List ℕ
numbered_line word n = ((word ++ ascii " ") ++ decimal_digits n) ++ (10 ∷ [])

-- S12: It prints name, size, address; then position, size, flags, name of each section .. after a refusal only "refused" and the number
abbrev pub lines_of : Said → Option ℕ → List ℕ
lines_of x none = image_line x.image ++ flat (map section_line (map list_record x.areas))
lines_of x (some n) = numbered_line (ascii "refused") n

unfoldable pub listing_of : List ℕ → List ℕ
listing_of s = lines_of (layout_in s) (layout_in s).answer
