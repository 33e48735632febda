-- The records of a lent section list, and the lines that show them. Definitions only.
use Rattle.std.specs.Prelude.{List, [], ◌∷◌, ◌++◌, map, ℕ, replicate}
use Rattle.std.proofs.Math.Option.{Option, none, some}
use Rattle.octets.specs.Ascii.{ascii}
use Rattle.octets.specs.Bytes.{flat}
use Rattle.text_out.specs.Text.{hex_digits}
use Rattle.fmap_rules.specs.Map.{position}
use Rattle.fmd.specs.Calls.{Listed, list_text}
use Rattle.fmd.specs.declared.SectionRecord.{SectionRecord}
use Rattle.fmd_lines.specs.Lines.{numbers_text, numbered_line}

abbrev pub pattern : SectionRecord
pattern = record { position = position 2779096485; size = 1515870810; flags = 50115; name = replicate 32 126 }

unfoldable pub hex_bytes : List ℕ → List ℕ
hex_bytes xs = flat (map (hex_digits 2) xs)

unfoldable pub record_line : SectionRecord → List ℕ
record_line s = (numbers_text s ++ hex_bytes s.name) ++ (10 ∷ [])

abbrev pub answer_line : ℕ → Option ℕ → List ℕ
answer_line count none = numbered_line (ascii "accepted") count
answer_line count (some n) = numbered_line (ascii "refused") n

-- L16: .. unused records stay
abbrev pub record_lines : Listed → List ℕ
record_lines x = answer_line x.image.count x.answer ++ flat (map record_line x.sections)

unfoldable pub records_of : List ℕ → List ℕ
records_of s = record_lines (list_text s (replicate 128 pattern))
