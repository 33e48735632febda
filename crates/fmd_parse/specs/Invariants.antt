-- Invariants of the code, for its proofs: no part of what is to be believed.
use Rattle.std.specs.Prelude.{List, [], ◌∷◌, ◌≡◌, ℕ, ◌+◌, ◌*◌, ◌-◌, ◌%◌, ◌≤◌, ◌<◌, length, get_or, Result, Ok, Err}
use Rattle.fmd_lex.specs.Invariants.{Within}
use Rattle.fmd_lex.specs.declared.Token.{Token}
use Rattle.fmd_table.specs.Table.{sections_in}
use Rattle.fmd_table.specs.Invariants.{IsParent, Linked}
use Rattle.fmd_table.specs.declared.Section.{Section}
use Rattle.fmd_table.specs.declared.SectionRow.{SectionRow}
use Rattle.fmd_head.specs.Refusals.{number_of}
use Rattle.fmd_head.specs.Heads.{ReadPart}
use Rattle.fmd_parse.specs.Layouts.{Parsed, fault, parsed, section_from, list_from}
use Rattle.fmd_parse.specs.Trees.{blank_section}
use Rattle.fmd_parse.specs.Rows.{section_name}
use Rattle.fmd_head.specs.declared.TextFault.{TextFault}
use Rattle.fmd_parse.specs.declared.TextLayout.{TextLayout}

-- ---- the two readers that call each other: the sections l before, the table rows after

-- what a step says
abbrev pub step_of : ReadPart ℕ → List SectionRow → Parsed
step_of (Ok r) rows = parsed (sections_in r.0 rows) r.1
step_of (Err f) rows = fault (number_of f.refusal) f.place

-- and the sections are linked; par is still a parent that a further one may have
abbrev pub StepIn : ℕ → ℕ → ℕ → List SectionRow → ReadPart ℕ → Type 0
StepIn n at par rows (Ok r) = Within n at r.1 × IsParent r.0 par × Linked r.0 rows
StepIn n at par rows (Err f) = Unit {0}

pub record SectionRead (s : List ℕ) (t : Token) (lv par : ℕ) (l : List Section) (rows : List SectionRow) (r : ReadPart ℕ) : Type 0 where
  pub within : StepIn (length s) (t.start + 1) par rows r
  pub same : (f : ℕ) → 2 * (length s - t.start) < f → step_of r rows ≡ section_from f s t lv par l

pub record ListRead (s : List ℕ) (t : Token) (lv par : ℕ) (l : List Section) (rows : List SectionRow) (r : ReadPart ℕ) : Type 0 where
  pub within : StepIn (length s) (t.start + 1) par rows r
  pub same : (f : ℕ) → 2 * (length s - t.start) + 1 < f → step_of r rows ≡ list_from f s t lv par l

-- ---- the whole text

-- the sections are linked
abbrev pub AnswerIn : List SectionRow → Result TextLayout TextFault → Type 0
AnswerIn rows (Ok t) = Linked t.count rows
AnswerIn rows (Err f) = Unit {0}

-- ---- the rows of the whole list: what the list is when they are judged, and the keys of names

-- every name lies in the text
abbrev pub Inside : List ℕ → List Section → Type 0
Inside s l = (k : ℕ) → k < length l → (get_or l k blank_section).place + (get_or l k blank_section).length ≤ length s

-- a number that names of the same bytes share
unfoldable pub key_from : ℕ → List ℕ → ℕ
key_from x [] = x
key_from x (b ∷ bs) = key_from ((33 * x + b) % 2048) bs

-- the key of section k's name
abbrev pub key_at : List ℕ → List Section → ℕ → ℕ
key_at s l k = key_from 0 (section_name s (get_or l k blank_section))

-- the keys of the sections below k are marked
pub record Seen (s : List ℕ) (l : List Section) (k : ℕ) (marks : List ℕ) : Type 0 where
  pub marked : (j : ℕ) → j < k → get_or marks (key_at s l j) 0 ≡ 1
