-- Sections in braces, and a whole layout text, read token by token: means of proof, which the contracts cite.
-- What is to be believed is the grammar: the theorem Exact of fmd_grammar says that `layout_of` accepts what derives, and nothing else.
use Rattle.std.specs.Prelude.{cond, List, [], ◌∷◌, ◌++◌, ℕ, zero, suc, ◌+◌, ◌*◌, length, Result, Ok, Err}
use Rattle.fmd_lex.specs.Tokens.{end_kind, token_at}
use Rattle.fmd_lex.specs.declared.Token.{Token}
use Rattle.fmd_table.specs.Table.{sections_in}
use Rattle.fmd_head.specs.Refusals.{number_of}
use Rattle.fmd_head.specs.Heads.{ReadPart, next, is_kind, head_at}
use Rattle.fmd_head.specs.Images.{image_at}
use Rattle.fmd_table.specs.declared.Section.{Section}
use Rattle.fmd_table.specs.declared.SectionRow.{SectionRow}
use Rattle.fmd_head.specs.declared.TextImage.{TextImage}
use Rattle.fmd_head.specs.declared.TextFault.{TextFault}
use Rattle.fmd_parse.specs.declared.TextLayout.{TextLayout}

-- ---- sections

-- the sections so far, in the text's order, and the token after them; or the first fault: its number and its place
pub data Parsed : Type 0 where
  fault : ℕ → ℕ → Parsed
  parsed : List Section → Token → Parsed

abbrev pub after_head : ReadPart Section → (Section → Token → Parsed) → Parsed
after_head (Ok r) k = k r.0 r.1
after_head (Err f) k = fault (number_of f.refusal) f.place

abbrev pub after_section : Parsed → (List Section → Token → Parsed) → Parsed
after_section (fault n p) k = fault n p
after_section (parsed l t) k = k l t

-- First the fuel, above twice the bytes that are left: no text runs out of it (proofs/Trees: layout-facts, where no fault has the number 0).
-- Then the text, the token, the level, the parent's index in the list (128: the image), the sections before.
unfoldable mutual
  -- L2: A section: .., optional braces.
  pub section_from : ℕ → List ℕ → Token → ℕ → ℕ → List Section → Parsed
  section_from zero s t lv par l = fault 0 0
  section_from (suc f) s t lv par l =
      after_head (head_at s t lv par (length l))
      (λ h u.
      cond (is_kind 123 u) (list_from f s (next s u) (lv + 1) (length l) (l ++ (h ∷ []))) (parsed (l ++ (h ∷ [])) u))

  -- L3: Braces hold at least one section, and a section may hold sections to any allowed depth.
  pub list_from : ℕ → List ℕ → Token → ℕ → ℕ → List Section → Parsed
  list_from zero s t lv par l = fault 0 0
  list_from (suc f) s t lv par l =
      after_section (section_from f s t lv par l)
      (λ m u. cond (is_kind 125 u) (parsed m (next s u)) (list_from f s u lv par m))

-- ---- a whole text

-- its image and its sections, or its first fault: R33
pub data Layout : Type 0 where
  refused : ℕ → ℕ → Layout
  layout : TextImage → List Section → Layout

abbrev pub after_image : ReadPart TextImage → (TextImage → Token → Layout) → Layout
after_image (Ok r) k = k r.0 r.1
after_image (Err f) k = refused (number_of f.refusal) f.place

abbrev pub after_list : Parsed → (List Section → Token → Layout) → Layout
after_list (fault n p) k = refused n p
after_list (parsed l t) k = k l t

-- L10: After the last brace only blanks and comments.
abbrev pub ended_by : TextImage → List Section → Token → Layout
ended_by i l u = cond (is_kind end_kind u) (layout i l) (refused 51 u.start)

-- L1: An image: .., braces.
unfoldable pub layout_of : List ℕ → Layout
layout_of s =
    after_image (image_at s (token_at s 0))
    (λ i t. after_list (list_from (2 * length s + 2) s t 1 128 []) (ended_by i))

-- ---- what the answer says, with the table that was lent

abbrev pub answer_of : Result TextLayout TextFault → List SectionRow → Layout
answer_of (Ok t) rows = layout t.image (sections_in t.count rows)
answer_of (Err f) rows = refused (number_of f.refusal) f.place
