-- What is claimed of the reading of layout texts (proofs/Theorems): `layout_of`, which the reader's contract cites, is the grammar's.
use Rattle.std.specs.Prelude.{◌≡◌, List, [], ◌∷◌, ◌++◌, ◌↔◌, ◌⊎◌, true, false, ℕ, ◌≤◌, get_or, Some, None}
use Prim.Native.Char.{code}
use Rattle.octets.specs.Ascii.{ascii}
use Rattle.text_words.specs.Classes.{is_digit}
use Rattle.fmd_lex.specs.Tokens.{end_kind}
use Rattle.fmd_lex.specs.Numbers.{number_in}
use Rattle.fmd_lex.specs.Names.{good_name, cbfs}
use Rattle.fmd_table.specs.declared.Section.{Section}
use Rattle.fmd_parse.specs.Layouts.{layout, refused, layout_of}
use Rattle.fmd_head.specs.declared.TextImage.{TextImage}
use Rattle.fmd_grammar.specs.Grammar.{Lexeme, word, sign, lexemes_of, LayoutText, Derives}

-- The reader accepts exactly the texts that derive, with what they say. So no text says two things.
abbrev pub Exact : Type 0
Exact = (s : List ℕ) (i : TextImage) (l : List Section) → (layout_of s ≡ layout i l) ↔ Derives s i l

-- ---- the first fault

-- R33: a word's fault stands at its first byte, 55 at the name .., an unfit sign or byte at itself, an early end after the last byte
abbrev pub lexeme_place : Lexeme → ℕ
lexeme_place (word p w) = p
lexeme_place (sign p b) = p

-- the tokens ts can be continued to a layout text, if one section and one level more than the limits are allowed:
-- after { on level 8 no text within the limits goes on, yet a } there is 51
abbrev pub Viable : List Lexeme → Type 0
Viable ts = (us : List Lexeme) × (i : TextImage) × (l : List Section) × LayoutText 129 9 (ts ++ us) i l

-- no layout text begins with the tokens ts
abbrev pub NoText : List Lexeme → Type 0
NoText ts = (us : List Lexeme) (i : TextImage) (l : List Section) → LayoutText 128 8 (ts ++ us) i l → ⊥

-- a number that stands at p may be the image's size: { A } and the text's end may come after it
abbrev pub MayBeImageSize : (List Lexeme → Type 0) → ℕ → Type 0
MayBeImageSize May p = May (word p (ascii "98") ∷ sign 0 (code "{") ∷ word 0 (ascii "A") ∷ sign 0 (code "}") ∷ sign 0 end_kind ∷ [])

-- why a token has a fault of this number; `May us`: the tokens us may stand in its place
pub data Fault (May : List Lexeme → Type 0) : ℕ → Lexeme → Type 0 where
  -- text out of grammar (R18): a sign or another byte, or the text's end
  unfit_sign : {p b : ℕ} → Fault May 51 (sign p b)
  -- a word before the image's braces: there { A } and the text's end may stand
  word_before_braces : {p : ℕ} {w : List ℕ}
      → May (sign p (code "{") ∷ word 0 (ascii "A") ∷ sign 0 (code "}") ∷ sign 0 end_kind ∷ []) → Fault May 51 (word p w)
  -- L10: After the last brace only blanks and comments.
  -- So a word there is 51; the text's end may stand.
  word_after_braces : {p : ℕ} {w : List ℕ} → May (sign p end_kind ∷ []) → Fault May 51 (word p w)
  -- L9: Where a number must stand (after @, the image's size), any other word is 52.
  -- After @ two numbers may stand, the second of them a size; as the image's size one, and behind it { A } and the text's end.
  bad_number : {p : ℕ} {w : List ℕ} → number_in w ≡ None → May (word p (ascii "98") ∷ word 0 (ascii "98") ∷ []) → Fault May 52 (word p w)
  bad_image_size : {p : ℕ} {w : List ℕ} → number_in w ≡ None → MayBeImageSize May p → Fault May 52 (word p w)
  -- L1: size (an image length in range, else 52)
  bad_length : {p n : ℕ} {w : List ℕ} → number_in w ≡ Some n → (98 ≤ n → n ≤ 16777216 → ⊥) → MayBeImageSize May p → Fault May 52 (word p w)
  -- L7: After a section's name, flags or offset, a word beginning with a digit is its size.
  -- So it is 52 where it is no number.
  bad_size : {p : ℕ} {w : List ℕ} → is_digit (get_or w 0 0) ≡ true → number_in w ≡ None → May (word p (ascii "98") ∷ []) → Fault May 52 (word p w)
  -- L6: .. (else 53).
  -- Every name may stand there.
  bad_name : {p : ℕ} {w : List ℕ} → good_name w ≡ false → ((v : List ℕ) → good_name v ≡ true → May (word p v ∷ [])) → Fault May 53 (word p w)
  -- R33: 55 at the name of the section too many or too deep
  -- It is a name, and were one more allowed, every name might stand there.
  too_many : {p : ℕ} {w : List ℕ} → good_name w ≡ true → ((v : List ℕ) → good_name v ≡ true → May (word p v ∷ [])) → Fault May 55 (word p w)
  -- R20: 56: unknown or repeated flag
  -- There ) may stand, or one flag and ).
  bad_flag : {p : ℕ} {w : List ℕ} → May (sign p (code ")") ∷ []) ⊎ May (word p cbfs ∷ sign 0 (code ")") ∷ []) → Fault May 56 (word p w)

-- R33: .. left to right, the first fault in the text ..
-- Its number is n, its place p.
pub record FirstFault (s : List ℕ) (n p : ℕ) : Type 0 where
  -- the token at fault, the tokens before and after it
  pub before : List Lexeme
  pub token : Lexeme
  pub after : List Lexeme
  pub tokens : lexemes_of s ≡ before ++ (token ∷ after)
  pub place : lexeme_place token ≡ p
  -- up to it nothing is at fault
  pub viable : Viable before
  pub fault : Fault (λ us. Viable (before ++ us)) n token
  -- L7: After a section's name, flags or offset, a word beginning with a digit is its size.
  -- So 53 at such a word stands where no word beginning with a digit may, and 52 at any other word where no name may.
  pub digit : n ≡ 53 → (w v : List ℕ) → token ≡ word p w → is_digit (get_or w 0 0) ≡ true → is_digit (get_or v 0 0) ≡ true → NoText (before ++ (word p v ∷ []))
  pub letter : n ≡ 52 → (w v : List ℕ) → token ≡ word p w → is_digit (get_or w 0 0) ≡ false → good_name v ≡ true → NoText (before ++ (word p v ∷ []))
  -- with it no text derives, and every text that begins so has the same fault, whatever follows
  pub never : NoText (before ++ (token ∷ []))
  pub always : (r : List ℕ) (ts : List Lexeme) → lexemes_of r ≡ before ++ (token ∷ ts) → layout_of r ≡ refused n p

-- The fault of a refused text is its first.
abbrev pub First : Type 0
First = (s : List ℕ) (n p : ℕ) → layout_of s ≡ refused n p → FirstFault s n p
