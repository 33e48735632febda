-- The grammar of a layout text: what is to be believed of its reading. Each relation stands under the sentence that it renders (docs/TRACE.md).
-- `X ts v`: the tokens ts, all of them and in this order, are an X, and v is what they say. No rule looks ahead, none is tried before another.
use Rattle.std.specs.Prelude.{◌≡◌, Bool, true, false, cond, List, [], ◌∷◌, ◌++◌, ℕ, zero, suc, ◌+◌, ◌≤◌, ◌<◌, eqb, length, Option, Some, None}
use Prim.Native.Char.{code}
use Rattle.fmd_lex.specs.Tokens.{end_kind, word_kind, token_at, token_bytes, kind_number}
use Rattle.fmd_lex.specs.Numbers.{number_in}
use Rattle.fmd_lex.specs.Names.{good_name, cbfs, preserve}
use Rattle.fmd_lex.specs.declared.Token.{Token}
use Rattle.fmd_table.specs.declared.ParentOffset.{ParentOffset}
use Rattle.fmd_table.specs.declared.Section.{Section}
use Rattle.fmd_head.specs.declared.TextImage.{TextImage}

-- ---- tokens

-- A word has a place, that of its first byte in the text, and its bytes. A sign has a place and its byte, one of ( ) @ { };
-- the text's end stands as the sign 0, and any other byte that is no part of a word as the sign 1.
pub data Lexeme : Type 0 where
  word : ℕ → List ℕ → Lexeme
  sign : ℕ → ℕ → Lexeme

-- the token t of the text s; `token_at` of fmd_lex finds it (L4, L5): past blanks and comments, as many bytes of a word as there are
unfoldable pub lexeme_of : List ℕ → Token → Lexeme
lexeme_of s t = cond (eqb (kind_number t.kind) word_kind) (word t.start (token_bytes s t)) (sign t.start (kind_number t.kind))

-- the token t and those after it up to the text's end, f at most
unfoldable pub lexemes_from : ℕ → List ℕ → Token → List Lexeme
lexemes_from zero s t = []
lexemes_from (suc f) s t = lexeme_of s t ∷ cond (eqb (kind_number t.kind) end_kind) [] (lexemes_from f s (token_at s t.end))

-- the tokens of a text; each but the end has a byte of its own, so they are no more than the bytes and one
unfoldable pub lexemes_of : List ℕ → List Lexeme
lexemes_of s = lexemes_from (length s + 1) s (token_at s 0)

-- ---- the parts of a section

-- L2: optional flags in parentheses (CBFS, PRESERVE, at least one, blanks between)
-- No other flag, and none twice (R20).
pub data OptionalFlags : List Lexeme → Bool → Bool → Type 0 where
  no_flags : OptionalFlags [] false false
  only_cbfs : {a b c : ℕ} → OptionalFlags (sign a (code "(") ∷ word b cbfs ∷ sign c (code ")") ∷ []) true false
  only_preserve : {a b c : ℕ} → OptionalFlags (sign a (code "(") ∷ word b preserve ∷ sign c (code ")") ∷ []) false true
  cbfs_preserve : {a b c d : ℕ} → OptionalFlags (sign a (code "(") ∷ word b cbfs ∷ word c preserve ∷ sign d (code ")") ∷ []) true true
  preserve_cbfs : {a b c d : ℕ} → OptionalFlags (sign a (code "(") ∷ word b preserve ∷ word c cbfs ∷ sign d (code ")") ∷ []) true true

-- L2: optional @offset from its parent
-- `number_in` of fmd_lex is the number that a word is (L8).
pub data OptionalOffset : List Lexeme → Option ParentOffset → Type 0 where
  no_offset : OptionalOffset [] None
  offset : {a b n : ℕ} {w : List ℕ} → number_in w ≡ Some n → OptionalOffset (sign a (code "@") ∷ word b w ∷ []) (Some (record { 0 = n }))

-- L2: optional size
-- L7: .. a word beginning with a digit is its size.
-- (Every number begins with a digit, and no name does.)
pub data OptionalSize : List Lexeme → Option ℕ → Type 0 where
  no_size : OptionalSize [] None
  size : {a n : ℕ} {w : List ℕ} → number_in w ≡ Some n → OptionalSize (word a w ∷ []) (Some n)

-- ---- sections

-- Q5: A layout text has at most .. 128 sections, 8 levels below the image.
-- These are `most` and `deepest`. Then come the level; the parent's index in the text's order, 128 for the image; and how many sections stand before.
mutual
  -- L2: A section: name, optional flags .., optional @offset .., optional size, optional braces.
  -- `good_name` of fmd_lex says which words are names (L6). A section says itself and, after it, the sections in its braces.
  pub data SectionTree (most deepest : ℕ) : ℕ → ℕ → ℕ → List Lexeme → List Section → Type 0 where
    section : {level parent before place : ℕ} {name : List ℕ} {fs os zs bs : List Lexeme} {c p : Bool}
        {o : Option ParentOffset} {z : Option ℕ} {l : List Section}
        → good_name name ≡ true → before < most → level ≤ deepest → OptionalFlags fs c p → OptionalOffset os o → OptionalSize zs z
        → OptionalBraces most deepest (level + 1) before (before + 1) bs l
        → SectionTree most deepest level parent before (word place name ∷ (fs ++ (os ++ (zs ++ bs))))
        (record { offset = o; size = z; place = place; length = length name; cbfs = c; preserve = p; parent = parent; level = level } ∷ l)

  -- L2: optional braces
  -- L3: .. a section may hold sections to any allowed depth.
  pub data OptionalBraces (most deepest : ℕ) : ℕ → ℕ → ℕ → List Lexeme → List Section → Type 0 where
    no_braces : {level parent before : ℕ} → OptionalBraces most deepest level parent before [] []
    braces : {level parent before a : ℕ} (b : ℕ) {ts : List Lexeme} {l : List Section} → SectionList most deepest level parent before ts l
        → OptionalBraces most deepest level parent before (sign a (code "{") ∷ (ts ++ (sign b (code "}") ∷ []))) l

  -- L3: Braces hold at least one section
  pub data SectionList (most deepest : ℕ) : ℕ → ℕ → ℕ → List Lexeme → List Section → Type 0 where
    one : {level parent before : ℕ} {ts : List Lexeme} {l : List Section}
        → SectionTree most deepest level parent before ts l → SectionList most deepest level parent before ts l
    more : {level parent before : ℕ} {ts us : List Lexeme} {l m : List Section} → SectionTree most deepest level parent before ts l
        → SectionList most deepest level parent (before + length l) us m → SectionList most deepest level parent before (ts ++ us) (l ++ m)

-- ---- the image

-- L1: optional @address
pub data OptionalAddress : List Lexeme → Option ℕ → Type 0 where
  no_address : OptionalAddress [] None
  address : {a b n : ℕ} {w : List ℕ} → number_in w ≡ Some n → OptionalAddress (sign a (code "@") ∷ word b w ∷ []) (Some n)

-- L1: An image: name, optional @address, size (an image length in range ..), braces.
-- Q4: A flash image is 98 to 16,777,216 bytes.
-- L10: After the last brace only blanks and comments.
-- So the text's end is the next token.
pub data LayoutText (most deepest : ℕ) : List Lexeme → TextImage → List Section → Type 0 where
  image : {place n : ℕ} (a b c d : ℕ) {name : List ℕ} (w : List ℕ) {os ts : List Lexeme} {at : Option ℕ} {l : List Section}
      → good_name name ≡ true → OptionalAddress os at → number_in w ≡ Some n → 98 ≤ n → n ≤ 16777216 → SectionList most deepest 1 128 0 ts l
      → LayoutText most deepest
      (word place name ∷ (os ++ (word a w ∷ sign b (code "{") ∷ (ts ++ (sign c (code "}") ∷ sign d end_kind ∷ [])))))
      (record { address = at; size = n; place = place; length = length name }) l

-- the text s says the image i and the sections l
abbrev pub Derives : List ℕ → TextImage → List Section → Type 0
Derives s i l = LayoutText 128 8 (lexemes_of s) i l
