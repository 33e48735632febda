-- The tokens of a layout text. A place is a byte position in the text.
use Rattle.std.specs.Prelude.{Bool, true, false, cond, List, [], ◌∷◌, ℕ, suc, ◌+◌, ◌-◌, ltb, eqb, length, get_or, drop}
use Prim.Native.Char.{code}
use Rattle.octets.specs.Bytes.{part}
use Rattle.text_words.specs.Classes.{is_blank}
use Rattle.fmd_lex.specs.Chars.{is_word}
use Rattle.fmd_lex.specs.declared.Kind.{Kind}
use Rattle.fmd_lex.specs.declared.Kind.TheVariants.{End, Bad, Word, Left, Right, At, Open, Close}
use Rattle.fmd_lex.specs.declared.Token.{Token}

-- the number of a kind; a sign's is its own byte
abbrev pub end_kind : ℕ
end_kind = 0

abbrev pub bad_kind : ℕ
bad_kind = 1

abbrev pub word_kind : ℕ
word_kind = 2

abbrev pub kind_number : Kind → ℕ
kind_number End = end_kind
kind_number Bad = bad_kind
kind_number Word = word_kind
kind_number Left = code "("
kind_number Right = code ")"
kind_number At = code "@"
kind_number Open = code "{"
kind_number Close = code "}"

-- the kind of a token of one byte: a sign's, or that of a byte that begins no token
unfoldable pub sign_kind : ℕ → Kind
sign_kind b =
    cond (eqb b (code "(")) Left
    (cond (eqb b (code ")")) Right
    (cond (eqb b (code "@")) At
    (cond (eqb b (code "{")) Open
    (cond (eqb b (code "}")) Close Bad))))

-- a token of a kind, from the place a up to the place e
abbrev pub token_of : Kind → ℕ → ℕ → Token
token_of k a e = record { kind = k; start = a; end = e }

-- L4: # runs to the line's end.
-- The place after the blanks and comments that begin at the place `at`; true: inside a comment, which ends at LF alone, whatever bytes it has.
unfoldable pub skip_from : Bool → List ℕ → ℕ → ℕ
skip_from c [] at = at
skip_from true (x ∷ xs) at = cond (eqb x (code "\n")) (skip_from false xs (suc at)) (skip_from true xs (suc at))
skip_from false (x ∷ xs) at =
    cond (is_blank x) (skip_from false xs (suc at)) (cond (eqb x (code "#")) (skip_from true xs (suc at)) at)

-- the place after the word bytes that begin at the place `at`
unfoldable pub word_from : List ℕ → ℕ → ℕ
word_from [] at = at
word_from (x ∷ xs) at = cond (is_word x) (word_from xs (suc at)) at

-- the token that begins at the place p, where neither a blank nor a comment stands: a word, a sign, a byte that is neither, or the text's end
unfoldable pub token_here : List ℕ → ℕ → Token
token_here s p =
    cond (ltb p (length s))
    (cond (is_word (get_or s p 0))
    (token_of Word p (word_from (drop (p + 1) s) (p + 1)))
    (token_of (sign_kind (get_or s p 0)) p (p + 1)))
    (token_of End p p)

-- the first token at or after the place `at`
unfoldable pub token_at : List ℕ → ℕ → Token
token_at s at = token_here s (skip_from false (drop at s) at)

-- the bytes of a token
abbrev pub token_bytes : List ℕ → Token → List ℕ
token_bytes s t = part t.start (t.end - t.start) s
