-- A section up to its braces, read token by token: means of proof, which the contracts cite. What is to be believed is the grammar (fmd_grammar).
-- Each reader is given the token that stands there, and answers with the token after what it read, or with the first fault and its place, the
-- token's first byte.
use Rattle.std.specs.Prelude.{Bool, true, false, cond, not, List, ℕ, ◌-◌, ltb, leb, eqb, get_or, Option, Some, None, Result, Ok, Err}
use Rattle.text_words.specs.Classes.{is_digit}
use Rattle.fmd_lex.specs.Tokens.{word_kind, kind_number, token_at, token_bytes}
use Rattle.fmd_lex.specs.Numbers.{number_in}
use Rattle.fmd_lex.specs.Names.{good_name, flag_of}
use Rattle.fmd_lex.specs.declared.Token.{Token}
use Rattle.fmd_lex.specs.declared.Flag.{Flag}
use Rattle.fmd_lex.specs.declared.Flag.TheVariants.{Cbfs, Preserve}
use Rattle.fmd_table.specs.declared.Section.{Section}
use Rattle.fmd_head.specs.declared.Refusal.TheVariants.{OutOfGrammar, BadNumber, BadName, TooMany, BadFlag}
use Rattle.fmd_head.specs.declared.Refusal.{Refusal}
use Rattle.fmd_head.specs.declared.TextFault.{TextFault}

-- ---- tokens

-- the token after t
abbrev pub next : List ℕ → Token → Token
next s t = token_at s t.end

-- a sign's number is its byte; in decimal ( is 40, ) 41, @ 64, { 123 and } 125
abbrev pub is_kind : ℕ → Token → Bool
is_kind k t = eqb (kind_number t.kind) k

-- ---- what a reader answers

abbrev pub ReadPart : Type 0 → Type 0
ReadPart A = Result (A × Token) TextFault

module _ {A : Type 0} where
  abbrev pub read : A → Token → ReadPart A
  read a u = Ok (a, u)

  abbrev pub refused_at : Refusal → ℕ → ReadPart A
  refused_at r p = Err (record { refusal = r; place = p })

-- goes on where there is no fault
abbrev pub onward : {A B : Type 0} → ReadPart A → (A → Token → ReadPart B) → ReadPart B
onward (Ok r) k = k r.0 r.1
onward (Err f) k = Err f

-- ---- numbers

-- L9: Where a number must stand (after @, the image's size), any other word is 52. Any other token there is 51.
abbrev pub counted : List ℕ → Token → Option ℕ → ReadPart ℕ
counted s t (Some n) = read n (next s t)
counted s t None = refused_at BadNumber t.start

unfoldable pub amount_at : List ℕ → Token → ReadPart ℕ
amount_at s t = cond (is_kind word_kind t) (counted s t (number_in (token_bytes s t))) (refused_at OutOfGrammar t.start)

-- ---- the parts of a section, in their order; a section with what is read of it so far

-- the section of a name alone
abbrev pub bare : Token → ℕ → ℕ → Section
bare t lv par =
    record {
      offset = None;
      size = None;
      place = t.start;
      length = t.end - t.start;
      cbfs = false;
      preserve = false;
      parent = par;
      level = lv;
    }

-- Q5: A layout text has at most .. 128 sections, 8 levels below the image. n sections stand before this one, of level lv.
-- R33: .. the first fault in the text (..; a word's fault stands at its first byte, 55 at the name of the section too many or too deep, ..; at one
-- place the lowest number)
unfoldable pub named_at : List ℕ → Token → ℕ → ℕ → ℕ → ReadPart Section
named_at s t lv par n =
    cond (not (is_kind word_kind t)) (refused_at OutOfGrammar t.start)
    (cond (not (good_name (token_bytes s t))) (refused_at BadName t.start)
    (cond (leb 128 n) (refused_at TooMany t.start)
    (cond (ltb 8 lv) (refused_at TooMany t.start)
    (read (bare t lv par) (next s t)))))

-- the section with one part more
abbrev pub set_cbfs : Section → Section
set_cbfs h =
    record {
      offset = h.offset;
      size = h.size;
      place = h.place;
      length = h.length;
      cbfs = true;
      preserve = h.preserve;
      parent = h.parent;
      level = h.level;
    }

abbrev pub set_preserve : Section → Section
set_preserve h =
    record {
      offset = h.offset;
      size = h.size;
      place = h.place;
      length = h.length;
      cbfs = h.cbfs;
      preserve = true;
      parent = h.parent;
      level = h.level;
    }

abbrev pub set_offset : ℕ → Section → Section
set_offset n h =
    record {
      offset = Some (record { 0 = n });
      size = h.size;
      place = h.place;
      length = h.length;
      cbfs = h.cbfs;
      preserve = h.preserve;
      parent = h.parent;
      level = h.level;
    }

abbrev pub set_size : ℕ → Section → Section
set_size n h =
    record {
      offset = h.offset;
      size = Some n;
      place = h.place;
      length = h.length;
      cbfs = h.cbfs;
      preserve = h.preserve;
      parent = h.parent;
      level = h.level;
    }

-- R20: 56: unknown or repeated flag
abbrev pub marked : List ℕ → Token → Section → Option Flag → ReadPart Section
marked s t h (Some Cbfs) = cond h.cbfs (refused_at BadFlag t.start) (read (set_cbfs h) (next s t))
marked s t h (Some Preserve) = cond h.preserve (refused_at BadFlag t.start) (read (set_preserve h) (next s t))
marked s t h None = refused_at BadFlag t.start

-- one flag, marked in the section
unfoldable pub mark_at : List ℕ → Token → Section → ReadPart Section
mark_at s t h = cond (is_kind word_kind t) (marked s t h (flag_of (token_bytes s t))) (refused_at OutOfGrammar t.start)

-- after both flags: the end, for a third word is unknown or repeats
unfoldable pub last_at : List ℕ → Token → Section → ReadPart Section
last_at s t h = cond (is_kind 41 t) (read h (next s t)) (mark_at s t h)

-- after one flag: the end, or the other flag
unfoldable pub other_at : List ℕ → Token → Section → ReadPart Section
other_at s t h = cond (is_kind 41 t) (read h (next s t)) (onward (mark_at s t h) (λ k u. last_at s u k))

-- L2: optional flags in parentheses (CBFS, PRESERVE, at least one, blanks between)
unfoldable pub flags_at : List ℕ → Token → Section → ReadPart Section
flags_at s t h = cond (is_kind 40 t) (onward (mark_at s (next s t) h) (λ k u. other_at s u k)) (read h t)

-- L2: optional @offset from its parent
abbrev pub with_offset : Section → ReadPart ℕ → ReadPart Section
with_offset h (Ok r) = read (set_offset r.0 h) r.1
with_offset h (Err f) = Err f

unfoldable pub offset_at : List ℕ → Token → Section → ReadPart Section
offset_at s t h = cond (is_kind 64 t) (with_offset h (amount_at s (next s t))) (read h t)

-- L7: After a section's name, flags or offset, a word beginning with a digit is its size.
abbrev pub with_size : Section → ReadPart ℕ → ReadPart Section
with_size h (Ok r) = read (set_size r.0 h) r.1
with_size h (Err f) = Err f

unfoldable pub size_at : List ℕ → Token → Section → ReadPart Section
size_at s t h = cond (is_kind word_kind t) (cond (is_digit (get_or s t.start 0)) (with_size h (amount_at s t)) (read h t)) (read h t)

-- L2: A section: name, optional flags in parentheses (..), optional @offset from its parent, optional size, ..
unfoldable pub head_at : List ℕ → Token → ℕ → ℕ → ℕ → ReadPart Section
head_at s t lv par n =
    onward (named_at s t lv par n)
    (λ h u. onward (flags_at s u h)
    (λ i v. onward (offset_at s v i)
    (λ j w. size_at s w j)))
