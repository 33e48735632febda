-- Each part of a section keeps its parent.
use Rattle.std.specs.Prelude.{Option, Some, None, Ok, Err}
use mathlib.Core.Path.{◌≡◌, refl}
use mathlib.Core.Bool.{not}
use mathlib.Core.List.{List}
use Prim.Native.Nat.{ℕ}
use lib.Dec.{ltb, leb}
use lib.ListN.{get_or}
use Rattle.octets.proofs.Bools.{choice}
use Rattle.text_words.specs.Classes.{is_digit}
use Rattle.fmd_lex.specs.Tokens.{word_kind, token_bytes}
use Rattle.fmd_lex.specs.Names.{good_name, flag_of}
use Rattle.fmd_lex.specs.declared.Token.{Token}
use Rattle.fmd_lex.specs.declared.Flag.{Flag}
use Rattle.fmd_lex.specs.declared.Flag.TheVariants.{Cbfs, Preserve}
use Rattle.fmd_head.specs.Heads.{next, is_kind, amount_at, onward, named_at, marked, mark_at, last_at, other_at, flags_at, with_offset, offset_at, ReadPart, read}
use Rattle.fmd_head.specs.Heads.{with_size, size_at, head_at}
use Rattle.fmd_table.specs.declared.Section.{Section}

abbrev Of : ℕ → ReadPart Section → Type 0
Of par (Ok got) = got.0.parent ≡ par
Of par (Err bad) = Unit {0}

onward-of : (par : ℕ) (p : ReadPart Section) (f : Section → Token → ReadPart Section) → Of par p → ((h : Section) (u : Token) → h.parent ≡ par → Of par (f h u))
    → Of par (onward p f)
onward-of par (Ok got) f e g = g got.0 got.1 e
onward-of par (Err bad) f e g = tt

module _ (par : ℕ) (s : List ℕ) (t : Token) where
  offset-by : (h : Section) → h.parent ≡ par → (m : ReadPart ℕ) → Of par (with_offset h m)
  offset-by h e (Ok got) = e
  offset-by h e (Err bad) = tt

  size-by : (h : Section) → h.parent ≡ par → (m : ReadPart ℕ) → Of par (with_size h m)
  size-by h e (Ok got) = e
  size-by h e (Err bad) = tt

  mark-by : (h : Section) → h.parent ≡ par → (f : Option Flag) → Of par (marked s t h f)
  mark-by h e (Some Cbfs) = choice (Of par) h.cbfs _ _ (λ q. tt) (λ q. e)
  mark-by h e (Some Preserve) = choice (Of par) h.preserve _ _ (λ q. tt) (λ q. e)
  mark-by h e None = tt

  mark_of : (h : Section) → h.parent ≡ par → Of par (mark_at s t h)
  unfolding mark_at
  mark_of h e = choice (Of par) (is_kind word_kind t) _ _ (λ q. mark-by h e (flag_of (token_bytes s t))) (λ q. tt)

  last_of : (h : Section) → h.parent ≡ par → Of par (last_at s t h)
  unfolding last_at
  last_of h e = choice (Of par) (is_kind 41 t) _ _ (λ q. e) (λ q. mark_of h e)

  offset-of : (h : Section) → h.parent ≡ par → Of par (offset_at s t h)
  unfolding offset_at
  offset-of h e = choice (Of par) (is_kind 64 t) _ _ (λ q. offset-by h e (amount_at s (next s t))) (λ q. e)

  size_of : (h : Section) → h.parent ≡ par → Of par (size_at s t h)
  unfolding size_at
  size_of h e =
      choice (Of par) (is_kind word_kind t) _ _
      (λ q. choice (Of par) (is_digit (get_or s t.start 0)) _ _ (λ r. size-by h e (amount_at s t)) (λ r. e)) (λ q. e)

  named-of : (lv n : ℕ) → Of par (named_at s t lv par n)
  unfolding named_at
  named-of lv n =
      choice (Of par) (not (is_kind word_kind t)) _ _ (λ e. tt)
      (λ e. choice (Of par) (not (good_name (token_bytes s t))) _ _ (λ f. tt)
      (λ f. choice (Of par) (leb 128 n) _ _ (λ g. tt)
      (λ g. choice (Of par) (ltb 8 lv) _ _ (λ d. tt) (λ d. refl))))

module _ (par : ℕ) (s : List ℕ) (t : Token) where
  other-of : (h : Section) → h.parent ≡ par → Of par (other_at s t h)
  unfolding other_at
  other-of h e =
      choice (Of par) (is_kind 41 t) _ _ (λ q. e) (λ q. onward-of par (mark_at s t h) _ (mark_of par s t h e) (λ k u f. last_of par s u k f))

module _ (par : ℕ) (s : List ℕ) (t : Token) where
  flags_of : (h : Section) → h.parent ≡ par → Of par (flags_at s t h)
  unfolding flags_at
  flags_of h e =
      choice (Of par) (is_kind 40 t) _ _ (λ q. onward-of par (mark_at s (next s t) h) _ (mark_of par s (next s t) h e) (λ k u f. other-of par s u k f))
      (λ q. e)

head_of : (s : List ℕ) (t : Token) (lv par n : ℕ) → Of par (head_at s t lv par n)
unfolding head_at
head_of s t lv par n =
    onward-of par (named_at s t lv par n) _ (named-of par s t lv n)
    (λ h u e. onward-of par (flags_at s u h) _ (flags_of par s u h e)
    (λ i v f. onward-of par (offset_at s v i) _ (offset-of par s v i f)
    (λ j w g. size_of par s w j g)))

-- a section has the parent that it is read for
pub head-parent : (s : List ℕ) (t : Token) (lv par n : ℕ) {h : Section} {u : Token} → head_at s t lv par n ≡ read h u → h.parent ≡ par
head-parent s t lv par n e = rw e at (head_of s t lv par n)
