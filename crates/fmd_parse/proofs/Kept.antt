-- What each part of a section keeps of the section read so far, and where its fault stands.
use Rattle.std.specs.Prelude.{Option, Some, None, Ok, Err}
use mathlib.Core.Path.{◌≡◌, refl, ◌∙◌}
use mathlib.Core.Bool.{true, not}
use mathlib.Core.List.{List}
use Prim.Native.Nat.{ℕ, ◌+◌, ◌-◌, ◌≤◌, ◌<◌}
use native.Mathlib.Omega.{arith}
use lib.Dec.{ltb, leb}
use lib.ListN.{length, get_or}
use borrow.Author.Tests.{leb-false, ltb-false, eqb-true}
use Rattle.octets.specs.Tests.{◌or◌, all}
use Rattle.octets.proofs.Bools.{choice, not_f}
use Rattle.text_words.specs.Classes.{is_digit}
use Rattle.fmd_lex.specs.Chars.{is_word}
use Rattle.fmd_lex.specs.Tokens.{word_kind, token_at, token_bytes, kind_number}
use Rattle.fmd_lex.specs.Invariants.{Within}
use Rattle.fmd_lex.specs.Numbers.{number_in}
use Rattle.fmd_lex.specs.Names.{good_name, flag_of}
use Rattle.fmd_lex.specs.declared.Token.{Token}
use Rattle.fmd_lex.specs.declared.Flag.{Flag}
use Rattle.fmd_lex.specs.declared.Flag.TheVariants.{Cbfs, Preserve}
use Rattle.fmd_lex.proofs.Numbers.{NumberFits, number_fits}
use Rattle.fmd_lex.proofs.Tokens.{earlier}
use Rattle.fmd_lex.proofs.Places.{token-within, word_bytes}
use Rattle.fmd_head.specs.Refusals.{number_of as refusal_number}
use Rattle.fmd_head.specs.Heads.{next, is_kind, counted, amount_at, onward, named_at, marked, mark_at, last_at, other_at, flags_at, with_offset, ReadPart}
use Rattle.fmd_head.specs.Heads.{offset_at, with_size, size_at, head_at}
use Rattle.fmd_parse.specs.Trees.{Named}
use Rattle.fmd_parse.specs.Claims.{FaultNumber}
use Rattle.fmd_table.specs.declared.Section.{Section}

-- ---- tokens of the text

pub record From (s : List ℕ) (at : ℕ) (u : Token) : Type 0 where
  pub within : Within (length s) at u
  pub word : kind_number u.kind ≡ word_kind → all is_word (token_bytes s u) ≡ true

pub token-from : (s : List ℕ) (at : ℕ) → at ≤ length s → From s at (token_at s at)
token-from s at h = record { within = token-within s at h; word = word_bytes s at }

pub from-earlier : {s : List ℕ} {a b : ℕ} {u : Token} → From s a u → b ≤ a → From s b u
from-earlier w h = record { within = earlier w.within h; word = w.word }

pub own-from : {s : List ℕ} {a : ℕ} {u : Token} → From s a u → From s u.start u
own-from w =
    record {
      within = record { after = omega arith; ordered = w.within.ordered; inside = w.within.inside; filled = w.within.filled };
      word = w.word;
    }

-- ---- faults

abbrev pub Faulty : List ℕ → ℕ → ℕ → Type 0
Faulty s n p = FaultNumber n × (p ≤ length s)

module _ {s : List ℕ} {a : ℕ} {t : Token} (w : From s a t) where
  pub next-from : From s t.end (next s t)
  next-from = token-from s t.end w.within.inside

  pub fault-here : (n : ℕ) → FaultNumber n → Faulty s n t.start
  fault-here n e = (e, omega arith)

  pub name-here : kind_number t.kind ≡ word_kind → good_name (token_bytes s t) ≡ true → Named s t.start (t.end - t.start)
  name-here k e = record { inside = omega arith; word = w.word k; good = e }

-- ---- numbers

abbrev pub AmountFrom : List ℕ → ℕ → ReadPart ℕ → Type 0
AmountFrom s a (Ok got) = From s a got.1 × (got.0 ≤ 4294967295)
AmountFrom s a (Err bad) = Faulty s (refusal_number bad.refusal) bad.place

pub amount-from : {s : List ℕ} {a : ℕ} {t : Token} → From s a t → AmountFrom s t.end (amount_at s t)
unfolding amount_at ◌or◌
amount-from {s} {a} {t} w =
    choice (AmountFrom s t.end) (is_kind word_kind t) _ _ (λ e. by_number (number_in (token_bytes s t)) (number_fits (token_bytes s t)))
    (λ e. fault-here w 51 refl)
  where
    by_number : (n : Option ℕ) → NumberFits n → AmountFrom s t.end (counted s t n)
    by_number (Some n) h = (next-from w, h)
    by_number None h = fault-here w 52 refl

-- ---- parts after the name

pub record Kept (h k : Section) : Type 0 where
  pub place : k.place ≡ h.place
  pub length : k.length ≡ h.length
  pub parent : k.parent ≡ h.parent
  pub level : k.level ≡ h.level

pub kept : (h : Section) → Kept h h
kept h = record { place = refl; length = refl; parent = refl; level = refl }

pub kept_on : {h k l : Section} → Kept h k → Kept k l → Kept h l
kept_on p q = record { place = q.place ∙ p.place; length = q.length ∙ p.length; parent = q.parent ∙ p.parent; level = q.level ∙ p.level }

abbrev pub Keeps : List ℕ → ℕ → Section → ReadPart Section → Type 0
Keeps s a h (Ok got) = From s a got.1 × Kept h got.0
Keeps s a h (Err bad) = Faulty s (refusal_number bad.refusal) bad.place

pub keeps : (s : List ℕ) (a b : ℕ) (h k : Section) (p : ReadPart Section) → Kept h k → b ≤ a → Keeps s a k p → Keeps s b h p
keeps s a b h k (Ok got) q o w = (from-earlier w.0 o, kept_on q w.1)
keeps s a b h k (Err bad) q o w = w

pub onward-keeps : (s : List ℕ) (a b : ℕ) (h : Section) (p : ReadPart Section) (f : Section → Token → ReadPart Section) → Keeps s a h p → b ≤ a
    → ((k : Section) (u : Token) → From s a u → Keeps s u.start k (f k u)) → Keeps s b h (onward p f)
onward-keeps s a b h (Ok got) f w o g =
    let x = w.0 in keeps s got.1.start b h got.0 (f got.0 got.1) w.1 (omega arith) (g got.0 got.1 x)
onward-keeps s a b h (Err bad) f w o g = w

module _ {s : List ℕ} {a : ℕ} {t : Token} (w : From s a t) (h : Section) where
  flag-keeps : Keeps s t.end h (mark_at s t h)
  unfolding mark_at ◌or◌
  flag-keeps = choice (Keeps s t.end h) (is_kind word_kind t) _ _ (λ e. by_flag (flag_of (token_bytes s t))) (λ e. fault-here w 51 refl)
    where
      by_flag : (f : Option Flag) → Keeps s t.end h (marked s t h f)
      by_flag (Some Cbfs) = choice (Keeps s t.end h) h.cbfs _ _ (λ e. fault-here w 56 refl)
          (λ e. (next-from w, record { place = refl; length = refl; parent = refl; level = refl }))
      by_flag (Some Preserve) = choice (Keeps s t.end h) h.preserve _ _ (λ e. fault-here w 56 refl)
          (λ e. (next-from w, record { place = refl; length = refl; parent = refl; level = refl }))
      by_flag None = fault-here w 56 refl

  last-keeps : Keeps s t.end h (last_at s t h)
  unfolding last_at
  last-keeps = choice (Keeps s t.end h) (is_kind 41 t) _ _ (λ e. (next-from w, kept h)) (λ e. flag-keeps)

module _ {s : List ℕ} {a : ℕ} {t : Token} (w : From s a t) (h : Section) where
  other-keeps : Keeps s t.end h (other_at s t h)
  unfolding other_at
  other-keeps =
      choice (Keeps s t.end h) (is_kind 41 t) _ _ (λ e. (next-from w, kept h))
      (λ e. onward-keeps s t.end t.end h (mark_at s t h) _ (flag-keeps w h) (omega arith)
      (λ k u v. keeps s u.end u.start k k (last_at s u k) (kept k) (omega arith) (last-keeps v k)))

  pub offset-keeps : Keeps s t.start h (offset_at s t h)
  unfolding offset_at
  offset-keeps =
      let x = next-from w in
      choice (Keeps s t.start h) (is_kind 64 t) _ _ (λ e. by-amount (amount_at s (next s t)) (amount-from x)) (λ e. (own-from w, kept h))
    where
      by-amount : (m : ReadPart ℕ) → AmountFrom s (next s t).end m → Keeps s t.start h (with_offset h m)
      by-amount (Ok got) v =
          let x = next-from w in
          (from-earlier v.0 (omega arith), record { place = refl; length = refl; parent = refl; level = refl })
      by-amount (Err bad) v = v

  pub size-keeps : Keeps s t.start h (size_at s t h)
  unfolding size_at
  size-keeps =
      choice (Keeps s t.start h) (is_kind word_kind t) _ _
      (λ e. choice (Keeps s t.start h) (is_digit (get_or s t.start 0)) _ _ (λ f. by-amount (amount_at s t) (amount-from w)) (λ f. (own-from w, kept h)))
      (λ e. (own-from w, kept h))
    where
      by-amount : (m : ReadPart ℕ) → AmountFrom s t.end m → Keeps s t.start h (with_size h m)
      by-amount (Ok got) v = (from-earlier v.0 (omega arith), record { place = refl; length = refl; parent = refl; level = refl })
      by-amount (Err bad) v = v

pub flags_keeps : {s : List ℕ} {a : ℕ} {t : Token} → From s a t → (h : Section) → Keeps s t.start h (flags_at s t h)
unfolding flags_at
flags_keeps {s} {a} {t} w h =
    let x = next-from w in
    choice (Keeps s t.start h) (is_kind 40 t) _ _
    (λ e. onward-keeps s (next s t).end t.start h (mark_at s (next s t) h) _ (flag-keeps x h) (omega arith)
    (λ k u v. keeps s u.end u.start k k (other_at s u k) (kept k) (omega arith) (other-keeps v k)))
    (λ e. (own-from w, kept h))

-- ---- the name, and the whole

-- a section of the level lv and the parent par, read after n others
pub record Headed (s : List ℕ) (lv par n : ℕ) (h : Section) : Type 0 where
  pub named : Named s h.place h.length
  pub deep : lv ≤ 8
  pub many : n < 128
  pub parent : h.parent ≡ par
  pub level : h.level ≡ lv

abbrev pub Heads : List ℕ → ℕ → ℕ → ℕ → ℕ → ReadPart Section → Type 0
Heads s a lv par n (Ok got) = From s a got.1 × Headed s lv par n got.0
Heads s a lv par n (Err bad) = Faulty s (refusal_number bad.refusal) bad.place

named-heads : {s : List ℕ} {a : ℕ} {t : Token} → From s a t → (lv par n : ℕ) → Heads s (t.start + 1) lv par n (named_at s t lv par n)
unfolding named_at ◌or◌
named-heads {s} {a} {t} w lv par n =
    let P = Heads s (t.start + 1) lv par n in
    choice P (not (is_kind word_kind t)) _ _ (λ e. fault-here w 51 refl)
    (λ e. choice P (not (good_name (token_bytes s t))) _ _ (λ f. fault-here w 53 refl)
    (λ f. choice P (leb 128 n) _ _ (λ g. fault-here w 55 refl)
    (λ g. choice P (ltb 8 lv) _ _ (λ d. fault-here w 55 refl)
    (λ d.
    let k : kind_number t.kind ≡ word_kind = eqb-true (kind_number t.kind) word_kind (not_f (is_kind word_kind t) e) in
    let l = w.within.filled k in (
      from-earlier (next-from w) (omega arith),
      record {
        named = name-here w k (not_f _ f);
        deep = ltb-false 8 lv d;
        many = leb-false 128 n g;
        parent = refl;
        level = refl;
      },
    )))))

onward-heads : (s : List ℕ) (a lv par n : ℕ) (p : ReadPart Section) (f : Section → Token → ReadPart Section) → Heads s a lv par n p
    → ((h : Section) (u : Token) → From s a u → Keeps s u.start h (f h u)) → Heads s a lv par n (onward p f)
onward-heads s a lv par n (Err bad) f w g = w
onward-heads s a lv par n (Ok got) f w g = go (f got.0 got.1) (g got.0 got.1 w.0)
  where
    go : (p : ReadPart Section) → Keeps s got.1.start got.0 p → Heads s a lv par n p
    go (Err f) x = x
    go (Ok r) x =
        let o = w.0 in
        let q = x.1 in
        let d = w.1 in (
          from-earlier x.0 (omega arith),
          record {
            named = rw (q.place, q.length) d.named;
            deep = d.deep;
            many = d.many;
            parent = q.parent ∙ d.parent;
            level = q.level ∙ d.level;
          },
        )

pub head-heads : {s : List ℕ} {a : ℕ} {t : Token} → From s a t → (lv par n : ℕ) → Heads s (t.start + 1) lv par n (head_at s t lv par n)
unfolding head_at
head-heads {s} {a} {t} w lv par n =
    onward-heads s (t.start + 1) lv par n (named_at s t lv par n) _ (named-heads w lv par n)
    (λ h u v. onward-keeps s u.start u.start h (flags_at s u h) _ (flags_keeps v h) (omega arith)
    (λ i x y. onward-keeps s x.start x.start i (offset_at s x i) _ (offset-keeps y i) (omega arith) (λ j r z. size-keeps z j)))
