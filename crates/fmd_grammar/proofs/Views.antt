-- The tokens of a text, one by one.
use mathlib.Core.Path.{◌≡◌, refl, subst}
use mathlib.Core.Bool.{Bool, true, false, cond}
use mathlib.Core.List.{List, [], ◌∷◌}
use Prim.Native.Nat.{ℕ, zero, suc, ◌+◌, ◌-◌, ◌≤◌, ◌<◌}
use native.Mathlib.Nat.{not-suc-le-zero}
use native.Mathlib.Omega.{arith}
use lib.Dec.{ltb}
use lib.ListN.{length, get_or, drop}
use borrow.Author.Tests.{eqb-true, eq-eqb}
use Rattle.octets.proofs.Parts.{length_part}
use Rattle.octets.proofs.Bools.{choice, clash}
use Rattle.fmd_lex.specs.Tokens.{end_kind, word_kind, skip_from, token_here, token_at, token_bytes, kind_number}
use Rattle.fmd_lex.specs.Invariants.{Within}
use Rattle.fmd_lex.specs.Chars.{is_word}
use Rattle.fmd_lex.specs.declared.Token.{Token}
use Rattle.fmd_lex.proofs.Tokens.{earlier}
use Rattle.fmd_lex.proofs.Places.{word-bounds, token-within}
use Rattle.fmd_head.specs.Heads.{next, is_kind}
use Rattle.fmd_grammar.specs.Grammar.{Lexeme, word, sign, lexeme_of, lexemes_from, lexemes_of}

-- xs are the token t and those after it
pub data View (s : List ℕ) : Token → List Lexeme → Type 0 where
  last : {t : Token} {x : Lexeme} → Within (length s) 0 t → x ≡ lexeme_of s t → is_kind end_kind t ≡ true → View s t (x ∷ [])
  step : {t : Token} {x : Lexeme} {xs : List Lexeme} → Within (length s) 0 t → x ≡ lexeme_of s t → is_kind end_kind t ≡ false → View s (next s t) xs → View s t
      (x ∷ xs)

token-filled : (s : List ℕ) (at : ℕ) → is_kind end_kind (token_at s at) ≡ false → (token_at s at).start < (token_at s at).end
unfolding token_at token_here
token-filled s at = here (skip_from false (drop at s) at)
  where
    here : (p : ℕ) → is_kind end_kind (token_here s p) ≡ false → (token_here s p).start < (token_here s p).end
    here p =
        let P : Token → Type 0 = λ t. is_kind end_kind t ≡ false → t.start < t.end in
        choice P (ltb p (length s)) _ _
        (λ e. choice P (is_word (get_or s p 0)) _ _ (λ f z. let w = word-bounds (drop (p + 1) s) (p + 1) in omega arith)
        (λ f z. omega arith))
        (λ e z. absurd (clash refl z))

view-from : (f : ℕ) (s : List ℕ) (a : ℕ) → a ≤ length s → length s - (token_at s a).start < f → View s (token_at s a) (lexemes_from f s (token_at s a))
unfolding lexemes_from
view-from zero s a h m = absurd (not-suc-le-zero m)
view-from (suc f) s a h m =
    let t = token_at s a in
    let w : Within (length s) a t = token-within s a h in
    choice (λ (xs : List Lexeme). View s t (lexeme_of s t ∷ xs)) (is_kind end_kind t) _ _
    (λ e. last (earlier w (omega arith)) refl e)
    (λ e.
    let x = token-within s t.end w.inside in
    let y = token-filled s a e in
    step (earlier w (omega arith)) refl e (view-from f s t.end w.inside (omega arith)))

pub view_of : (s : List ℕ) → View s (token_at s 0) (lexemes_of s)
unfolding lexemes_of
view_of s = view-from (length s + 1) s 0 (omega arith) (omega arith)

-- ---- a word, a sign

pub record Worded (s : List ℕ) (t : Token) (p : ℕ) (w : List ℕ) (xs : List Lexeme) : Type 0 where
  pub within : Within (length s) 0 t
  pub kind : is_kind word_kind t ≡ true
  pub place : t.start ≡ p
  pub bytes : token_bytes s t ≡ w
  pub then : View s (next s t) xs

pub record Signed (s : List ℕ) (t : Token) (p k : ℕ) : Type 0 where
  pub kind : kind_number t.kind ≡ k
  pub place : t.start ≡ p
  pub wordless : is_kind word_kind t ≡ false

abbrev Same : Lexeme → Lexeme → Type 0
Same (word p w) (word q v) = (q ≡ p) × (v ≡ w)
Same (word p w) (sign q k) = ⊥
Same (sign p j) (word q v) = ⊥
Same (sign p j) (sign q k) = (q ≡ p) × (k ≡ j)

same : (x : Lexeme) → Same x x
same (word p w) = (refl, refl)
same (sign p k) = (refl, refl)

same-as : {x y : Lexeme} → x ≡ y → Same x y
same-as {x} {y} e = subst (Same x) e (same x)

worded : (s : List ℕ) (t : Token) (p : ℕ) (w : List ℕ) → word p w ≡ lexeme_of s t → (is_kind word_kind t ≡ true) × (t.start ≡ p) × (token_bytes s t ≡ w)
unfolding lexeme_of
worded s t p w e = go (is_kind word_kind t) refl (same-as e)
  where
    go : (b : Bool) → is_kind word_kind t ≡ b → Same (word p w) (cond b (word t.start (token_bytes s t)) (sign t.start (kind_number t.kind)))
        → (is_kind word_kind t ≡ true) × (t.start ≡ p) × (token_bytes s t ≡ w)
    go true f h = (f, h.0, h.1)
    go false f h = absurd h

signed : (s : List ℕ) (t : Token) (p k : ℕ) → sign p k ≡ lexeme_of s t → Signed s t p k
unfolding lexeme_of
signed s t p k e = go (is_kind word_kind t) refl (same-as e)
  where
    go : (b : Bool) → is_kind word_kind t ≡ b → Same (sign p k) (cond b (word t.start (token_bytes s t)) (sign t.start (kind_number t.kind))) → Signed s t p k
    go true f h = absurd h
    go false f h = record { kind = h.1; place = h.0; wordless = f }

pub as-word : {s : List ℕ} {t : Token} {p : ℕ} {w : List ℕ} {xs : List Lexeme} → View s t (word p w ∷ xs) → Worded s t p w xs
as-word {s} {t} {p} {w} (last h e k) = absurd (go (worded s t p w e))
  where
    go : (is_kind word_kind t ≡ true) × (t.start ≡ p) × (token_bytes s t ≡ w) → ⊥
    go q = let a = eqb-true (kind_number t.kind) word_kind q.0 in let b = eqb-true (kind_number t.kind) end_kind k in omega arith
as-word {s} {t} {p} {w} (step h e k v) =
    let q = worded s t p w e in record { within = h; kind = q.0; place = q.1; bytes = q.2; then = v }

pub as-sign : {s : List ℕ} {t : Token} {p k : ℕ} {xs : List Lexeme} → View s t (sign p k ∷ xs) → Signed s t p k
as-sign {s} {t} {p} {k} (last h e z) = signed s t p k e
as-sign {s} {t} {p} {k} (step h e z v) = signed s t p k e

pub after-sign : {s : List ℕ} {t : Token} {p k : ℕ} {xs : List Lexeme} → View s t (sign p k ∷ xs) → (k ≡ 0 → ⊥) → View s (next s t) xs
after-sign {s} {t} {p} {k} (last h e z) n = absurd (n (let a = (signed s t p k e).kind in let b = eqb-true (kind_number t.kind) end_kind z in omega arith))
after-sign (step h e z v) n = v

pub after-end : {s : List ℕ} {t : Token} {p : ℕ} {xs : List Lexeme} → View s t (sign p 0 ∷ xs) → xs ≡ []
after-end (last h e z) = refl
after-end {s} {t} {p} (step h e z v) = absurd (clash (eq-eqb (kind_number t.kind) end_kind (signed s t p 0 e).kind) z)

pub view-within : {s : List ℕ} {t : Token} {xs : List Lexeme} → View s t xs → Within (length s) 0 t
view-within (last h e k) = h
view-within (step h e k v) = h

pub name-length : (s : List ℕ) (t : Token) → Within (length s) 0 t → length (token_bytes s t) ≡ t.end - t.start
name-length s t w = length_part s t.start (t.end - t.start) (omega arith)
