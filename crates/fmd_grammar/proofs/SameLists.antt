-- The readers of a text answer what the readers of its tokens do: sections, the image, the whole.
use Rattle.std.specs.Prelude.{None, Option, Some, Ok, Err}
use mathlib.Core.Path.{◌≡◌, refl, sym, ap, subst, ◌∙◌}
use mathlib.Core.Bool.{Bool, true, false, cond, not}
use mathlib.Core.List.{List, [], ◌∷◌, ◌++◌}
use Prim.Native.Nat.{ℕ, zero, suc, ◌+◌, ◌*◌, ◌-◌}
use native.Mathlib.Omega.{arith}
use lib.Dec.{eqb, leb}
use lib.ListN.{length}
use borrow.Author.Tests.{eqb-true, ne_eqb}
use Rattle.octets.specs.Tests.{◌and◌}
use Rattle.fmd_lex.specs.Tokens.{word_kind, token_at, kind_number}
use Rattle.fmd_lex.specs.Numbers.{number_in}
use Rattle.fmd_lex.specs.Names.{good_name}
use Rattle.fmd_lex.specs.declared.Token.{Token}
use Rattle.fmd_table.specs.declared.Section.{Section}
use Rattle.fmd_head.specs.Refusals.{number_of as refusal_number}
use Rattle.fmd_head.specs.Heads.{onward, next, is_kind, counted, amount_at, head_at, ReadPart, read, refused_at}
use Rattle.fmd_head.specs.Images.{title_at, set_address, with_address, address_at, set_length, with_length, length_at, open_at, image_at}
use Rattle.fmd_parse.specs.Layouts.{Parsed, fault, parsed, after_head, after_section, section_from, list_from}
use Rattle.fmd_parse.specs.Layouts.{Layout, layout, refused, after_image, after_list, ended_by, layout_of}
use Rattle.fmd_head.specs.declared.Refusal.TheVariants.{BadNumber, BadName}
use Rattle.fmd_head.specs.declared.TextImage.{TextImage}
use Rattle.fmd_grammar.specs.Grammar.{Lexeme, word, sign, lexemes_of}
use Rattle.fmd_grammar.proofs.Views.{View, view_of, Worded, as-word, as-sign, after-sign, after-end, name-length}
use Rattle.fmd_grammar.proofs.Parsers.{Got, no, ok, Parser, stop, eat, acted, item, ret, after, bind, valued, number_act, title_act, length_act}
use Rattle.fmd_grammar.proofs.Parsers.{must_be, head_p, section_p, list_p, address_p, image_p, layout_p}
use Rattle.fmd_grammar.proofs.Same.{view-some, Numbers, Parts, same_number, same_sign, same_head}

-- ---- sections

abbrev Listed : List ℕ → Parsed → Got (List Section) → Type 0
Listed s (parsed l u) (ok m us) = (l ≡ m) × View s u us
Listed s (parsed l u) (no m q) = ⊥
Listed s (fault n p) (ok m us) = ⊥
Listed s (fault n p) (no m q) = (n ≡ m) × (p ≡ q)

head-then : {s : List ℕ} (q : ReadPart Section) (g : Got Section) (f : Section → Token → Parsed) (k : Section → Parser (List Section)) → Parts s q g
    → ((h : Section) (u : Token) (us : List Lexeme) → View s u us → Listed s (f h u) (k h us)) → Listed s (after_head q f) (after g k)
head-then (Ok got) (ok i us) f k w c = rw w.0 (c i got.1 us w.1)
head-then (Ok got) (no m p) f k w c = absurd w
head-then (Err bad) (ok i us) f k w c = absurd w
head-then (Err bad) (no m q) f k w c = w

list-then : {s : List ℕ} (q : Parsed) (g : Got (List Section)) (f : List Section → Token → Parsed) (k : List Section → Parser (List Section)) → Listed s q g
    → ((h : List Section) (u : Token) (us : List Lexeme) → View s u us → Listed s (f h u) (k h us)) → Listed s (after_section q f) (after g k)
list-then (parsed h u) (ok i us) f k w c = rw w.0 (c i u us w.1)
list-then (parsed h u) (no m p) f k w c = absurd w
list-then (fault n p) (ok i us) f k w c = absurd w
list-then (fault n p) (no m q) f k w c = w

mutual
  unfolding section_from list_from section_p list_p

  same-section : (f : ℕ) {s : List ℕ} {t : Token} (ts : List Lexeme) → View s t ts → (lv par : ℕ) (l : List Section)
      → Listed s (section_from f s t lv par l) (section_p f lv par l ts)
  same-section zero ts v lv par l = (refl, refl)
  same-section (suc f) {s} {t} ts v lv par l =
      head-then (head_at s t lv par (length l)) (head_p lv par (length l) ts) _ _ (same_head ts v lv par (length l))
      (λ h u us w. same_sign (Listed s) 123 (λ z. omega arith) (λ z. omega arith) us w _ _ (list_p f (lv + 1) (length l) (l ++ (h ∷ []))) (ret (l ++ (h ∷ [])))
      (λ xs x. same-list f xs x (lv + 1) (length l) (l ++ (h ∷ []))) (refl, w))

  same-list : (f : ℕ) {s : List ℕ} {t : Token} (ts : List Lexeme) → View s t ts → (lv par : ℕ) (l : List Section)
      → Listed s (list_from f s t lv par l) (list_p f lv par l ts)
  same-list zero ts v lv par l = (refl, refl)
  same-list (suc f) {s} {t} ts v lv par l =
      list-then (section_from f s t lv par l) (section_p f lv par l ts) _ _ (same-section f ts v lv par l)
      (λ m u us w. same_sign (Listed s) 125 (λ z. omega arith) (λ z. omega arith) us w _ _ (ret m) (list_p f lv par m) (λ xs x. (refl, x))
      (same-list f us w lv par m))

-- ---- the image

abbrev Imaged : List ℕ → ReadPart TextImage → Got TextImage → Type 0
Imaged s (Ok got) (ok j us) = (got.0 ≡ j) × View s got.1 us
Imaged s (Ok got) (no m q) = ⊥
Imaged s (Err bad) (ok j us) = ⊥
Imaged s (Err bad) (no m q) = (refusal_number bad.refusal ≡ m) × (bad.place ≡ q)

image-then : {s : List ℕ} (q : ReadPart TextImage) (g : Got TextImage) (f : TextImage → Token → ReadPart TextImage) (k : TextImage → Parser TextImage) → Imaged s q g
    → ((i : TextImage) (u : Token) (us : List Lexeme) → View s u us → Imaged s (f i u) (k i us)) → Imaged s (onward q f) (after g k)
image-then (Ok got) (ok i us) f k w c = rw w.0 (c i got.1 us w.1)
image-then (Ok got) (no m p) f k w c = absurd w
image-then (Err bad) (ok i us) f k w c = absurd w
image-then (Err bad) (no m q) f k w c = w

abbrev pictured : ℕ → ℕ → TextImage
pictured p n = record { address = None; size = 0; place = p; length = n }

module _ {s : List ℕ} where
  same-title : {t : Token} (ts : List Lexeme) → View s t ts → Imaged s (title_at s t) (item title_act ts)
  unfolding title_at
  same-title [] v = absurd (view-some v)
  same-title {t} (sign p k ∷ xs) v = let a = as-sign v in rw a.wordless (refl, a.place)
  same-title {t} (word p w ∷ xs) v = let a = as-word v in rw (a.kind, a.bytes) (by_name a (good_name w))
    where
      by_name : Worded s t p w xs → (b : Bool)
          → Imaged s (cond (not b) (refused_at BadName t.start) (read (pictured t.start (t.end - t.start)) (next s t)))
          (acted (cond (not b) (stop 53) (eat (pictured p (length w)))) (word p w) xs)
      by_name a false = (refl, a.place)
      by_name a true = (λ i. pictured (a.place i) ((sym (name-length s t a.within) ∙ ap length a.bytes) i), a.then)

  same_address : {t : Token} (ts : List Lexeme) → View s t ts → (i : TextImage) → Imaged s (address_at s t i) (address_p i ts)
  unfolding address_at address_p
  same_address {t} ts v i =
      same_sign (Imaged s) 64 (λ z. omega arith) (λ z. omega arith) ts v _ _ (bind (item number_act) (λ n. ret (set_address n i))) (ret i)
      (λ xs w. go (amount_at s (next s t)) (item number_act xs) (same_number xs w)) (refl, v)
    where
      go : (m : ReadPart ℕ) (g : Got ℕ) → Numbers s m g → Imaged s (with_address i m) (after g (λ n. ret (set_address n i)))
      go (Ok got) (ok k us) w = (ap (λ (j : ℕ). set_address j i) w.0, w.1)
      go (Ok got) (no k p) w = absurd w
      go (Err bad) (ok k us) w = absurd w
      go (Err bad) (no k q) w = w

  same_length : {t : Token} (ts : List Lexeme) → View s t ts → (i : TextImage) → Imaged s (length_at s t i) (item (length_act i) ts)
  unfolding length_at amount_at
  same_length [] v i = absurd (view-some v)
  same_length {t} (sign p k ∷ xs) v i = let a = as-sign v in rw a.wordless (refl, a.place)
  same_length {t} (word p w ∷ xs) v i = let a = as-word v in rw (a.kind, a.bytes) (by_number a (number_in w))
    where
      in-range : Worded s t p w xs → (n : ℕ) (b : Bool)
          → Imaged s (cond b (read (set_length n i) (next s t)) (refused_at BadNumber t.start))
          (acted (cond b (eat (set_length n i)) (stop 52)) (word p w) xs)
      in-range a n true = (refl, a.then)
      in-range a n false = (refl, a.place)

      by_number : Worded s t p w xs → (n : Option ℕ)
          → Imaged s (with_length i t (counted s t n))
          (acted (valued n (λ m. cond (leb 98 m and leb m 16777216) (eat (set_length m i)) (stop 52))) (word p w) xs)
      by_number a (Some n) = in-range a n (leb 98 n and leb n 16777216)
      by_number a None = (refl, a.place)

  same-must : {A B : Type 0} (M : B → Got A → Type 0) {t : Token} (k : ℕ) → (k ≡ 2 → ⊥) → (ts : List Lexeme) → View s t ts → (x y : B) (a : A)
      → ((p : ℕ) (xs : List Lexeme) → View s t (sign p k ∷ xs) → M x (ok a xs)) → ((p : ℕ) → t.start ≡ p → M y (no 51 p)) → M (cond (is_kind k t) x y)
      (item (must_be k a) ts)
  same-must M k m [] v x y a f g = absurd (view-some v)
  same-must M {t} k m (word p w ∷ xs) v x y a f g =
      let b = as-word v in rw (ne_eqb (kind_number t.kind) k (λ e. m (sym e ∙ eqb-true (kind_number t.kind) word_kind b.kind))) (g p b.place)
  same-must M {t} k m (sign p j ∷ xs) v x y a f g = rw (as-sign v).kind (go (eqb j k) refl)
    where
      go : (b : Bool) → eqb j k ≡ b → M (cond b x y) (acted (cond b (eat a) (stop 51)) (sign p j) xs)
      go true e = f p xs (subst (λ (i : ℕ). View s t (sign p i ∷ xs)) (eqb-true j k e) v)
      go false e = g p (as-sign v).place

  same-image : {t : Token} (ts : List Lexeme) → View s t ts → Imaged s (image_at s t) (image_p ts)
  unfolding image_at image_p open_at
  same-image {t} ts v =
      image-then (title_at s t) (item title_act ts) _ (λ i. bind (address_p i) (λ j. bind (item (length_act j)) (λ k. item (must_be 123 k)))) (same-title ts v)
      (λ i u us w. image-then (address_at s u i) (address_p i us) _ (λ j. bind (item (length_act j)) (λ k. item (must_be 123 k))) (same_address us w i)
      (λ j x xs y. image-then (length_at s x j) (item (length_act j) xs) _ (λ k. item (must_be 123 k)) (same_length xs y j)
      (λ k z zs r. same-must (Imaged s) 123 (λ e. omega arith) zs r _ _ k (λ p os e. (refl, after-sign e (λ n. omega arith))) (λ p e. (refl, e)))))

-- ---- the whole text

abbrev pub Whole : Layout → Got (TextImage × List Section) → Type 0
Whole (layout i l) (ok r us) = (i ≡ r.0) × (l ≡ r.1) × (us ≡ [])
Whole (layout i l) (no m q) = ⊥
Whole (refused n p) (ok r us) = ⊥
Whole (refused n p) (no m q) = (n ≡ m) × (p ≡ q)

-- a text is answered as its tokens are
pub same_layout : (s : List ℕ) → Whole (layout_of s) (layout_p (2 * length s + 2) (lexemes_of s))
unfolding layout_of layout_p
same_layout s = by-image (image_at s (token_at s 0)) (image_p (lexemes_of s)) (same-image (lexemes_of s) (view_of s))
  where
    f : ℕ
    f = 2 * length s + 2

    by-list : (i j : TextImage) → i ≡ j → (q : Parsed) (g : Got (List Section)) → Listed s q g
        → Whole (after_list q (ended_by i)) (after g (λ l. item (must_be 0 (j, l))))
    by-list i j e (parsed l u) (ok m us) w =
        same-must (λ (a : Layout) (g : Got (TextImage × List Section)). Whole a g) 0 (λ z. omega arith) us w.1 _ _ (j, m) (λ p os x. (e, w.0, after-end x))
        (λ p x. (refl, x))
    by-list i j e (parsed l u) (no m p) w = absurd w
    by-list i j e (fault n p) (ok m us) w = absurd w
    by-list i j e (fault n p) (no m q) w = w

    by-image : (q : ReadPart TextImage) (g : Got TextImage) → Imaged s q g
        → Whole (after_image q (λ i t. after_list (list_from f s t 1 128 []) (ended_by i)))
        (after g (λ i. bind (list_p f 1 128 []) (λ l. item (must_be 0 (i, l)))))
    by-image (Ok got) (ok j us) w = by-list got.0 j w.0 (list_from f s got.1 1 128 []) (list_p f 1 128 [] us) (same-list f us w.1 1 128 [])
    by-image (Ok got) (no m p) w = absurd w
    by-image (Err bad) (ok i us) w = absurd w
    by-image (Err bad) (no m q) w = w
