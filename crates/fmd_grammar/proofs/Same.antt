-- The readers of a text answer what the readers of its tokens do.
use Rattle.std.specs.Prelude.{None, Option, Some, Ok, Err}
use mathlib.Core.Path.{◌≡◌, refl, sym, ap, ◌∙◌}
use mathlib.Core.Bool.{Bool, true, false, cond, not}
use mathlib.Core.List.{List, [], ◌∷◌}
use Prim.Native.Nat.{ℕ, ◌-◌, ◌<◌}
use native.Mathlib.Omega.{arith}
use lib.Dec.{eqb, leb, ltb}
use lib.ListN.{length, get_or, drop}
use lib.Seq.{get_or-take, get_or-drop}
use borrow.Author.Tests.{eqb-true, ne_eqb}
use Rattle.octets.specs.Bytes.{part}
use Rattle.text_words.specs.Classes.{is_digit}
use Rattle.fmd_lex.specs.Tokens.{word_kind, token_bytes, kind_number}
use Rattle.fmd_lex.specs.Numbers.{number_in}
use Rattle.fmd_lex.specs.Names.{good_name, flag_of}
use Rattle.fmd_lex.specs.declared.Token.{Token}
use Rattle.fmd_lex.specs.declared.Flag.{Flag}
use Rattle.fmd_lex.specs.declared.Flag.TheVariants.{Cbfs, Preserve}
use Rattle.fmd_table.specs.declared.Section.{Section}
use Rattle.fmd_head.specs.Refusals.{number_of as refusal_number}
use Rattle.fmd_head.specs.Heads.{next, is_kind, counted, amount_at, onward, bare, named_at, set_offset, marked, mark_at, last_at, other_at, flags_at, ReadPart, read, refused_at}
use Rattle.fmd_head.specs.Heads.{with_offset, offset_at, with_size, size_at, head_at}
use Rattle.fmd_head.specs.declared.Refusal.TheVariants.{BadName, TooMany, BadFlag}
use Rattle.fmd_head.specs.Heads.{set_cbfs, set_preserve, set_size}
use Rattle.fmd_grammar.proofs.Built.{built}
use Rattle.fmd_grammar.specs.Grammar.{Lexeme, word, sign}
use Rattle.fmd_grammar.proofs.Views.{View, Worded, as-word, as-sign, after-sign, name-length}
use Rattle.fmd_grammar.proofs.Parsers.{Got, no, ok, Parser, stop, eat, leave, acted, item, ret, after, bind, is_it, valued, number_act, name_act}
use Rattle.fmd_grammar.proofs.Parsers.{flag_act, mark_act, size_act, last_p, other_p, flags_p, offset_p, head_p}

-- ---- one token

abbrev pub NotEmpty : List Lexeme → Type 0
NotEmpty [] = ⊥
NotEmpty (x ∷ xs) = Unit {0}

pub view-some : {s : List ℕ} {t : Token} {ts : List Lexeme} → View s t ts → NotEmpty ts
view-some (View.last h e k) = tt
view-some (View.step h e k v) = tt

abbrev pub Numbers : List ℕ → ReadPart ℕ → Got ℕ → Type 0
Numbers s (Ok got) (ok m us) = (got.0 ≡ m) × View s got.1 us
Numbers s (Ok got) (no m q) = ⊥
Numbers s (Err bad) (ok m us) = ⊥
Numbers s (Err bad) (no m q) = (refusal_number bad.refusal ≡ m) × (bad.place ≡ q)

abbrev pub Parts : List ℕ → ReadPart Section → Got Section → Type 0
Parts s (Ok got) (ok k us) = (got.0 ≡ k) × View s got.1 us
Parts s (Ok got) (no m q) = ⊥
Parts s (Err bad) (ok k us) = ⊥
Parts s (Err bad) (no m q) = (refusal_number bad.refusal ≡ m) × (bad.place ≡ q)

pub same_number : {s : List ℕ} {t : Token} (ts : List Lexeme) → View s t ts → Numbers s (amount_at s t) (item number_act ts)
unfolding amount_at
same_number [] v = absurd (view-some v)
same_number {s} {t} (sign p k ∷ xs) v = let a = as-sign v in rw a.wordless (refl, a.place)
same_number {s} {t} (word p w ∷ xs) v = let a = as-word v in rw (a.kind, a.bytes) (by_number a (number_in w))
  where
    by_number : Worded s t p w xs → (n : Option ℕ) → Numbers s (counted s t n) (acted (valued n eat) (word p w) xs)
    by_number a (Some n) = (refl, a.then)
    by_number a None = (refl, a.place)

same_flag : {s : List ℕ} {t : Token} {p : ℕ} {w : List ℕ} {xs : List Lexeme} → Worded s t p w xs → (b : Bool) (k : Section)
    → Parts s (cond b (refused_at BadFlag t.start) (read k (next s t))) (acted (cond b (stop 56) (eat k)) (word p w) xs)
same_flag a true k = (refl, a.place)
same_flag a false k = (refl, a.then)

same-mark : {s : List ℕ} {t : Token} (ts : List Lexeme) → View s t ts → (h : Section) → Parts s (mark_at s t h) (item (mark_act h) ts)
unfolding mark_at
same-mark [] v h = absurd (view-some v)
same-mark {s} {t} (sign p k ∷ xs) v h = let a = as-sign v in rw a.wordless (refl, a.place)
same-mark {s} {t} (word p w ∷ xs) v h = let a = as-word v in rw (a.kind, a.bytes) (by_flag a (flag_of w))
  where
    by_flag : Worded s t p w xs → (f : Option Flag) → Parts s (marked s t h f) (acted (flag_act h f) (word p w) xs)
    by_flag a (Some Cbfs) = same_flag a h.cbfs (set_cbfs h)
    by_flag a (Some Preserve) = same_flag a h.preserve (set_preserve h)
    by_flag a None = (refl, a.place)

first_byte : (s : List ℕ) (t : Token) → t.start < t.end → get_or (token_bytes s t) 0 0 ≡ get_or s t.start 0
unfolding part
first_byte s t h = get_or-take (t.end - t.start) (drop t.start s) 0 0 (omega arith) ∙ get_or-drop t.start s 0 0 ∙ ap (λ (i : ℕ). get_or s i 0) (omega arith)

same_size : {s : List ℕ} {t : Token} (ts : List Lexeme) → View s t ts → (h : Section) → Parts s (size_at s t h) (item (size_act h) ts)
unfolding size_at amount_at
same_size [] v h = absurd (view-some v)
same_size {s} {t} (sign p k ∷ xs) v h = let a = as-sign v in rw a.wordless (refl, v)
same_size {s} {t} (word p w ∷ xs) v h =
    let a = as-word v in
    let e : get_or s t.start 0 ≡ get_or w 0 0
    = sym (first_byte s t (a.within.filled (eqb-true (kind_number t.kind) word_kind a.kind))) ∙ ap (λ (r : List ℕ). get_or r 0 0) a.bytes in
    rw (a.kind, e, a.bytes) (by-digit a (is_digit (get_or w 0 0)) (number_in w))
  where
    by-digit : Worded s t p w xs → (b : Bool) (n : Option ℕ)
        → Parts s (cond b (with_size h (counted s t n)) (read h t)) (acted (cond b (valued n (λ m. eat (set_size m h))) (leave h)) (word p w) xs)
    by-digit a true (Some n) = (refl, a.then)
    by-digit a true None = (refl, a.place)
    by-digit a false n = (refl, v)

same_name : {s : List ℕ} {t : Token} (ts : List Lexeme) → View s t ts → (lv par n : ℕ) → Parts s (named_at s t lv par n) (item (name_act lv par n) ts)
unfolding named_at
same_name [] v lv par n = absurd (view-some v)
same_name {s} {t} (sign p k ∷ xs) v lv par n = let a = as-sign v in rw a.wordless (refl, a.place)
same_name {s} {t} (word p w ∷ xs) v lv par n =
    let a = as-word v in rw (a.kind, a.bytes) (by_rows a (good_name w) (leb 128 n) (ltb 8 lv))
  where
    by_rows : Worded s t p w xs → (b c d : Bool)
        → Parts s (cond (not b) (refused_at BadName t.start) (cond c (refused_at TooMany t.start) (cond d (refused_at TooMany t.start) (read (bare t lv par) (next s t)))))
        (acted (cond (not b) (stop 53) (cond c (stop 55) (cond d (stop 55) (eat (built p (length w) lv par false false None None)))))
        (word p w) xs)
    by_rows a false c d = (refl, a.place)
    by_rows a true true d = (refl, a.place)
    by_rows a true false true = (refl, a.place)
    by_rows a true false false =
        (λ i. built (a.place i) ((sym (name-length s t a.within) ∙ ap length a.bytes) i) lv par false false None None, a.then)

-- ---- signs, and one reader after another

pub same_sign : {A B : Type 0} (M : B → Got A → Type 0) {s : List ℕ} {t : Token} (k : ℕ) → (k ≡ 0 → ⊥) → (k ≡ 2 → ⊥) → (ts : List Lexeme) → View s t ts →
    (x y : B) (q r : Parser A)
    → ((xs : List Lexeme) → View s (next s t) xs → M x (q xs)) → M y (r ts) → M (cond (is_kind k t) x y) (bind (item (is_it k)) (λ b. cond b q r) ts)
same_sign M k n m [] v x y q r f g = absurd (view-some v)
same_sign M {t} k n m (word p w ∷ xs) v x y q r f g =
    let a = as-word v in rw (ne_eqb (kind_number t.kind) k (λ e. m (sym e ∙ eqb-true (kind_number t.kind) word_kind a.kind))) g
same_sign {A} {B} M {s} {t} k n m (sign p j ∷ xs) v x y q r f g = rw (as-sign v).kind (go (eqb j k) refl)
  where
    go : (b : Bool) → eqb j k ≡ b → M (cond b x y) (after (acted (cond b (eat true) (leave false)) (sign p j) xs) (λ c. cond c q r))
    go true e = f xs (after-sign v (λ z. n (sym (eqb-true j k e) ∙ z)))
    go false e = g

part_then : {s : List ℕ} (q : ReadPart Section) (g : Got Section) (f : Section → Token → ReadPart Section) (k : Section → Parser Section) → Parts s q g
    → ((h : Section) (u : Token) (us : List Lexeme) → View s u us → Parts s (f h u) (k h us)) → Parts s (onward q f) (after g k)
part_then {s} (Ok got) (ok i us) f k w c = rw w.0 (c i got.1 us w.1)
part_then (Ok got) (no m p) f k w c = absurd w
part_then (Err bad) (ok i us) f k w c = absurd w
part_then (Err bad) (no m q) f k w c = w

-- ---- a section's head

module _ {s : List ℕ} where
  same-last : {t : Token} (ts : List Lexeme) → View s t ts → (h : Section) → Parts s (last_at s t h) (last_p h ts)
  unfolding last_at last_p
  same-last {t} ts v h =
      same_sign (Parts s) 41 (λ z. omega arith) (λ z. omega arith) ts v _ _ (ret h) (item (mark_act h)) (λ xs w. (refl, w)) (same-mark ts v h)

  same-other : {t : Token} (ts : List Lexeme) → View s t ts → (h : Section) → Parts s (other_at s t h) (other_p h ts)
  unfolding other_at other_p
  same-other {t} ts v h =
      same_sign (Parts s) 41 (λ z. omega arith) (λ z. omega arith) ts v _ _ (ret h) (bind (item (mark_act h)) last_p) (λ xs w. (refl, w))
      (part_then (mark_at s t h) (item (mark_act h) ts) _ last_p (same-mark ts v h) (λ k u us w. same-last us w k))

  same_flags : {t : Token} (ts : List Lexeme) → View s t ts → (h : Section) → Parts s (flags_at s t h) (flags_p h ts)
  unfolding flags_at flags_p
  same_flags {t} ts v h =
      same_sign (Parts s) 40 (λ z. omega arith) (λ z. omega arith) ts v _ _ (bind (item (mark_act h)) other_p) (ret h)
      (λ xs w. part_then (mark_at s (next s t) h) (item (mark_act h) xs) _ other_p (same-mark xs w h) (λ k u us x. same-other us x k)) (refl, v)

  same-offset : {t : Token} (ts : List Lexeme) → View s t ts → (h : Section) → Parts s (offset_at s t h) (offset_p h ts)
  unfolding offset_at offset_p
  same-offset {t} ts v h =
      same_sign (Parts s) 64 (λ z. omega arith) (λ z. omega arith) ts v _ _ (bind (item number_act) (λ n. ret (set_offset n h))) (ret h)
      (λ xs w. go (amount_at s (next s t)) (item number_act xs) (same_number xs w)) (refl, v)
    where
      go : (m : ReadPart ℕ) (g : Got ℕ) → Numbers s m g → Parts s (with_offset h m) (after g (λ n. ret (set_offset n h)))
      go (Ok got) (ok k us) w = (ap (λ (i : ℕ). set_offset i h) w.0, w.1)
      go (Ok got) (no k p) w = absurd w
      go (Err bad) (ok k us) w = absurd w
      go (Err bad) (no k q) w = w

  pub same_head : {t : Token} (ts : List Lexeme) → View s t ts → (lv par n : ℕ) → Parts s (head_at s t lv par n) (head_p lv par n ts)
  unfolding head_at head_p
  same_head {t} ts v lv par n =
      part_then (named_at s t lv par n) (item (name_act lv par n) ts) _ (λ h. bind (flags_p h) (λ i. bind (offset_p i) (λ j. item (size_act j))))
      (same_name ts v lv par n)
      (λ h u us w. part_then (flags_at s u h) (flags_p h us) _ (λ i. bind (offset_p i) (λ j. item (size_act j))) (same_flags us w h)
      (λ i x xs y. part_then (offset_at s x i) (offset_p i xs) _ (λ j. item (size_act j)) (same-offset xs y i) (λ j z zs r. same_size zs r j)))
