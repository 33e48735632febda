-- What derives is read.
use Rattle.std.specs.Prelude.{Option, None, Some}
use mathlib.Core.Path.{◌≡◌, refl, ap, subst, ◌∙◌}
use mathlib.Core.Bool.{Bool, true, false, cond}
use mathlib.Core.List.{List, [], ◌∷◌, ◌++◌, append_assoc}
use Prim.Native.Nat.{ℕ, zero, suc, ◌+◌, ◌*◌, ◌-◌, ◌≤◌, ◌<◌}
use native.Mathlib.Nat.{not-suc-le-zero}
use native.Mathlib.Omega.{arith}
use lib.Dec.{eqb, leb, ltb}
use lib.ListN.{length, get_or, length-append}
use borrow.Author.Tests.{eqb-true, le-leb, lt-leb, le-ltb, ltb-true, ltb-false}
use Rattle.octets.specs.Tests.{◌and◌}
use Rattle.octets.specs.Bytes.{same}
use Rattle.octets.proofs.Bools.{choice, clash, and_i, and_r, not_t}
use Rattle.text_words.specs.Classes.{is_digit, digit_of}
use Rattle.text_words.specs.Numerals.{Begun, some_digits, numeral_of}
use Rattle.fmd_lex.specs.Numbers.{scaled_after, number_in}
use Rattle.fmd_lex.specs.Names.{good_name, flag_of}
use Rattle.fmd_table.specs.declared.ParentOffset.{ParentOffset}
use Rattle.fmd_table.specs.declared.Section.{Section}
use Rattle.fmd_head.specs.declared.TextImage.{TextImage}
use Rattle.fmd_grammar.specs.Grammar.{Lexeme, word, sign, OptionalFlags, no_flags, only_cbfs, only_preserve, cbfs_preserve, preserve_cbfs, OptionalOffset}
use Rattle.fmd_grammar.specs.Grammar.{no_offset, offset, OptionalSize, no_size, size, SectionTree, section, no_braces, braces, SectionList, one, more}
use Rattle.fmd_grammar.specs.Grammar.{OptionalAddress, no_address, address, LayoutText, image}
use Rattle.fmd_grammar.proofs.Built.{built}
use Rattle.fmd_grammar.proofs.Parsers.{ok, Parser, item, ret, bind, is_it, size_act, last_p, other_p, flags_p, offset_p, head_p, section_p, list_p, address_p}
use Rattle.fmd_grammar.proofs.Parsers.{image_p, layout_p}

-- ---- the first byte of a number, of a name

abbrev IsWrong : Option ℕ → Type 0
IsWrong None = Unit {0}
IsWrong (Some n) = ⊥

wrong-value : {n : ℕ} → None ≡ Some n → ⊥
wrong-value e = subst IsWrong e tt

digit-is : (b : ℕ) → ltb (digit_of b) 10 ≡ true → is_digit b ≡ true
unfolding digit_of is_digit
digit-is b =
    let P : ℕ → Type 0 = λ v. ltb v 10 ≡ true → (leb 48 b and leb b 57) ≡ true in
    choice P (ltb b 48) _ _ (λ e z. absurd (clash z refl))
    (λ e. choice P (ltb b 58) _ _ (λ f z. and_i _ _ (le-leb 48 b (ltb-false b 48 e)) (le-leb b 57 (let g = ltb-true b 58 f in omega arith)))
    (λ f. choice P (ltb b 65) _ _ (λ g z. absurd (clash z refl))
    (λ g. choice P (ltb b 71) _ _ (λ h z. absurd (let x = ltb-false b 65 g in let y = ltb-true (b - 55) 10 z in omega arith))
    (λ h. choice P (ltb b 97) _ _ (λ i z. absurd (clash z refl))
    (λ i. choice P (ltb b 103) _ _ (λ j z. absurd (let x = ltb-false b 97 i in let y = ltb-true (b - 87) 10 z in omega arith))
    (λ j z. absurd (clash z refl)))))))

pub number-digit : (w : List ℕ) {n : ℕ} → number_in w ≡ Some n → is_digit (get_or w 0 0) ≡ true
unfolding number_in numeral_of some_digits is_digit ◌and◌
number-digit [] e = absurd (wrong-value e)
number-digit (x ∷ xs) {n} e = go e
  where
    P : Begun → Type 0
    P v = scaled_after (x ∷ xs) v ≡ Some n → is_digit x ≡ true

    go : P (numeral_of 4294967295 (x ∷ xs))
    go =
        choice P (eqb x 48) _ _ (λ f z. rw (eqb-true x 48 f))
        (λ f. choice P (ltb (digit_of x) 10) _ _ (λ g z. digit-is x g) (λ g z. absurd (wrong-value z)))

pub name-digit : (w : List ℕ) → good_name w ≡ true → is_digit (get_or w 0 0) ≡ false
unfolding good_name
name-digit w e = not_t _ (and_r _ _ e)

-- ---- what may stand after a part

abbrev Lacks : ℕ → List Lexeme → Type 0
Lacks k [] = ⊥
Lacks k (word p w ∷ ts) = Unit {0}
Lacks k (sign p j ∷ ts) = eqb j k ≡ false

-- after a size
abbrev Ends : List Lexeme → Type 0
Ends [] = ⊥
Ends (word p w ∷ ts) = good_name w ≡ true
Ends (sign p k ∷ ts) = (eqb k 40 ≡ false) × (eqb k 64 ≡ false)

-- after a section
abbrev Stops : List Lexeme → Type 0
Stops [] = ⊥
Stops (word p w ∷ ts) = good_name w ≡ true
Stops (sign p k ∷ ts) = k ≡ 125

abbrev Starts : List Lexeme → Type 0
Starts [] = ⊥
Starts (word p w ∷ ts) = good_name w ≡ true
Starts (sign p k ∷ ts) = ⊥

stops-ends : (ts : List Lexeme) → Stops ts → Ends ts
stops-ends [] e = e
stops-ends (word p w ∷ ts) e = e
stops-ends (sign p k ∷ ts) e = (rw e, rw e)

stops-lack : (ts : List Lexeme) → Stops ts → Lacks 123 ts
stops-lack [] e = e
stops-lack (word p w ∷ ts) e = tt
stops-lack (sign p k ∷ ts) e = rw e

starts-stops : (ts : List Lexeme) → Starts ts → Stops ts
starts-stops [] e = e
starts-stops (word p w ∷ ts) e = e
starts-stops (sign p k ∷ ts) e = absurd e

starts-lack : (ts : List Lexeme) → Starts ts → Lacks 125 ts
starts-lack [] e = e
starts-lack (word p w ∷ ts) e = tt
starts-lack (sign p k ∷ ts) e = absurd e

ends_at : (ts : List Lexeme) → Ends ts → Lacks 64 ts
ends_at [] e = e
ends_at (word p w ∷ ts) e = tt
ends_at (sign p k ∷ ts) e = e.1

ends-left : (ts : List Lexeme) → Ends ts → Lacks 40 ts
ends-left [] e = e
ends-left (word p w ∷ ts) e = tt
ends-left (sign p k ∷ ts) e = e.0

sizes-at : {zs : List Lexeme} {z : Option ℕ} → OptionalSize zs z → (us : List Lexeme) → Ends us → Lacks 64 (zs ++ us)
sizes-at no_size us e = ends_at us e
sizes-at (size n) us e = tt

sizes-left : {zs : List Lexeme} {z : Option ℕ} → OptionalSize zs z → (us : List Lexeme) → Ends us → Lacks 40 (zs ++ us)
sizes-left no_size us e = ends-left us e
sizes-left (size n) us e = tt

offsets-left : {os : List Lexeme} {o : Option ParentOffset} → OptionalOffset os o → (us : List Lexeme) → Lacks 40 us → Lacks 40 (os ++ us)
offsets-left no_offset us e = e
offsets-left (offset n) us e = refl

-- ---- the parts

unsigned : {A : Type 0} (k : ℕ) (q r : Parser A) (ts : List Lexeme) → Lacks k ts → bind (item (is_it k)) (λ b. cond b q r) ts ≡ r ts
unsigned k q r [] e = absurd e
unsigned k q r (word p w ∷ ts) e = refl
unsigned k q r (sign p j ∷ ts) e = rw e

module _ (p n lv par : ℕ) where
  flags-complete : {fs : List Lexeme} {c v : Bool} → OptionalFlags fs c v → (us : List Lexeme) → Lacks 40 us
      → flags_p (built p n lv par false false None None) (fs ++ us) ≡ ok (built p n lv par c v None None) us
  unfolding flags_p other_p last_p flag_of same ◌and◌
  flags-complete no_flags us e = unsigned 40 _ _ us e
  flags-complete only_cbfs us e = refl
  flags-complete only_preserve us e = refl
  flags-complete cbfs_preserve us e = refl
  flags-complete preserve_cbfs us e = refl

  module _ (c v : Bool) where
    offset-complete : {os : List Lexeme} {o : Option ParentOffset} → OptionalOffset os o → (us : List Lexeme) → Lacks 64 us
        → offset_p (built p n lv par c v None None) (os ++ us) ≡ ok (built p n lv par c v o None) us
    unfolding offset_p
    offset-complete no_offset us e = unsigned 64 _ _ us e
    offset-complete (offset m) us e = rw m

    size-complete : (o : Option ParentOffset) {zs : List Lexeme} {z : Option ℕ} → OptionalSize zs z → (us : List Lexeme) → Ends us
        → item (size_act (built p n lv par c v o None)) (zs ++ us) ≡ ok (built p n lv par c v o z) us
    size-complete o no_size [] e = absurd e
    size-complete o no_size (word q w ∷ us) e = rw (name-digit w e)
    size-complete o no_size (sign q k ∷ us) e = refl
    size-complete o (size {w} m) us e = rw (number-digit w m, m)

head-complete : (lv par k p : ℕ) (w : List ℕ) {fs os zs : List Lexeme} {c v : Bool} {o : Option ParentOffset} {z : Option ℕ} → good_name w ≡ true → k < 128 → lv ≤ 8
    → OptionalFlags fs c v → OptionalOffset os o → OptionalSize zs z → (us : List Lexeme) → Ends us
    → head_p lv par k (word p w ∷ (fs ++ (os ++ (zs ++ us)))) ≡ ok (built p (length w) lv par c v o z) us
unfolding head_p
head-complete lv par k p w {fs} {os} {zs} {c} {v} {o} {z} g r d x y n us e =
    rw (
      g,
      lt-leb 128 k r,
      le-ltb 8 lv d,
      flags-complete p (length w) lv par x (os ++ (zs ++ us)) (offsets-left y (zs ++ us) (sizes-left n us e)),
      offset-complete p (length w) lv par c v y (zs ++ us) (sizes-at n us e),
      size-complete p (length w) lv par c v o n us e,
    )

-- ---- sections

lists-start : {lv par k : ℕ} {ts : List Lexeme} {m : List Section} → SectionList 128 8 lv par k ts m → (us : List Lexeme) → Starts (ts ++ us)
lists-start (one (section g r d x y n b)) us = g
lists-start (more (section g r d x y n b) q) us = g

regroup : (fs os zs bs us : List Lexeme) → (fs ++ (os ++ (zs ++ bs))) ++ us ≡ fs ++ (os ++ (zs ++ (bs ++ us)))
regroup fs os zs bs us =
    append_assoc fs (os ++ (zs ++ bs)) us
    ∙ ap (λ (r : List Lexeme). fs ++ r) (append_assoc os (zs ++ bs) us ∙ ap (λ (r : List Lexeme). os ++ r) (append_assoc zs bs us))

sections-some : {lv par k : ℕ} {ts : List Lexeme} {m : List Section} → SectionTree 128 8 lv par k ts m → 0 < length ts
sections-some (section g r d x y n b) = omega arith

list-one : (f lv par : ℕ) (l m : List Section) (ts us : List Lexeme) (b : ℕ) → section_p f lv par l ts ≡ ok m (sign b 125 ∷ us) → list_p (suc f) lv par l ts ≡
    ok m us
unfolding list_p
list-one f lv par l m ts us b e = rw e

list-more : (f lv par : ℕ) (l m : List Section) (ts us : List Lexeme) → Starts us → section_p f lv par l ts ≡ ok m us → list_p (suc f) lv par l ts ≡ list_p f
    lv par m us
unfolding list_p
list-more f lv par l m ts us s e = rw e (unsigned 125 _ _ us (starts-lack us s))

-- a section up to its braces
section-opens : (f : ℕ) (lv par k p : ℕ) (w : List ℕ) {fs os zs : List Lexeme} (bs : List Lexeme) {c v : Bool} {o : Option ParentOffset} {z : Option ℕ} → good_name w ≡ true →
    k < 128 → lv ≤ 8
    → OptionalFlags fs c v → OptionalOffset os o → OptionalSize zs z → (l : List Section) (us : List Lexeme) → length l ≡ k → Ends (bs ++ us)
    → section_p (suc f) lv par l ((word p w ∷ (fs ++ (os ++ (zs ++ bs)))) ++ us)
    ≡ bind (item (is_it 123))
    (λ b. cond b (list_p f (lv + 1) k (l ++ (built p (length w) lv par c v o z ∷ []))) (ret (l ++ (built p (length w) lv par c v o z ∷ [])))) (bs ++ us)
unfolding section_p
section-opens f lv par k p w {fs} {os} {zs} bs g r d x y n l us e i =
    ap (λ (ts : List Lexeme). section_p (suc f) lv par l (word p w ∷ ts)) (regroup fs os zs bs us)
    ∙ rw (e, head-complete lv par k p w g r d x y n (bs ++ us) i)

mutual
  section-complete : (f : ℕ) {lv par k : ℕ} {ts : List Lexeme} {m : List Section} → SectionTree 128 8 lv par k ts m → (l : List Section) (us : List Lexeme)
      → length l ≡ k
      → Stops us → 2 * length ts < f → section_p f lv par l (ts ++ us) ≡ ok (l ++ m) us
  section-complete zero d l us e o q = absurd (not-suc-le-zero q)
  section-complete (suc f) (section {level = lv} {parent = par} {before = k} {place = p} {name = w} g r d x y n no_braces) l us e s q =
      section-opens f lv par k p w [] g r d x y n l us e (stops-ends us s) ∙ unsigned 123 _ _ us (stops-lack us s)
  section-complete (suc f) (section {level = lv} {parent = par} {before = k} {place = p} {name = w} {fs} {os} {zs} {bs} {c} {p = v} {o} {z} {l = m} g r d x y n
      (braces {a} b {ts} i)) l us e s q =
      let h = built p (length w) lv par c v o z in
      section-opens f lv par k p w (sign a 123 ∷ (ts ++ (sign b 125 ∷ []))) g r d x y n l us e (refl, refl)
      ∙ ap (list_p f (lv + 1) k (l ++ (h ∷ []))) (append_assoc ts (sign b 125 ∷ []) us)
      ∙ list-complete f i (l ++ (h ∷ [])) us b (length-append l (h ∷ []) ∙ ap (λ (j : ℕ). j + 1) e)
      (let a1 = length-append fs (os ++ (zs ++ (sign a 123 ∷ (ts ++ (sign b 125 ∷ []))))) in
      let a2 = length-append os (zs ++ (sign a 123 ∷ (ts ++ (sign b 125 ∷ [])))) in
      let a3 = length-append zs (sign a 123 ∷ (ts ++ (sign b 125 ∷ []))) in
      let a4 = length-append ts (sign b 125 ∷ []) in
      omega arith)
      ∙ ap (λ (j : List Section). ok j us) (append_assoc l (h ∷ []) m)

  list-complete : (f : ℕ) {lv par k : ℕ} {ts : List Lexeme} {m : List Section} → SectionList 128 8 lv par k ts m → (l : List Section) (us : List Lexeme)
      (b : ℕ) → length l ≡ k
      → 2 * length ts + 1 < f → list_p f lv par l (ts ++ (sign b 125 ∷ us)) ≡ ok (l ++ m) us
  list-complete zero d l us b e q = absurd (not-suc-le-zero q)
  list-complete (suc f) (one {level = lv} {parent = par} {before = k} {ts} {l = m} d) l us b e q = list-one f lv par l (l ++ m) (ts ++ (sign b 125 ∷ us)) us
      b (section-complete f d l (sign b 125 ∷ us) e refl (omega arith))
  list-complete (suc f) (more {level = lv} {parent = par} {before = k} {ts} {us = vs} {l = n} {m} d i) l us b e q =
      let a1 = length-append ts vs in
      let a2 = sections-some d in
      ap (list_p (suc f) lv par l) (append_assoc ts vs (sign b 125 ∷ us))
      ∙ list-more f lv par l (l ++ n) (ts ++ (vs ++ (sign b 125 ∷ us))) (vs ++ (sign b 125 ∷ us)) (lists-start i (sign b 125 ∷ us))
      (section-complete f d l (vs ++ (sign b 125 ∷ us)) e (starts-stops (vs ++ (sign b 125 ∷ us)) (lists-start i (sign b 125 ∷ us))) (omega arith))
      ∙ list-complete f i (l ++ n) us b (length-append l n ∙ ap (λ (j : ℕ). j + length n) e) (omega arith)
      ∙ ap (λ (j : List Section). ok j us) (append_assoc l n m)

-- ---- the image, the whole

addresses-complete : {os : List Lexeme} {d : Option ℕ} (p n : ℕ) → OptionalAddress os d → (us : List Lexeme) → Lacks 64 us
    → address_p (record { address = None; size = 0; place = p; length = n }) (os ++ us) ≡ ok (record { address = d; size = 0; place = p; length = n }) us
unfolding address_p
addresses-complete p n no_address us e = unsigned 64 _ _ us e
addresses-complete p n (address m) us e = rw m

image-complete : {os : List Lexeme} {d : Option ℕ} (p n q a : ℕ) (w v : List ℕ) → good_name w ≡ true → OptionalAddress os d → number_in v ≡ Some n → 98 ≤ n →
    n ≤ 16777216
    → (us : List Lexeme) → image_p (word p w ∷ (os ++ (word q v ∷ sign a 123 ∷ us))) ≡ ok (record { address = d; size = n; place = p; length = length w }) us
unfolding image_p
image-complete p n q a w v g o m i j us =
    rw (g, addresses-complete p (length w) o (word q v ∷ sign a 123 ∷ us) tt, m, and_i _ _ (le-leb 98 n i) (le-leb n 16777216 j))

pub layout-complete : {ts : List Lexeme} {i : TextImage} {l : List Section} → LayoutText 128 8 ts i l → (f : ℕ) → 2 * length ts ≤ f
    → layout_p f ts ≡ ok (i, l) []
unfolding layout_p
layout-complete (image {place = p} {n} q a b c {name = w} v {os} {ts} g o m x y d) f h =
    rw (
      image-complete p n q a w v g o m x y (ts ++ (sign b 125 ∷ sign c 0 ∷ [])),
      list-complete f d [] (sign c 0 ∷ []) b refl
          (let a1 = length-append os (word q v ∷ sign a 123 ∷ (ts ++ (sign b 125 ∷ sign c 0 ∷ []))) in
          let a2 = length-append ts (sign b 125 ∷ sign c 0 ∷ []) in
          omega arith),
    )
