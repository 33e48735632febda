-- The theorems.
use Rattle.std.specs.Prelude.{Option, Some, None}
use mathlib.Core.Path.{◌≡◌, refl, sym, ap, subst, ◌∙◌}
use mathlib.Core.Bool.{Bool, true, false}
use mathlib.Core.List.{List, [], ◌∷◌, ◌++◌, append-nil, append_assoc}
use Prim.Native.Nat.{ℕ, zero, suc, ◌+◌, ◌*◌, ◌-◌, ◌≤◌}
use native.Mathlib.Nat.{not-suc-le-zero}
use native.Mathlib.Omega.{arith}
use lib.ListN.{length}
use Rattle.octets.proofs.Bools.{choice, clash}
use Rattle.octets.specs.Tests.{◌or◌}
use Rattle.fmd_parse.specs.Claims.{LayoutFacts}
use Rattle.fmd_parse.proofs.Trees.{layout-facts}
use Rattle.fmd_lex.specs.Tokens.{end_kind, token_at}
use Rattle.fmd_lex.specs.Numbers.{number_in}
use Rattle.fmd_lex.specs.Names.{good_name}
use Rattle.fmd_lex.specs.declared.Token.{Token}
use Rattle.fmd_table.specs.declared.Section.{Section}
use Rattle.fmd_head.specs.Heads.{next, is_kind}
use Rattle.fmd_parse.specs.Layouts.{Layout, layout, refused, layout_of}
use Rattle.fmd_head.specs.declared.TextImage.{TextImage}
use Rattle.fmd_grammar.specs.Grammar.{Lexeme, word, lexeme_of, lexemes_from, lexemes_of, LayoutText, Derives}
use Rattle.fmd_grammar.specs.Claims.{Exact, Viable, NoText, First}
use Rattle.fmd_grammar.proofs.Parsers.{Got, no, ok, layout_p}
use Rattle.fmd_grammar.proofs.SameLists.{Whole, same_layout}
use Rattle.fmd_grammar.proofs.Complete.{number-digit, name-digit, layout-complete}
use Rattle.fmd_grammar.proofs.Good.{digital, Exchange, no_number, no_name, same, Stopped}
use Rattle.fmd_grammar.proofs.GoodLists.{plus}
use Rattle.fmd_grammar.proofs.GoodWhole.{layout-good}

items-few : (f : ℕ) (s : List ℕ) (t : Token) → length (lexemes_from f s t) ≤ f
unfolding lexemes_from
items-few zero s t = omega arith
items-few (suc f) s t =
    choice (λ (r : List Lexeme). length (lexeme_of s t ∷ r) ≤ suc f) (is_kind end_kind t) _ _ (λ e. omega arith)
    (λ e. let h = items-few f s (next s t) in omega arith)

few : (s : List ℕ) → 2 * length (lexemes_of s) ≤ 2 * length s + 2
unfolding lexemes_of
few s = let h = items-few (length s + 1) s (token_at s 0) in omega arith

whole-layout : (a : Layout) (i : TextImage) (l : List Section) → Whole a (ok (i, l) []) → a ≡ layout i l
whole-layout (layout j m) i l w = λ x. layout (w.0 x) (w.1 x)
whole-layout (refused n p) i l w = absurd w

complete : (s : List ℕ) {i : TextImage} {l : List Section} → Derives s i l → layout_of s ≡ layout i l
complete s {i} {l} d =
    whole-layout (layout_of s) i l (subst (Whole (layout_of s)) (layout-complete d (2 * length s + 2) (few s)) (same_layout s))

layout-ok : (a : Layout) (g : Got (TextImage × List Section)) (i : TextImage) (l : List Section) → a ≡ layout i l → Whole a g → g ≡ ok (i, l) []
layout-ok a g i l e w = go g (rw e at w)
  where
    go : (g : Got (TextImage × List Section)) → Whole (layout i l) g → g ≡ ok (i, l) []
    go (no m q) w = absurd w
    go (ok r us) w = λ x. ok (sym w.0 x, sym w.1 x) (w.2 x)

sound : (s : List ℕ) {i : TextImage} {l : List Section} → layout_of s ≡ layout i l → Derives s i l
sound s {i} {l} e =
    let f = 2 * length s + 2 in
    let t = (layout-good f).passes (lexemes_of s) (i, l) [] (layout-ok (layout_of s) (layout_p f (lexemes_of s)) i l e (same_layout s)) in
    subst (λ (ts : List Lexeme). LayoutText 128 8 ts i l) (sym (t.list ∙ append-nil t.own)) t.says

-- the reader accepts exactly what derives
pub exact : Exact
exact s i l = (λ e. sound s e, λ d. complete s d)

-- ---- the first fault

plus-sub : (f g : ℕ) → f ≤ g → plus f (g - f) ≡ g
plus-sub zero g h = omega arith
plus-sub (suc f) zero h = absurd (not-suc-le-zero h)
plus-sub (suc f) (suc g) h = ap suc (ap (plus f) (omega arith) ∙ plus-sub f g (omega arith))

-- a fault of the tokens is one of the text
whole-refused : (a : Layout) (n p : ℕ) → Whole a (no n p) → a ≡ refused n p
whole-refused (layout j m) n p w = absurd w
whole-refused (refused m q) n p w = λ x. refused (w.0 x) (w.1 x)

refused-no : (a : Layout) (g : Got (TextImage × List Section)) (n p : ℕ) → a ≡ refused n p → Whole a g → g ≡ no n p
refused-no a g n p e w = go g (rw e at w)
  where
    go : (g : Got (TextImage × List Section)) → Whole (refused n p) g → g ≡ no n p
    go (no m q) w = λ x. no (sym w.0 x) (sym w.1 x)
    go (ok r us) w = absurd w

some_number : (s : List ℕ) (n p : ℕ) → layout_of s ≡ refused n p → n ≡ 0 → ⊥
unfolding ◌or◌
some_number s n p e z = clash (rw z at (subst (LayoutFacts s) e (layout-facts s)).0) refl

stopped : (s : List ℕ) (n p : ℕ) → layout_of s ≡ refused n p → Stopped Viable (λ k. layout_p (plus (2 * length s + 2) k)) (lexemes_of s) n p
stopped s n p e =
    let f = 2 * length s + 2 in
    (layout-good f).stops (lexemes_of s) n p (refused-no (layout_of s) (layout_p f (lexemes_of s)) n p e (same_layout s)) (some_number s n p e)

module _ (s : List ℕ) (n p : ℕ) (e : layout_of s ≡ refused n p) where
  -- with any fuel that is enough
  always : (g : ℕ) → 2 * length s + 2 ≤ g → (xs : List Lexeme) → layout_p g ((stopped s n p e).own ++ ((stopped s n p e).it ∷ xs)) ≡ no n p
  always g h xs =
      let t = stopped s n p e in
      let f = 2 * length s + 2 in
      subst (λ (k : ℕ). layout_p k (t.own ++ (t.it ∷ xs)) ≡ no n p) (plus-sub f g h) (t.again (g - f) xs)

  lasting : (g : ℕ) → 2 * length s + 2 ≤ g → layout_p g (lexemes_of s) ≡ no n p
  lasting g h = let t = stopped s n p e in ap (layout_p g) t.list ∙ always g h t.rest

  never : (ts : List Lexeme) (i : TextImage) (l : List Section) → LayoutText 128 8 ((stopped s n p e).own ++ ((stopped s n p e).it ∷ ts)) i l → ⊥
  never ts i l d =
      let t = stopped s n p e in
      let g = 2 * length s + 2 + 2 * length (t.own ++ (t.it ∷ ts)) in
      same (sym (always g (omega arith) ts) ∙ layout-complete d g (omega arith))

  -- nor with another word that has the same fault there
  swapped : (w v : List ℕ) → (stopped s n p e).it ≡ word p w → digital w ≡ digital v → Exchange n v → NoText ((stopped s n p e).own ++ (word p v ∷ []))
  swapped w v z d c ts i l x =
      let t = stopped s n p e in
      let f = 2 * length s + 2 in
      let y = subst (λ (us : List Lexeme). LayoutText 128 8 us i l) (append_assoc t.own (word p v ∷ []) ts) x in
      let g = f + 2 * length (t.own ++ (word p v ∷ ts)) in
      let q = subst (λ (k : ℕ). layout_p k (t.own ++ (word p v ∷ ts)) ≡ no n p) (plus-sub f g (omega arith)) (t.swap w v z d c (g - f) ts) in
      same (sym q ∙ layout-complete y g (omega arith))

again : (s : List ℕ) (n p : ℕ) (e : layout_of s ≡ refused n p) (r : List ℕ) (ts : List Lexeme) → lexemes_of r ≡ (stopped s n p e).own ++
    ((stopped s n p e).it ∷ ts) → layout_of r ≡ refused n p
again s n p e r ts q = go (layout_of r) refl
  where
    go : (a : Layout) → layout_of r ≡ a → layout_of r ≡ refused n p
    go (layout i l) x = absurd (never s n p e ts i l (subst (λ (us : List Lexeme). LayoutText 128 8 us i l) q (sound r x)))
    go (refused m k) x =
        let g = 2 * length s + 2 + (2 * length r + 2) in
        let d = same (sym (lasting r m k x g (omega arith)) ∙ ap (layout_p g) q ∙ always s n p e g (omega arith) ts) in
        x ∙ (λ i. refused (d.0 i) (d.1 i))

-- a word that begins with a digit is no name
digit-unnamed : (v : List ℕ) → digital v ≡ true → good_name v ≡ false
digit-unnamed v b = go (good_name v) refl
  where
    go : (g : Bool) → good_name v ≡ g → g ≡ false
    go true e = absurd (clash b (name-digit v e))
    go false e = refl

-- and a name is no number
name-unnumbered : (v : List ℕ) → good_name v ≡ true → number_in v ≡ None
name-unnumbered v g = go (number_in v) refl
  where
    go : (m : Option ℕ) → number_in v ≡ m → m ≡ None
    go (Some m) e = absurd (clash (number-digit v e) (name-digit v g))
    go None e = refl

-- a refused text's fault is its first
pub first : First
first s n p e =
    let t = stopped s n p e in
    record {
      before = t.own;
      token = t.it;
      after = t.rest;
      tokens = t.list;
      place = t.place;
      viable = t.viable;
      fault = t.fault;
      digit = λ m w v z a b. swapped s n p e w v z (a ∙ sym b) (subst (λ (j : ℕ). Exchange j v) (sym m) (no_name (digit-unnamed v b)));
      letter = λ m w v z a g.
          swapped s n p e w v z (a ∙ sym (name-digit v g)) (subst (λ (j : ℕ). Exchange j v) (sym m) (no_number (name-unnumbered v g)));
      never = λ ts i l d. never s n p e ts i l (subst (λ (us : List Lexeme). LayoutText 128 8 us i l) (append_assoc t.own (t.it ∷ []) ts) d);
      always = again s n p e;
    }
