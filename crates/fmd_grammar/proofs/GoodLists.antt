-- The parsers of sections, of the image and of the whole are good.
use mathlib.Core.Path.{◌≡◌, refl, sym, ap, subst, ◌∙◌}
use mathlib.Core.List.{List, [], ◌∷◌, ◌++◌, append_assoc, append-nil}
use Prim.Native.Nat.{ℕ, zero, suc, ◌+◌, ◌≤◌}
use native.Mathlib.Omega.{arith}
use lib.ListN.{length, length-append}
use Rattle.fmd_table.specs.declared.Section.{Section}
use Rattle.fmd_grammar.specs.Grammar.{Lexeme, sign, SectionTree, no_braces, braces, SectionList, one, more}
use Rattle.fmd_grammar.proofs.Built.{Head}
use Rattle.fmd_grammar.proofs.Built.{section-of}
use Rattle.fmd_grammar.proofs.Parsers.{ret, head_p, section_p, list_p}
use Rattle.fmd_grammar.proofs.Good.{Good, map-good, ret-good, none-good, bind-good, sign-good}
use Rattle.fmd_grammar.proofs.GoodHeads.{HeadOn, head-good}

-- ---- sections

-- k more than f
abbrev pub plus : ℕ → ℕ → ℕ
plus zero k = k
plus (suc f) k = suc (plus f k)

-- within the limits, and within any wider ones
abbrev Always : (ℕ → ℕ → Type 0) → Type 0
Always P = (most deepest : ℕ) → 128 ≤ most → 8 ≤ deepest → P most deepest

abbrev pub SectionSays : ℕ → ℕ → List Section → List Lexeme → List Section → Type 0
SectionSays lv par l own m =
    (n : List Section) × (m ≡ l ++ n) × Always (λ most deepest. SectionTree most deepest lv par (length l) own n) × (length m ≤ 128)

abbrev pub SectionOn : ℕ → ℕ → ℕ → List Lexeme → Type 0
SectionOn lv par k own = (us : List Lexeme) × (n : List Section) × SectionTree 129 9 lv par k (own ++ us) n

abbrev pub ListSays : ℕ → ℕ → List Section → List Lexeme → List Section → Type 0
ListSays lv par l own m =
    (n : List Section) × (m ≡ l ++ n) × (b : ℕ) × (ts : List Lexeme) × (own ≡ ts ++ (sign b 125 ∷ []))
    × Always (λ most deepest. SectionList most deepest lv par (length l) ts n) × (length m ≤ 128)

abbrev pub ListOn : ℕ → ℕ → ℕ → List Lexeme → Type 0
ListOn lv par k own =
    (us : List Lexeme) × (b : ℕ) × (ts : List Lexeme) × (n : List Section) × (own ++ us ≡ ts ++ (sign b 125 ∷ [])) × SectionList 129 9 lv par k ts n

widen : {lv par k most deepest : ℕ} {own : List Lexeme} {h : Section} → Head 128 8 lv par k own h → 128 ≤ most → 8 ≤ deepest → Head most deepest lv par k own h
widen d a b =
    record {
      p = d.p;
      w = d.w;
      fs = d.fs;
      os = d.os;
      zs = d.zs;
      c = d.c;
      v = d.v;
      o = d.o;
      z = d.z;
      good = d.good;
      room = let r = d.room in omega arith;
      deep = let r = d.deep in omega arith;
      flags = d.flags;
      offsets = d.offsets;
      sizes = d.sizes;
      list = d.list;
      says = d.says;
    }

module _ {lv par : ℕ} (l : List Section) (own : List Lexeme) (h : Section) (d : Head 128 8 lv par (length l) own h) where
  one_more : length (l ++ (h ∷ [])) ≡ length l + 1
  one_more = length-append l (h ∷ [])

  leaf-says : SectionSays lv par l (own ++ []) (l ++ (h ∷ []))
  leaf-says = (h ∷ [], refl, λ m e x y. section-of (widen d x y) no_braces, let q = one_more in let r = d.room in omega arith)

  node-says : (a : ℕ) (us : List Lexeme) (m : List Section) → ListSays (lv + 1) (length l) (l ++ (h ∷ [])) us m → SectionSays lv par l
      (own ++ (sign a 123 ∷ us)) m
  node-says a us m s = (
    h ∷ s.0,
    s.1 ∙ append_assoc l (h ∷ []) s.0,
    λ most deepest x y.
        subst (λ (r : List Lexeme). SectionTree most deepest lv par (length l) (own ++ (sign a 123 ∷ r)) (h ∷ s.0)) (sym s.4)
        (section-of (widen d x y)
        (braces s.2 (subst (λ (j : ℕ). SectionList most deepest (lv + 1) (length l) j s.3 s.0) one_more (s.5 most deepest x y)))),
    s.6,
  )

  node-on : (a : ℕ) (us : List Lexeme) → ListOn (lv + 1) (length l) (length (l ++ (h ∷ []))) us → SectionOn lv par (length l) (own ++ (sign a 123 ∷ us))
  node-on a us s = (
    s.0,
    h ∷ s.3,
    subst (λ (r : List Lexeme). SectionTree 129 9 lv par (length l) r (h ∷ s.3))
        (ap (λ (r : List Lexeme). own ++ (sign a 123 ∷ r)) (sym s.4) ∙ sym (append_assoc own (sign a 123 ∷ us) s.0))
        (section-of (widen d (omega arith) (omega arith))
        (braces s.1 (subst (λ (j : ℕ). SectionList 129 9 (lv + 1) (length l) j s.2 s.3) one_more s.5))),
  )

module _ {lv par : ℕ} (l m : List Section) (own : List Lexeme) (s : SectionSays lv par l own m) where
  so-many : length m ≡ length l + length s.0
  so-many = ap length s.1 ∙ length-append l s.0

  more-says : (us : List Lexeme) (k : List Section) → ListSays lv par m us k → ListSays lv par l (own ++ us) k
  more-says us k t = (
    s.0 ++ t.0,
    t.1 ∙ ap (λ (r : List Section). r ++ t.0) s.1 ∙ append_assoc l s.0 t.0,
    t.2,
    own ++ t.3,
    ap (λ (r : List Lexeme). own ++ r) t.4 ∙ sym (append_assoc own t.3 (sign t.2 125 ∷ [])),
    λ most deepest x y.
        more (s.2 most deepest x y) (subst (λ (j : ℕ). SectionList most deepest lv par j t.3 t.0) so-many (t.5 most deepest x y)),
    t.6,
  )

  more-on : (us : List Lexeme) → ListOn lv par (length m) us → ListOn lv par (length l) (own ++ us)
  more-on us t = (
    t.0,
    t.1,
    own ++ t.2,
    s.0 ++ t.3,
    append_assoc own us t.0 ∙ ap (λ (r : List Lexeme). own ++ r) t.4 ∙ sym (append_assoc own t.2 (sign t.1 125 ∷ [])),
    more (s.2 129 9 (omega arith) (omega arith)) (subst (λ (j : ℕ). SectionList 129 9 lv par j t.2 t.3) so-many t.5),
  )

head-on : {lv par k : ℕ} (ts : List Lexeme) → HeadOn lv par k ts → SectionOn lv par k ts
head-on {lv} {par} {k} ts s =
    (s.0, s.1 ∷ [], subst (λ (r : List Lexeme). SectionTree 129 9 lv par k r (s.1 ∷ [])) (append-nil (ts ++ s.0)) (section-of s.2 no_braces))

section-on : {lv par k : ℕ} (ts : List Lexeme) → SectionOn lv par k ts → ListOn lv par k ts
section-on ts s = (s.0 ++ (sign 0 125 ∷ []), 0, ts ++ s.0, s.1, sym (append_assoc ts s.0 (sign 0 125 ∷ [])), one s.2)

mutual
  unfolding section_p list_p

  section-good : (f : ℕ) (lv par : ℕ) (l : List Section) → length l ≤ 128 → lv ≤ 9
      → Good (SectionSays lv par l) (SectionOn lv par (length l)) (section_p f lv par l) (λ k. section_p (plus f k) lv par l)
  section-good zero lv par l r d = none-good (λ k. section_p k lv par l)
  section-good (suc f) lv par l r d =
      bind-good {F = Head 128 8 lv par (length l)} (head_p lv par (length l)) (λ e. head_p lv par (length l)) _ _
      (map-good _ _ (λ ts x h. h) head-on (head-good lv par (length l) (omega arith) (omega arith)))
      (λ own h x.
      let n = one_more l own h x in
      let i = x.room in
      let j = x.deep in
      sign-good 123 (list_p f (lv + 1) (length l) (l ++ (h ∷ []))) (λ k. list_p (plus f k) (lv + 1) (length l) (l ++ (h ∷ []))) (ret (l ++ (h ∷ [])))
      (λ k. ret (l ++ (h ∷ [])))
      (λ a. map-good _ _ (node-says l own h x a) (node-on l own h x a) (list-good f (lv + 1) (length l) (l ++ (h ∷ [])) (omega arith) (omega arith)))
      (ret-good (l ++ (h ∷ [])) (leaf-says l own h x)))

  pub list-good : (f : ℕ) (lv par : ℕ) (l : List Section) → length l ≤ 128 → lv ≤ 9
      → Good (ListSays lv par l) (ListOn lv par (length l)) (list_p f lv par l) (λ k. list_p (plus f k) lv par l)
  list-good zero lv par l r d = none-good (λ k. list_p k lv par l)
  list-good (suc f) lv par l r d =
      bind-good {F = SectionSays lv par l} (section_p f lv par l) (λ k. section_p (plus f k) lv par l) _ _
      (map-good _ _ (λ ts x h. h) section-on (section-good f lv par l r d))
      (λ own m s.
      sign-good 125 (ret m) (λ k. ret m) (list_p f lv par m) (λ k. list_p (plus f k) lv par m)
      (λ b. ret-good m (s.0, s.1, b, own, refl, λ most deepest x y. one (s.2 most deepest x y), s.3))
      (map-good _ _ (more-says l m own s) (more-on l m own s) (list-good f lv par m s.3 d)))
