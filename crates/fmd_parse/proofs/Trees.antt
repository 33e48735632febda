-- The faults of every text, and the sections of every text that is accepted: layout-facts.
use Rattle.std.specs.Prelude.{Ok, Err}
use mathlib.Core.Path.{◌≡◌, refl, sym, ap, ◌∙◌}
use mathlib.Core.Logic.{inl, inr}
use mathlib.Core.Bool.{Bool, true, false, not}
use mathlib.Core.List.{List, [], ◌∷◌, ◌++◌}
use Prim.Native.Nat.{ℕ, zero, suc, ◌+◌, ◌*◌, ◌-◌, ◌≤◌, ◌<◌}
use native.Mathlib.Nat.{not-suc-le-zero}
use native.Mathlib.Omega.{arith}
use lib.Dec.{ltb, leb}
use lib.ListN.{length, get_or, length-append, get_or-append}
use lib.Seq.{get_or-append_seam}
use borrow.Author.Tests.{ltb-true, ltb-false, leb-true, eqb-true}
use Rattle.octets.specs.Tests.{◌and◌, ◌or◌}
use Rattle.octets.proofs.Bools.{choice, not_f, and_l, and_r}
use Rattle.fmd_lex.specs.Tokens.{end_kind, word_kind, token_at, token_bytes, kind_number}
use Rattle.fmd_lex.specs.Names.{good_name}
use Rattle.fmd_lex.specs.declared.Token.{Token}
use Rattle.fmd_head.specs.Refusals.{number_of}
use Rattle.fmd_head.specs.Heads.{onward, next, is_kind, amount_at, head_at, ReadPart}
use Rattle.fmd_head.specs.Images.{title_at, with_address, address_at, with_length, length_at, open_at, image_at}
use Rattle.fmd_parse.specs.Layouts.{Parsed, fault, parsed, after_head, after_section, section_from, list_from, after_image, after_list, ended_by, layout_of}
use Rattle.fmd_parse.specs.Trees.{Named, blank_section, Under, Standing, Tree, AddressFits, Imaged}
use Rattle.fmd_parse.specs.Claims.{LayoutFacts}
use Rattle.fmd_table.specs.declared.Section.{Section}
use Rattle.fmd_head.specs.declared.TextFault.{TextFault}
use Rattle.fmd_head.specs.declared.TextImage.{TextImage}
use Rattle.fmd_parse.proofs.Kept.{From, token-from, from-earlier, own-from, Faulty, next-from, fault-here, name-here, AmountFrom, amount-from}
use Rattle.fmd_parse.proofs.Kept.{Headed, Heads, head-heads}

-- ---- a list that grows

pub record Grown (l m : List Section) : Type 0 where
  pub longer : length l < length m
  pub same : (k : ℕ) → k < length l → get_or m k blank_section ≡ get_or l k blank_section

grown-on : {l m n : List Section} → Grown l m → Grown m n → Grown l n
grown-on p q = record {
  longer = let a = p.longer in let b = q.longer in omega arith;
  same = λ k h. q.same k (let a = p.longer in omega arith) ∙ p.same
      k h;
}

under-grown : {l m : List Section} {lv par : ℕ} → Grown l m → Under l (length l) lv par → Under m (length m) lv par
under-grown g (inl x) = inl x
under-grown {l} {m} g (inr x) = inr (let a = g.longer in let b = x.0 in omega arith, rw (g.same _ x.0) x.1)

module _ {s : List ℕ} {lv par : ℕ} {l : List Section} {h : Section} (r : Tree s l) (d : Headed s lv par (length l) h) where
  m : List Section
  m = l ++ (h ∷ [])

  one_more : length m ≡ length l + 1
  unfolding m
  one_more = length-append l (h ∷ [])

  last : get_or m (length l) blank_section ≡ h
  unfolding m
  last = get_or-append_seam l h [] blank_section

  before : (k : ℕ) → k < length l → get_or m k blank_section ≡ get_or l k blank_section
  unfolding m
  before k q = get_or-append l (h ∷ []) blank_section k q

  pub push-grown : Grown l (l ++ (h ∷ []))
  unfolding m
  push-grown = record { longer = let e = one_more in omega arith; same = before }

  older : (k : ℕ) → k < length l → Standing s l k (get_or l k blank_section) → Standing s (l ++ (h ∷ [])) k (get_or (l ++ (h ∷ [])) k blank_section)
  unfolding m
  older k q t =
      rw (before k q) (record { named = t.named; low = t.low; high = t.high; under = up t.under })
    where
      up : {v p : ℕ} → Under l k v p → Under (l ++ (h ∷ [])) k v p
      up (inl x) = inl x
      up {v} {p} (inr x) = inr (x.0, rw (before p (let b = x.0 in omega arith)) x.1)

  pub push-tree : 1 ≤ lv → Under l (length l) lv par → Tree s (l ++ (h ∷ []))
  unfolding m
  push-tree o u = record { room = let e = one_more in let b = d.many in omega arith; each = λ k q. by_place k q (ltb k (length l)) refl }
    where
      up : Under l (length l) lv par → Under (l ++ (h ∷ [])) (length l) h.level h.parent
      up (inl x) = inl (d.level ∙ x.0, d.parent ∙ x.1)
      up (inr x) =
          inr (
            rw d.parent x.0,
            ap (λ (p : ℕ). (get_or (l ++ (h ∷ [])) p blank_section).level + 1) d.parent ∙ ap (λ (g : Section). g.level + 1) (before par x.0) ∙ x.1 ∙ sym
                d.level,
          )

      by_place : (k : ℕ) → k < length (l ++ (h ∷ [])) → (b : Bool) → ltb k (length l) ≡ b
          → Standing s (l ++ (h ∷ [])) k (get_or (l ++ (h ∷ [])) k blank_section)
      by_place k q true e = let x = ltb-true k (length l) e in older k x (r.each k x)
      by_place k q false e =
          let n = one_more in
          let x : k ≡ length l = omega (arith, ltb-false k (length l) e) in
          rw (x, last) (record { named = d.named; low = rw d.level o; high = rw d.level d.deep; under = up u })

-- h is the parent of what stands in its braces
under-push : {s : List ℕ} {lv par : ℕ} (l : List Section) {h : Section} → Headed s lv par (length l) h
    → Under (l ++ (h ∷ [])) (length (l ++ (h ∷ []))) (lv + 1) (length l)
under-push {s} {lv} {par} l {h} d =
    inr (omega (arith, length-append l (h ∷ [])), rw (get_or-append_seam l h [] blank_section, d.level))

-- ---- the two readers

abbrev Facts : List ℕ → List Section → ℕ → Parsed → Type 0
Facts s l a (fault n p) = Faulty s n p
Facts s l a (parsed m u) = From s a u × Tree s m × Grown l m

facts-on : (s : List ℕ) (l m : List Section) (a b : ℕ) (p : Parsed) → Grown l m → b ≤ a → Facts s m a p → Facts s l b p
facts-on s l m a b (fault n p) g o w = w
facts-on s l m a b (parsed k u) g o w = (from-earlier w.0 o, w.1, grown-on g w.2)

after-head : (s : List ℕ) (l : List Section) (a lv par : ℕ) (p : ReadPart Section) (f : Section → Token → Parsed) → Heads s a lv par (length l) p
    → ((h : Section) (u : Token) → From s a u → Headed s lv par (length l) h → Facts s l a (f h u)) → Facts s l a (after_head p f)
after-head s l a lv par (Err bad) f w g = w
after-head s l a lv par (Ok got) f w g = g got.0 got.1 w.0 w.1

after-section : (s : List ℕ) (l : List Section) (a : ℕ) (p : Parsed) (f : List Section → Token → Parsed) → Facts s l a p
    → ((m : List Section) (u : Token) → From s a u → Tree s m → Grown l m → Facts s l a (f m u)) → Facts s l a (after_section p f)
after-section s l a (fault n p) f w g = w
after-section s l a (parsed m u) f w g = g m u w.0 w.1 w.2

mutual
  unfolding section_from list_from

  section-facts : (f : ℕ) (s : List ℕ) (a : ℕ) (t : Token) (lv par : ℕ) (l : List Section) → 2 * (length s - t.start) < f → From s a t → 1 ≤ lv
      → Under l (length l) lv par → Tree s l → Facts s l (t.start + 1) (section_from f s t lv par l)
  section-facts zero s a t lv par l m w o x r = absurd (not-suc-le-zero m)
  section-facts (suc f) s a t lv par l m w o x r =
      after-head s l (t.start + 1) lv par (head_at s t lv par (length l)) _ (head-heads w lv par (length l))
      (λ h u v d.
      let n = l ++ (h ∷ []) in
      choice (Facts s l (t.start + 1)) (is_kind 123 u) _ _
      (λ e.
      let y = next-from v in
      facts-on s l n ((next s u).start + 1) (t.start + 1) (list_from f s (next s u) (lv + 1) (length l) n) (push-grown r d) (omega arith)
      (list-facts f s u.end (next s u) (lv + 1) (length l) n (omega arith) y (omega arith) (under-push l d) (push-tree r d o x)))
      (λ e. (v, push-tree r d o x, push-grown r d)))

  list-facts : (f : ℕ) (s : List ℕ) (a : ℕ) (t : Token) (lv par : ℕ) (l : List Section) → 2 * (length s - t.start) + 1 < f → From s a t → 1 ≤ lv
      → Under l (length l) lv par → Tree s l → Facts s l (t.start + 1) (list_from f s t lv par l)
  list-facts zero s a t lv par l m w o x r = absurd (not-suc-le-zero m)
  list-facts (suc f) s a t lv par l m w o x r =
      after-section s l (t.start + 1) (section_from f s t lv par l) _ (section-facts f s a t lv par l (omega arith) w o x r)
      (λ n u v y g.
      choice (Facts s l (t.start + 1)) (is_kind 125 u) _ _
      (λ e. (from-earlier (next-from v) (omega arith), y, g))
      (λ e.
      facts-on s l n (u.start + 1) (t.start + 1) (list_from f s u lv par n) g (omega arith)
      (list-facts f s (t.start + 1) u lv par n (omega arith) v o (under-grown g x) y)))

-- ---- the image

abbrev Titled : List ℕ → ReadPart TextImage → Type 0
Titled s (Ok got) = From s 0 got.1 × Named s got.0.place got.0.length × AddressFits got.0.address
Titled s (Err bad) = Faulty s (number_of bad.refusal) bad.place

abbrev Measured : List ℕ → ReadPart TextImage → Type 0
Measured s (Ok got) = From s 0 got.1 × Imaged s got.0
Measured s (Err bad) = Faulty s (number_of bad.refusal) bad.place

module _ {s : List ℕ} {a : ℕ} {t : Token} (w : From s a t) where
  title-facts : Titled s (title_at s t)
  unfolding title_at ◌or◌
  title-facts =
      choice (Titled s) (not (is_kind word_kind t)) _ _ (λ e. fault-here w 51 refl)
      (λ e. choice (Titled s) (not (good_name (token_bytes s t))) _ _ (λ f. fault-here w 53 refl)
      (λ f. (from-earlier (next-from w) (omega arith), name-here w (eqb-true (kind_number t.kind) word_kind (not_f (is_kind word_kind t) e)) (not_f _ f), tt)))

  module _ (i : TextImage) (d : Named s i.place i.length) (f : AddressFits i.address) where
    address-facts : Titled s (address_at s t i)
    unfolding address_at
    address-facts =
        choice (Titled s) (is_kind 64 t) _ _ (λ e. by-amount (amount_at s (next s t)) (amount-from (next-from w)))
        (λ e. (from-earlier (own-from w) (omega arith), d, f))
      where
        by-amount : (m : ReadPart ℕ) → AmountFrom s (next s t).end m → Titled s (with_address i m)
        by-amount (Ok got) v = (from-earlier v.0 (omega arith), d, v.1)
        by-amount (Err bad) v = v

    length-facts : Measured s (length_at s t i)
    unfolding length_at ◌or◌
    length-facts = by-amount (amount_at s t) (amount-from w)
      where
        by-amount : (m : ReadPart ℕ) → AmountFrom s t.end m → Measured s (with_length i t m)
        by-amount (Ok got) v =
            choice (Measured s) (leb 98 got.0 and leb got.0 16777216) _ _
            (λ e. (
              from-earlier v.0 (omega arith),
              record {
                named = d;
                address = f;
                low = leb-true 98 got.0 (and_l _ _ e);
                high = leb-true got.0 16777216
                    (and_r _ _ e);
              },
            ))
            (λ e. fault-here w 52 refl)
        by-amount (Err bad) v = v

  open-facts : (i : TextImage) → Imaged s i → Measured s (open_at s t i)
  unfolding open_at ◌or◌
  open-facts i d = choice (Measured s) (is_kind 123 t) _ _ (λ e. (from-earlier (next-from w) (omega arith), d)) (λ e. fault-here w 51 refl)

titled-on : (s : List ℕ) (P : ReadPart TextImage → Type 0) (p : ReadPart TextImage) (f : TextImage → Token → ReadPart TextImage) → Titled s p
    → ((b : TextFault) → Faulty s (number_of b.refusal) b.place → P (Err b))
    → ((i : TextImage) (u : Token) → From s 0 u → Named s i.place i.length → AddressFits i.address →
    P (f i u)) → P (onward p f)
titled-on s P (Ok got) f w k g = g got.0 got.1 w.0 w.1 w.2
titled-on s P (Err bad) f w k g = k bad w

measured-on : (s : List ℕ) (p : ReadPart TextImage) (f : TextImage → Token → ReadPart TextImage) → Measured s p
    → ((i : TextImage) (u : Token) → From s 0 u → Imaged s i → Measured s (f i u)) → Measured s (onward p f)
measured-on s (Ok got) f w g = g got.0 got.1 w.0 w.1
measured-on s (Err bad) f w g = w

image-facts : {s : List ℕ} {a : ℕ} {t : Token} → From s a t → Measured s (image_at s t)
unfolding image_at
image-facts {s} {a} {t} w =
    titled-on s (Measured s) (title_at s t) _ (title-facts w) (λ b f. f)
    (λ i u v d b. titled-on s (Measured s) (address_at s u i) _ (address-facts v i d b) (λ b f. f)
    (λ j x y e c. measured-on s (length_at s x j) _ (length-facts y j e c) (λ k z o q. open-facts o k q)))

-- ---- the whole text

-- every text: a fault has one of the five numbers and a place in the text or at its end; the sections of an accepted text are a tree
pub layout-facts : (s : List ℕ) → LayoutFacts s (layout_of s)
unfolding layout_of ◌or◌
layout-facts s = by-image (image_at s (token_at s 0)) (image-facts (token-from s 0 (omega arith)))
  where
    none : Tree s []
    none = record { room = omega arith; each = λ k q. absurd (not-suc-le-zero q) }

    by-list : (i : TextImage) (a : ℕ) → Imaged s i → (p : Parsed) → Facts s [] a p → LayoutFacts s (after_list p (ended_by i))
    by-list i a d (fault n p) w = w
    by-list i a d (parsed l u) w =
        choice (LayoutFacts s) (is_kind end_kind u) _ _ (λ e. (d, w.1, w.2.longer)) (λ e. fault-here w.0 51 refl)

    by-image : (p : ReadPart TextImage) → Measured s p → LayoutFacts s (after_image p (λ i t. after_list (list_from (2 * length s + 2) s t 1 128 []) (ended_by i)))
    by-image (Err bad) w = w
    by-image (Ok got) w =
        by-list got.0 (got.1.start + 1) w.1 (list_from (2 * length s + 2) s got.1 1 128 [])
        (list-facts (2 * length s + 2) s 0 got.1 1 128 [] (omega arith) w.0 (omega arith) (inl (refl, refl)) none)
