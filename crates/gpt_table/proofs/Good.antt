-- Laws of the table's rules, over what is read of used entries and put in order.
use mathlib.Core.Path.{◌≡◌, refl, sym, ap, ap₂, subst, ◌∙◌}
use mathlib.Core.Logic.{◌⊎◌, inl, inr, ⊎_elim}
use mathlib.Core.Bool.{Bool, true, false, not}
use mathlib.Core.List.{List, [], ◌∷◌, map}
use Prim.Native.Nat.{ℕ, zero, suc, ◌+◌, ◌≤◌, ◌<◌, suc-le-suc}
use native.Mathlib.Nat.{zero-lt-suc}
use native.Mathlib.Omega.{arith}
use lib.Dec.{eqb, ltb}
use lib.ListN.{length, get_or, length-map}
use borrow.Author.Tests.{leb-true, eqb-true, eq-eqb, ne_eqb, lt-ltb, le-ltb, ltb-true, ltb-false}
use Rattle.std.specs.List.{IsAllAdjacentAnswer}
use Rattle.std.specs.List.Sorted.{IsNonDecreasingBy, IsPermutation}
use Rattle.std.proofs.lemmas.List.Sorted.{IsPermutation-map, All-permutation}
use Rattle.octets.specs.Tests.{◌and◌, ◌or◌, all, any, pairs}
use Rattle.octets.specs.Bytes.{unle, is_zero, same}
use Rattle.octets.proofs.Bools.{and_l, and_r, and_i, bool_cases, eq-from, clash}
use Rattle.octets.proofs.Tests.{pairs-get, pairs-make, all-get, get_d_map}
use Rattle.octets.proofs.Equal.{same_true, same_refl, field-same}
use Rattle.gpt_model.specs.Table.{BlockRange, no_blocks, spans, range_of, bounded, apart, unique_of, first_of, last_of, unused, entry_ok, pair_ok}
use Rattle.gpt_model.specs.Table.{entries, good_table}
use Rattle.gpt_model.proofs.Entries.{range-used, pair-make}
use Rattle.gpt_table.specs.Invariants.{Whole, good_entries, used, differ, guid_of, range_in, blocks_of, NoneEmpty, InOrder}
use Rattle.gpt_table.specs.declared.order.Range.{Range}
use Rattle.gpt_table.proofs.Used.{used-yes, used-no, used-each}
use Rattle.gpt_table.proofs.Permuted.{any-permuted, pairs-permuted}

-- ---- one entry

module _ (first last : ℕ) (e : List ℕ) where
  module _ (u : unused e ≡ false) where
    ok-used : entry_ok first last e ≡ (not (is_zero (unique_of e)) and bounded first last (spans (first_of e) (last_of e)))
    unfolding entry_ok ◌or◌
    ok-used = rw u (ap (λ (s : BlockRange). not (is_zero (unique_of e)) and bounded first last s) (range-used e u))

    pub ok-unique : is_zero (unique_of e) ≡ true → entry_ok first last e ≡ false
    unfolding ◌and◌
    ok-unique w = ok-used ∙ rw w

    pub ok-range : is_zero (unique_of e) ≡ false → entry_ok first last e ≡ bounded first last (spans (first_of e) (last_of e))
    unfolding ◌and◌
    ok-range w = ok-used ∙ rw w

ok-bounded : (first last : ℕ) (e : List ℕ) → unused e ≡ false → entry_ok first last e ≡ true → bounded first last (range_of e) ≡ true
unfolding entry_ok ◌or◌
ok-bounded first last e u h = and_r _ _ (rw u at h)

-- ---- GUIDs as numbers

module _ (e d : List ℕ) (we : Whole e) (wd : Whole d) where
  same_number : same (unique_of e) (unique_of d) ≡ eqb (guid_of e) (guid_of d)
  same_number = eq-from _ _ (λ h. eq-eqb _ _ (ap unle (same_true _ _ h))) back
    where
      back : eqb (guid_of e) (guid_of d) ≡ true → same (unique_of e) (unique_of d) ≡ true
      back h =
          let q = field-same 16 16 e d (omega (arith, we.0)) (omega (arith, wd.0)) (λ j k. we.1 j) (λ j k. wd.1 j) (eqb-true _ _ h) in
          subst (λ (r : List ℕ). same (unique_of e) r ≡ true) q (same_refl (unique_of e))

abbrev other : ℕ → ℕ → Bool
other a b = not (eqb a b)

other-both : (a b : ℕ) → other a b ≡ other b a
other-both a b = ap not (eq-from _ _ (λ h. eq-eqb b a (sym (eqb-true a b h))) (λ h. eq-eqb a b (sym (eqb-true b a h))))

abbrev Each : List (List ℕ) → Type 0
Each es = (i : ℕ) → i < length es → Whole (get_or es i [])

all-numbered : (e : List ℕ) → Whole e → (es : List (List ℕ)) → Each es → all (differ e) es ≡ all (other (guid_of e)) (map guid_of es)
all-numbered e w [] f = refl
all-numbered e w (d ∷ es) f =
    ap₂ (λ (a b : Bool). a and b) (ap not (same_number e d w (f zero (zero-lt-suc _)))) (all-numbered e w es (λ i h. f (suc i) (suc-le-suc h)))

pub pairs-numbered : (es : List (List ℕ)) → Each es → pairs differ es ≡ pairs other (map guid_of es)
pairs-numbered [] f = refl
pairs-numbered (e ∷ es) f =
    ap₂ (λ (a b : Bool). a and b) (all-numbered e (f zero (zero-lt-suc _)) es (λ i h. f (suc i) (suc-le-suc h)))
    (pairs-numbered es (λ i h. f (suc i) (suc-le-suc h)))

-- numbers in order differ where each is below the next
module _ (gs : List ℕ) (up : IsNonDecreasingBy (λ x. x) gs) where
  rising : (r : Bool) → IsAllAdjacentAnswer (λ x y b. b ≡ ltb x y) gs r → r ≡ pairs other gs
  rising true w =
      sym (pairs-make other gs 0
      (λ i j h k.
      let below : get_or gs i 0 < get_or gs (i + 1) 0 = ltb-true _ _ (sym (w i 0 (omega arith))) in
      let far = up (i + 1) j 0 (omega arith) k in
      ap not (ne_eqb _ _ (λ e. omega arith))))
  rising false (k, h, w) = ⊎_elim (λ q. absurd (go q)) (λ q. sym q) (bool_cases (pairs other gs))
    where
      go : pairs other gs ≡ true → ⊥
      go q =
          let here = up k (k + 1) 0 (omega arith) h in
          let not-below : get_or gs (k + 1) 0 ≤ get_or gs k 0 = ltb-false _ _ (sym (w 0)) in
          clash (pairs-get other gs 0 q k (k + 1) (omega arith) h) (ap not (eq-eqb _ _ (omega arith)))

pub guids-in_order : (es : List (List ℕ)) → Each es → (gs : List ℕ) → IsPermutation (map guid_of es) gs
    → IsNonDecreasingBy (λ x. x) gs → (r : Bool) → IsAllAdjacentAnswer (λ x y b. b ≡ ltb x y) gs r
    → r ≡ pairs differ es
guids-in_order es each gs same up r w =
    rising gs up r w ∙ sym (pairs-permuted other other-both (map guid_of es) gs same) ∙ sym (pairs-numbered es each)

-- ---- ranges in order

module _ (a b f l : ℕ) where
  apart-before : b < f → apart (spans a b) (spans f l) ≡ true
  unfolding apart ◌or◌
  apart-before h = rw (lt-ltb b f h)

  apart-behind : f ≤ b → apart (spans a b) (spans f l) ≡ ltb l a
  unfolding apart ◌or◌
  apart-behind h = rw (le-ltb b f h)

-- ---- the whole table

beside_first : (e d : List ℕ) → unused e ≡ true → pair_ok e d ≡ true
beside_first e d q = pair-make e d (λ a b. absurd (clash q a))

beside-second : (e d : List ℕ) → unused d ≡ true → pair_ok e d ≡ true
beside-second e d q = pair-make e d (λ a b. absurd (clash q b))

all_first : (e : List ℕ) (es : List (List ℕ)) → unused e ≡ true → all (pair_ok e) es ≡ true
all_first e [] q = refl
all_first e (d ∷ es) q = and_i _ _ (beside_first e d q) (all_first e es q)

all-used : (e : List ℕ) (es : List (List ℕ)) → all (pair_ok e) (used es) ≡ all (pair_ok e) es
unfolding ◌and◌
all-used e [] = refl
all-used e (d ∷ es) = go (bool_cases (unused d)) (all-used e es)
  where
    go : (unused d ≡ true) ⊎ (unused d ≡ false) → all (pair_ok e) (used es) ≡ all (pair_ok e) es
        → all (pair_ok e) (used (d ∷ es)) ≡ (pair_ok e d and all (pair_ok e) es)
    go (inl q) ih = ap (all (pair_ok e)) (used-no d es q) ∙ ih ∙ sym (rw (beside-second e d q))
    go (inr q) ih = ap (all (pair_ok e)) (used-yes d es q) ∙ ap (λ (b : Bool). pair_ok e d and b) ih

pairs-used : (es : List (List ℕ)) → pairs pair_ok (used es) ≡ pairs pair_ok es
unfolding ◌and◌
pairs-used [] = refl
pairs-used (e ∷ es) = go (bool_cases (unused e)) (pairs-used es)
  where
    go : (unused e ≡ true) ⊎ (unused e ≡ false) → pairs pair_ok (used es) ≡ pairs pair_ok es
        → pairs pair_ok (used (e ∷ es)) ≡ (all (pair_ok e) es and pairs pair_ok es)
    go (inl q) ih = ap (pairs pair_ok) (used-no e es q) ∙ ih ∙ sym (rw (all_first e es q))
    go (inr q) ih = ap (pairs pair_ok) (used-yes e es q) ∙ ap₂ ◌and◌ (all-used e es) ih

beside-both : (e d : List ℕ) → unused e ≡ false → unused d ≡ false → pair_ok e d ≡ (differ e d and apart (range_of e) (range_of d))
unfolding pair_ok ◌or◌
beside-both e d p q = rw (p, q)

-- of used entries: the GUIDs by themselves, the ranges by themselves
module _ (es : List (List ℕ)) (each : (i : ℕ) → i < length es → unused (get_or es i []) ≡ false) where
  slot_at : (i : ℕ) → i < length es → get_or (map range_of es) i no_blocks ≡ range_of (get_or es i [])
  slot_at i h = get_d_map range_of es i no_blocks [] h

  at : (i j : ℕ) → i < j → j < length es
      → pair_ok (get_or es i []) (get_or es j [])
      ≡ (differ (get_or es i []) (get_or es j []) and apart (get_or (map range_of es) i no_blocks) (get_or (map range_of es) j no_blocks))
  at i j h k =
      beside-both _ _ (each i (omega arith)) (each j k)
      ∙ ap (λ (b : Bool). differ (get_or es i []) (get_or es j []) and b) (sym (ap₂ apart (slot_at i (omega arith)) (slot_at j k)))

  pairs-split : pairs pair_ok es ≡ (pairs differ es and pairs apart (map range_of es))
  pairs-split = eq-from _ _ forth back
    where
      forth : pairs pair_ok es ≡ true → (pairs differ es and pairs apart (map range_of es)) ≡ true
      forth h =
          and_i _ _ (pairs-make differ es [] (λ i j p q. and_l _ _ (sym (at i j p q) ∙ pairs-get pair_ok es [] h i j p q)))
          (pairs-make apart (map range_of es) no_blocks
          (λ i j p q. let q' : j < length es = omega (arith, length-map es range_of) in and_r _ _ (sym (at i j p q') ∙ pairs-get pair_ok es [] h i j p q')))

      back : (pairs differ es and pairs apart (map range_of es)) ≡ true → pairs pair_ok es ≡ true
      back h =
          pairs-make pair_ok es []
          (λ i j p q.
          at i j p q
          ∙ and_i _ _ (pairs-get differ es [] (and_l _ _ h) i j p q)
          (pairs-get apart (map range_of es) no_blocks (and_r _ _ h) i j p (omega (arith, length-map es range_of))))

or-both : (a b : Bool) → (a or b) ≡ (b or a)
unfolding ◌or◌
or-both true true = refl
or-both true false = refl
or-both false true = refl
or-both false false = refl

apart-both : (s u : BlockRange) → apart s u ≡ apart u s
unfolding apart
apart-both no_blocks no_blocks = refl
apart-both no_blocks (spans g m) = refl
apart-both (spans f l) no_blocks = refl
apart-both (spans f l) (spans g m) = or-both (ltb l g) (ltb m f)

abbrev none_range : Range
none_range = record { first = record { 0 = 0 }; last = record { 0 = 0 } }

blocks-in : (es : List (List ℕ)) → ((i : ℕ) → i < length es → unused (get_or es i []) ≡ false) → map blocks_of (map range_in es) ≡ map range_of es
blocks-in [] f = refl
blocks-in (e ∷ es) f = ap₂ (λ s l. s ∷ l) (sym (range-used e (f zero (zero-lt-suc _)))) (blocks-in es (λ i h. f (suc i) (suc-le-suc h)))

each-used : (t : List (List ℕ)) (i : ℕ) → i < length (used t) → unused (get_or (used t) i []) ≡ false
each-used t i h = (used-each (λ e. ℕ) t (λ j k. 0) i h).0

-- ranges that ascend share no block where each ends before the next begins
module _ (rs : List Range) (up : IsNonDecreasingBy (λ r. r.first.0) rs) (proper : (k : ℕ) → k < length rs → (get_or rs k none_range).first.0 ≤ (get_or rs k none_range).last.0) where
  block_at : (k : ℕ) → k < length rs → get_or (map blocks_of rs) k no_blocks ≡ blocks_of (get_or rs k none_range)
  block_at k h = get_d_map blocks_of rs k no_blocks none_range h

  apart_in : (r : Bool) → IsAllAdjacentAnswer (λ x y b. b ≡ ltb x.last.0 y.first.0) rs r → r ≡ pairs apart (map blocks_of rs)
  apart_in true w =
      sym (pairs-make apart (map blocks_of rs) no_blocks
      (λ i j h k.
      let k' : j < length rs = omega (arith, length-map rs blocks_of) in
      let below : (get_or rs i none_range).last.0 < (get_or rs (i + 1) none_range).first.0 = ltb-true _ _ (sym (w i none_range (omega arith))) in
      let far = up (i + 1) j none_range (omega arith) k' in
      ap₂ apart (block_at i (omega arith)) (block_at j k') ∙ apart-before _ _ _ _ (omega arith)))
  apart_in false (k, h, w) = ⊎_elim (λ q. absurd (go q)) (λ q. sym q) (bool_cases (pairs apart (map blocks_of rs)))
    where
      not-apart : apart (get_or (map blocks_of rs) k no_blocks) (get_or (map blocks_of rs) (k + 1) no_blocks) ≡ false
      not-apart =
          let here = up k (k + 1) none_range (omega arith) h in
          let own = proper (k + 1) h in
          ap₂ apart (block_at k (omega arith)) (block_at (k + 1) h) ∙ apart-behind _ _ _ _ (ltb-false _ _ (sym (w none_range)))
          ∙ le-ltb _ _ (omega arith)

      go : pairs apart (map blocks_of rs) ≡ true → ⊥
      go q = clash (pairs-get apart (map blocks_of rs) no_blocks q k (k + 1) (omega arith) (omega (arith, length-map rs blocks_of))) not-apart

proper-in : (es : List (List ℕ)) → NoneEmpty es → (rs : List Range) → IsPermutation (map range_in es) rs → (k : ℕ) → k < length rs
    → (get_or rs k none_range).first.0 ≤ (get_or rs k none_range).last.0
proper-in es f rs same k h = All-permutation (λ r. r.first.0 ≤ r.last.0) (map range_in es) rs same start k none_range h
  where
    start : (i : ℕ) (d : Range) → i < length (map range_in es) → (get_or (map range_in es) i d).first.0 ≤ (get_or (map range_in es) i d).last.0
    start i d z =
        let z' : i < length es = omega (arith, length-map es range_in) in
        subst (λ (r : Range). r.first.0 ≤ r.last.0) (sym (get_d_map range_in es i d [] z')) (f i z')

pub ranges-in_order : (t : List (List ℕ)) → NoneEmpty (used t) → {rs : List Range} → InOrder t rs → (r : Bool)
    → IsAllAdjacentAnswer (λ x y b. b ≡ ltb x.last.0 y.first.0) rs r → r ≡ pairs apart (map range_of (used t))
ranges-in_order t f {rs} w r a =
    apart_in rs w.ascending (proper-in (used t) f rs w.same) r a
    ∙ sym (pairs-permuted apart apart-both _ _ (IsPermutation-map blocks_of (map range_in (used t)) rs w.same))
    ∙ ap (pairs apart) (blocks-in (used t) (each-used t))

-- some range in order passes a test where some used entry's does
pub some_in_order : (t : List (List ℕ)) {rs : List Range} → InOrder t rs → (p : BlockRange → Bool) → any p (map blocks_of rs) ≡ any p (map range_of (used t))
some_in_order t {rs} w p =
    sym (any-permuted p _ _ (IsPermutation-map blocks_of (map range_in (used t)) rs w.same)) ∙ ap (any p) (blocks-in (used t) (each-used t))

-- ---- all rules together

module _ (first last : ℕ) (t : List (List ℕ)) where
  pub good-not : all (entry_ok first last) t ≡ false → false ≡ good_entries first last t
  unfolding good_entries ◌and◌
  good-not h = sym (rw h)

  module _ (ok : all (entry_ok first last) t ≡ true) where
    good-split : (pairs differ (used t) and pairs apart (map range_of (used t))) ≡ good_entries first last t
    unfolding good_entries ◌and◌
    good-split = sym (pairs-split (used t) (each-used t)) ∙ pairs-used t ∙ sym (rw ok)

    pub good-guids : pairs differ (used t) ≡ false → false ≡ good_entries first last t
    unfolding ◌and◌
    good-guids h = rw h at good-split

    pub good-ranges : pairs differ (used t) ≡ true → pairs apart (map range_of (used t)) ≡ good_entries first last t
    unfolding ◌and◌
    good-ranges h = rw h at good-split

    pub none-empty : NoneEmpty (used t)
    unfolding bounded
    none-empty i h =
        let w = used-each (λ e. entry_ok first last e ≡ true) t (λ j k. all-get (entry_ok first last) t [] ok j k) i h in
        let b = subst (λ (s : BlockRange). bounded first last s ≡ true) (range-used _ w.0) (ok-bounded first last _ w.0 w.1) in
        leb-true _ _ (and_r _ _ (and_l _ _ b))

-- the entries of a table's bytes
pub good_is : (first last : ℕ) (bytes : List ℕ) (t : List (List ℕ)) → t ≡ entries bytes → good_entries first last t ≡ good_table first last bytes
unfolding good_entries good_table
good_is first last bytes t e = ap (λ (es : List (List ℕ)). all (entry_ok first last) es and pairs pair_ok es) e

-- a table whose entries keep their rules and whose unique GUIDs differ is good where its ranges, put in order, share no block
pub good-in_order : (first last : ℕ) (bytes : List ℕ) {t : List (List ℕ)} {rs : List Range} → t ≡ entries bytes → all (entry_ok first last) t ≡ true
    → InOrder t rs → pairs differ (used t) ≡ true → pairs apart (map blocks_of rs) ≡ good_table first last bytes
good-in_order first last bytes {t} {rs} e ok w h =
    sym (pairs-permuted apart apart-both _ _ (IsPermutation-map blocks_of (map range_in (used t)) rs w.same))
    ∙ ap (pairs apart) (blocks-in (used t) (each-used t))
    ∙ good-ranges first last t ok h
    ∙ good_is first last bytes t e
