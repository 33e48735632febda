-- A text is its parts, joined; the order of a partition's fields does not matter.
use mathlib.Core.Path.{◌≡◌, refl, sym, ap, ap₂, subst, ◌∙◌}
use mathlib.Core.Logic.{◌⊎◌, inl, inr}
use mathlib.Core.Bool.{Bool, true, false, not}
use mathlib.Core.List.{List, [], ◌∷◌, ◌++◌}
use Prim.Native.Nat.{ℕ}
use lib.Dec.{eqb}
use borrow.Author.Tests.{eqb-true}
use Rattle.octets.specs.Ascii.{ascii}
use Rattle.octets.specs.Tests.{◌and◌, ◌or◌, all, any, pairs}
use Rattle.octets.specs.Bytes.{same}
use Rattle.octets.proofs.Bools.{and_l, and_r, and_i, or-false-i, bool_cases, not_t, clash}
use Rattle.octets.proofs.Equal.{same_true, same_refl}
use Rattle.gpt_string_model.specs.Text.{in_first, split, key_of, Key, keys, has_key, is_field, are_fields, value_in, wanted_by}
use Rattle.gpt_string_model.specs.Claims.{joined, SplitSays, AnyOrder}
use Rattle.gpt_string_model.proofs.Reading.{value-yes, value-no}

-- ---- joined

module _ (c : ℕ) where
  abbrev without : List ℕ → Bool
  without part = not (any (λ b. eqb b c) part)

  Says : List ℕ → List (List ℕ) → Type 0
  Says text ps = (joined c ps ≡ text) × (all without ps ≡ true)

  split-here : (b : ℕ) (bs : List ℕ) → eqb b c ≡ true → split c (b ∷ bs) ≡ [] ∷ split c bs
  unfolding split
  split-here b bs e = rw (e, split)

  split-past : (b : ℕ) (bs : List ℕ) → eqb b c ≡ false → split c (b ∷ bs) ≡ in_first b (split c bs)
  unfolding split
  split-past b bs e = rw (e, split)

  -- a part more, and a byte more in the first
  part-more : (b : ℕ) (bs : List ℕ) (ps : List (List ℕ)) → eqb b c ≡ true → (p : List ℕ) (qs : List (List ℕ)) → ps ≡ p ∷ qs → Says bs ps
      → Says (b ∷ bs) ([] ∷ ps)
  unfolding Says
  part-more b bs ps e p qs q s = (
    ap (λ (x : List (List ℕ)). joined c ([] ∷ x)) q ∙ ap (λ (x : List (List ℕ)). c ∷ joined c x) (sym q)
        ∙ ap₂ ◌∷◌ (sym (eqb-true b c e)) s.0,
    and_i _ _ refl s.1,
  )

  byte_more : (b : ℕ) (bs : List ℕ) (ps : List (List ℕ)) → eqb b c ≡ false → Says bs ps → Says (b ∷ bs) (in_first b ps)
  unfolding Says
  byte_more b bs [] e s = (ap (λ (x : List ℕ). b ∷ x) s.0, and_i _ _ (ap not (or-false-i _ _ e refl)) refl)
  byte_more b bs (p ∷ []) e s = (ap (λ (x : List ℕ). b ∷ x) s.0, and_i _ _ (ap not (or-false-i _ _ e (not_t _ (and_l _ _ s.1)))) refl)
  byte_more b bs (p ∷ q ∷ ps) e s =
      (ap (λ (x : List ℕ). b ∷ x) s.0, and_i _ _ (ap not (or-false-i _ _ e (not_t _ (and_l _ _ s.1)))) (and_r _ _ s.1))

  first_part : (text : List ℕ) → (p : List ℕ) × ((qs : List (List ℕ)) × (split c text ≡ p ∷ qs))
  unfolding split
  first_part [] = ([], ([], refl))
  first_part (b ∷ bs) = go (bool_cases (eqb b c)) (split c bs)
    where
      first_of : (ps : List (List ℕ)) → (p : List ℕ) × ((qs : List (List ℕ)) × (in_first b ps ≡ p ∷ qs))
      first_of [] = (b ∷ [], ([], refl))
      first_of (p ∷ ps) = (b ∷ p, (ps, refl))

      go : (eqb b c ≡ true) ⊎ (eqb b c ≡ false) → List (List ℕ) → (p : List ℕ) × ((qs : List (List ℕ)) × (split c (b ∷ bs) ≡ p ∷ qs))
      go (inl e) x = ([], (split c bs, split-here b bs e))
      go (inr e) x = let w = first_of (split c bs) in (w.0, (w.1.0, split-past b bs e ∙ w.1.1))

  says : (text : List ℕ) → Says text (split c text)
  unfolding Says split
  says [] = (refl, and_i _ _ refl refl)
  says (b ∷ bs) = go (bool_cases (eqb b c)) (says bs)
    where
      go : (eqb b c ≡ true) ⊎ (eqb b c ≡ false) → Says bs (split c bs) → Says (b ∷ bs) (split c (b ∷ bs))
      go (inl e) s = let w = first_part bs in subst (Says (b ∷ bs)) (sym (split-here b bs e)) (part-more b bs (split c bs) e w.0 w.1.0 w.1.1 s)
      go (inr e) s = subst (Says (b ∷ bs)) (sym (split-past b bs e)) (byte_more b bs (split c bs) e s)

pub split_says : SplitSays
unfolding Says
split_says c text = says c text

-- ---- two neighbours change places

and-swap : (a b r : Bool) → (a and (b and r)) ≡ (b and (a and r))
unfolding ◌and◌
and-swap true true r = refl
and-swap true false r = refl
and-swap false true r = refl
and-swap false false r = refl

or_swap : (a b r : Bool) → (a or (b or r)) ≡ (b or (a or r))
unfolding ◌or◌
or_swap true true r = refl
or_swap true false r = refl
or_swap false true r = refl
or_swap false false r = refl

pairs-swap : (x a b r : Bool) → ((x and a) and (b and r)) ≡ ((x and b) and (a and r))
unfolding ◌and◌
pairs-swap true true true r = refl
pairs-swap true true false r = refl
pairs-swap true false true r = refl
pairs-swap true false false r = refl
pairs-swap false a b r = refl

same-comm : (xs ys : List ℕ) → same xs ys ≡ same ys xs
same-comm xs ys = go (bool_cases (same xs ys)) (bool_cases (same ys xs))
  where
    turned : (xs ys : List ℕ) → same xs ys ≡ true → same ys xs ≡ true
    turned xs ys e = subst (λ (z : List ℕ). same z xs ≡ true) (same_true xs ys e) (same_refl xs)

    go : (same xs ys ≡ true) ⊎ (same xs ys ≡ false) → (same ys xs ≡ true) ⊎ (same ys xs ≡ false) → same xs ys ≡ same ys xs
    go (inl p) q = p ∙ sym (turned xs ys p)
    go (inr p) (inr q) = p ∙ sym q
    go (inr p) (inl q) = absurd (clash (turned ys xs q) p)

abbrev differ : List ℕ → List ℕ → Bool
differ f d = not (has_key (key_of f) d)

module _ (f d : List ℕ) (gs : List (List ℕ)) where
  all-turned : (p : List ℕ → Bool) (fs : List (List ℕ)) → all p (fs ++ (f ∷ d ∷ gs)) ≡ all p (fs ++ (d ∷ f ∷ gs))
  all-turned p [] = and-swap (p f) (p d) (all p gs)
  all-turned p (x ∷ fs) = ap (λ (r : Bool). p x and r) (all-turned p fs)

  any-turned : (p : List ℕ → Bool) (fs : List (List ℕ)) → any p (fs ++ (f ∷ d ∷ gs)) ≡ any p (fs ++ (d ∷ f ∷ gs))
  any-turned p [] = or_swap (p f) (p d) (any p gs)
  any-turned p (x ∷ fs) = ap (λ (r : Bool). p x or r) (any-turned p fs)

  pairs-turned : (fs : List (List ℕ)) → pairs differ (fs ++ (f ∷ d ∷ gs)) ≡ pairs differ (fs ++ (d ∷ f ∷ gs))
  pairs-turned [] =
      ap (λ (x : Bool). (not x and all (differ f) gs) and (all (differ d) gs and pairs differ gs)) (same-comm (key_of d) (key_of f))
      ∙ pairs-swap (differ d f) (all (differ f) gs) (all (differ d) gs) (pairs differ gs)
  pairs-turned (x ∷ fs) = ap₂ ◌and◌ (all-turned (differ x) fs) (pairs-turned fs)

  keys-turned : (fs : List (List ℕ)) (ks : List Key)
      → all (λ k. not k.must or any (has_key k.word) (fs ++ (f ∷ d ∷ gs))) ks ≡ all (λ k. not k.must or any (has_key k.word) (fs ++ (d ∷ f ∷ gs))) ks
  keys-turned fs [] = refl
  keys-turned fs (k ∷ ks) = ap₂ ◌and◌ (ap (λ (r : Bool). not k.must or r) (any-turned (has_key k.word) fs)) (keys-turned fs ks)

  are-turned : (fs : List (List ℕ)) → are_fields (fs ++ (f ∷ d ∷ gs)) ≡ are_fields (fs ++ (d ∷ f ∷ gs))
  unfolding are_fields
  are-turned fs = ap₂ ◌and◌ (ap₂ ◌and◌ (all-turned is_field fs) (pairs-turned fs)) (keys-turned fs keys)

  apart-fields : (fs : List (List ℕ)) → pairs differ (fs ++ (f ∷ d ∷ gs)) ≡ true → has_key (key_of f) d ≡ false
  apart-fields [] e = not_t _ (and_l _ _ (and_l _ _ e))
  apart-fields (x ∷ fs) e = apart-fields fs (and_r _ _ e)

  value-turned : (k : List ℕ) → has_key (key_of f) d ≡ false → (fs : List (List ℕ)) → value_in k (fs ++ (f ∷ d ∷ gs)) ≡ value_in k (fs ++ (d ∷ f ∷ gs))
  value-turned k n [] = go (bool_cases (has_key k f)) (bool_cases (has_key k d))
    where
      go : (has_key k f ≡ true) ⊎ (has_key k f ≡ false) → (has_key k d ≡ true) ⊎ (has_key k d ≡ false) → value_in k (f ∷ d ∷ gs) ≡ value_in k (d ∷ f ∷ gs)
      go (inl p) (inl q) = absurd (clash (ap (same (key_of d)) (same_true (key_of f) k p) ∙ q) n)
      go (inl p) (inr q) = value-yes k f (d ∷ gs) p ∙ sym (value-no k d (f ∷ gs) q ∙ value-yes k f gs p)
      go (inr p) (inl q) = value-no k f (d ∷ gs) p ∙ value-yes k d gs q ∙ sym (value-yes k d (f ∷ gs) q)
      go (inr p) (inr q) = value-no k f (d ∷ gs) p ∙ value-no k d gs q ∙ sym (value-no k d (f ∷ gs) q ∙ value-no k f gs p)
  value-turned k n (x ∷ fs) = go (bool_cases (has_key k x)) (value-turned k n fs)
    where
      go : (has_key k x ≡ true) ⊎ (has_key k x ≡ false) → value_in k (fs ++ (f ∷ d ∷ gs)) ≡ value_in k (fs ++ (d ∷ f ∷ gs))
          → value_in k (x ∷ (fs ++ (f ∷ d ∷ gs))) ≡ value_in k (x ∷ (fs ++ (d ∷ f ∷ gs)))
      go (inl p) ih = value-yes k x _ p ∙ sym (value-yes k x _ p)
      go (inr p) ih = value-no k x _ p ∙ ih ∙ sym (value-no k x _ p)

  wanted-turned : (fs : List (List ℕ)) → are_fields (fs ++ (f ∷ d ∷ gs)) ≡ true → wanted_by (fs ++ (f ∷ d ∷ gs)) ≡ wanted_by (fs ++ (d ∷ f ∷ gs))
  unfolding are_fields wanted_by
  wanted-turned fs e =
      let n = apart-fields fs (and_r _ _ (and_l _ _ e)) in
      rw (
        value-turned (ascii "type=") n fs,
        value-turned (ascii "uuid=") n fs,
        value-turned (ascii "start=") n fs,
        value-turned (ascii "size=") n fs,
        value-turned (ascii "bootable") n fs,
        value-turned (ascii "name=") n fs,
      ) refl

pub any_order : AnyOrder
any_order fs f d gs = (are-turned f d gs fs, wanted-turned f d gs fs)
