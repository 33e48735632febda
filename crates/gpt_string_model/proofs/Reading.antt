-- Laws that code which reads a text from left to right cites: the next part, a field's key and value, one field more.
use mathlib.Core.Path.{◌≡◌, refl, sym, ap, ap₂, subst, ◌∙◌}
use mathlib.Core.Logic.{◌⊎◌, inl, inr}
use mathlib.Core.Bool.{Bool, true, false, not, false≢true}
use mathlib.Core.List.{List, [], ◌∷◌, ◌++◌}
use Rattle.std.specs.Prelude.{None, Some}
use Prim.Native.Nat.{ℕ, zero, suc, ◌+◌, ◌-◌, ◌≤◌, ◌<◌}
use Prim.Native.Char.{code}
use native.Mathlib.Omega.{arith}
use lib.Dec.{eqb, ltb}
use lib.ListN.{length, get_or, take, drop, length-drop, drop_of_length-le}
use lib.Seq.{take_all, length-take-le, drop-drop}
use borrow.Author.Tests.{ltb-true, ltb-false}
use Rattle.octets.specs.Tests.{◌and◌, ◌or◌, all, any, pairs, find_ix}
use Rattle.octets.specs.Bytes.{same}
use Rattle.octets.proofs.Bools.{and_l, and_r, and_i, or_cases, or-false-l, or-false-r, and-false-l, and_false_r, bool_cases, clash}
use Rattle.octets.proofs.Tests.{all_append}
use Rattle.octets.proofs.Equal.{same_true, same_refl}
use Rattle.gpt_string_model.specs.Text.{in_first, split, key_of, field_value, keys, has_key, is_field, are_fields, value_in, closed, parts_of}

find_ix-here : (p : ℕ → Bool) (x : ℕ) (xs : List ℕ) → p x ≡ true → find_ix p (x ∷ xs) ≡ 0
find_ix-here p x xs e = rw (find_ix, e)

find_ix-past : (p : ℕ → Bool) (x : ℕ) (xs : List ℕ) → p x ≡ false → find_ix p (x ∷ xs) ≡ suc (find_ix p xs)
find_ix-past p x xs e = rw (find_ix, e)

-- ---- parts

module _ (c : ℕ) where
  -- the place of the first byte c, or the length
  abbrev pub next_in : List ℕ → ℕ
  next_in xs = find_ix (λ b. eqb b c) xs

  next-in : (xs : List ℕ) → next_in xs ≤ length xs
  next-in [] = omega arith
  next-in (x ∷ xs) = go (bool_cases (eqb x c)) (next-in xs)
    where
      go : (eqb x c ≡ true) ⊎ (eqb x c ≡ false) → next_in xs ≤ length xs → next_in (x ∷ xs) ≤ suc (length xs)
      go (inl e) ih = omega (arith, find_ix-here (λ b. eqb b c) x xs e)
      go (inr e) ih = omega (arith, find_ix-past (λ b. eqb b c) x xs e)

  split-here : (b : ℕ) (bs : List ℕ) → eqb b c ≡ true → split c (b ∷ bs) ≡ [] ∷ split c bs
  unfolding split
  split-here b bs e = rw (e, split)

  split-past : (b : ℕ) (bs : List ℕ) → eqb b c ≡ false → split c (b ∷ bs) ≡ in_first b (split c bs)
  unfolding split
  split-past b bs e = rw (e, split)

  split-nil : split c [] ≡ [] ∷ []
  unfolding split
  split-nil = refl

  -- none is left: the part is the rest of the text
  pub split-last : (xs : List ℕ) → next_in xs ≡ length xs → split c xs ≡ xs ∷ []
  split-last [] h = split-nil
  split-last (x ∷ xs) h = go (bool_cases (eqb x c)) (split-last xs)
    where
      go : (eqb x c ≡ true) ⊎ (eqb x c ≡ false) → (next_in xs ≡ length xs → split c xs ≡ xs ∷ []) → split c (x ∷ xs) ≡ (x ∷ xs) ∷ []
      go (inl e) ih = absurd (omega (arith, find_ix-here (λ b. eqb b c) x xs e))
      go (inr e) ih = split-past x xs e ∙ ap (in_first x) (ih (omega (arith, find_ix-past (λ b. eqb b c) x xs e)))

  -- one stands at k: the part is what stands before it, and the text goes on behind it
  pub split-on : (xs : List ℕ) (k : ℕ) → next_in xs ≡ k → k < length xs → split c xs ≡ take k xs ∷ split c (drop (suc k) xs)
  split-on [] k e h = absurd (omega arith)
  split-on (x ∷ xs) zero e h = go (bool_cases (eqb x c))
    where
      go : (eqb x c ≡ true) ⊎ (eqb x c ≡ false) → split c (x ∷ xs) ≡ [] ∷ split c xs
      go (inl q) = split-here x xs q
      go (inr q) = absurd (omega (arith, find_ix-past (λ b. eqb b c) x xs q))
  split-on (x ∷ xs) (suc k) e h = go (bool_cases (eqb x c)) (split-on xs k)
    where
      go : (eqb x c ≡ true) ⊎ (eqb x c ≡ false) → (next_in xs ≡ k → k < length xs → split c xs ≡ take k xs ∷ split c (drop (suc k) xs))
          → split c (x ∷ xs) ≡ (x ∷ take k xs) ∷ split c (drop (suc k) xs)
      go (inl q) ih = absurd (omega (arith, find_ix-here (λ b. eqb b c) x xs q))
      go (inr q) ih = split-past x xs q ∙ ap (in_first x) (ih (omega (arith, find_ix-past (λ b. eqb b c) x xs q)) (omega arith))

  -- a split has a part
  split-some : (xs : List ℕ) → (p : List ℕ) × ((ps : List (List ℕ)) × (split c xs ≡ p ∷ ps))
  split-some [] = ([], ([], split-nil))
  split-some (x ∷ xs) = go (bool_cases (eqb x c)) (split-some xs)
    where
      go : (eqb x c ≡ true) ⊎ (eqb x c ≡ false) → (p : List ℕ) × ((ps : List (List ℕ)) × (split c xs ≡ p ∷ ps))
          → (p : List ℕ) × ((ps : List (List ℕ)) × (split c (x ∷ xs) ≡ p ∷ ps))
      go (inl q) ih = ([], (split c xs, split-here x xs q))
      go (inr q) ih = (x ∷ ih.0, (ih.1.0, split-past x xs q ∙ ap (in_first x) ih.1.1))

  -- with a last semicolon, which may stand: one part, and more
  closed_on : (xs : List ℕ) (k : ℕ) → next_in xs ≡ k → k < length xs → closed (split c xs) ≡ take k xs ∷ closed (split c (drop (suc k) xs))
  closed_on xs k e h =
      let w = split-some (drop (suc k) xs) in
      ap closed (split-on xs k e h ∙ ap (λ (r : List (List ℕ)). take k xs ∷ r) w.1.1) ∙ ap (λ (r : List (List ℕ)). take k xs ∷ closed r) (sym w.1.1)

  -- one part is left
  closed-last : (xs : List ℕ) → 0 < length xs → next_in xs ≡ length xs → closed (split c xs) ≡ xs ∷ []
  unfolding same
  closed-last [] l h = absurd (omega arith)
  closed-last (x ∷ xs) l h = ap closed (split-last (x ∷ xs) h)

  closed-nil : closed (split c []) ≡ []
  unfolding same
  closed-nil = ap closed split-nil

-- ---- the parts of a text: what stands before its first semicolon, and those of what stands behind

abbrev pub first_part : List ℕ → List ℕ
first_part text = take (next_in (code ";") text) text

abbrev pub behind_first : List ℕ → List ℕ
behind_first text = drop (next_in (code ";") text + 1) text

pub parts-nil : (text : List ℕ) → length text ≡ 0 → parts_of text ≡ []
parts-nil [] h = closed-nil (code ";")
parts-nil (x ∷ xs) h = absurd (omega arith)

behind-nil : (text : List ℕ) → length text ≤ next_in (code ";") text → parts_of (behind_first text) ≡ []
behind-nil text h = parts-nil (behind_first text) (omega (arith, length-drop (next_in (code ";") text + 1) text))

pub parts-next : (text : List ℕ) → 0 < length text → parts_of text ≡ first_part text ∷ parts_of (behind_first text)
parts-next text l = go (bool_cases (ltb (next_in (code ";") text) (length text)))
  where
    go : (ltb (next_in (code ";") text) (length text) ≡ true) ⊎ (ltb (next_in (code ";") text) (length text) ≡ false)
        → parts_of text ≡ first_part text ∷ parts_of (behind_first text)
    go (inl q) =
        let one : suc (next_in (code ";") text) ≡ next_in (code ";") text + 1 = omega arith in
        closed_on (code ";") text (next_in (code ";") text) refl (ltb-true _ _ q)
        ∙ ap (λ (k : ℕ). first_part text ∷ parts_of (drop k text)) one
    go (inr q) =
        let h : length text ≤ next_in (code ";") text = ltb-false (next_in (code ";") text) (length text) q in
        let e : next_in (code ";") text ≡ length text = omega (arith, next-in (code ";") text) in
        closed-last (code ";") text l e ∙ ap₂ (λ (p : List ℕ) (ps : List (List ℕ)). p ∷ ps) (sym (take_all (next_in (code ";") text) text h))
        (sym (behind-nil text h))

pub parts-behind : (text : List ℕ) → drop 1 (parts_of text) ≡ parts_of (behind_first text)
parts-behind [] = ap (drop 1) (parts-nil [] refl) ∙ sym (behind-nil [] (omega arith))
parts-behind (x ∷ xs) = ap (drop 1) (parts-next (x ∷ xs) (omega arith))

pub parts-head : (text : List ℕ) → get_or (parts_of text) 0 [] ≡ first_part text
parts-head [] = ap (λ (ps : List (List ℕ)). get_or ps 0 []) (parts-nil [] refl)
parts-head (x ∷ xs) = ap (λ (ps : List (List ℕ)). get_or ps 0 []) (parts-next (x ∷ xs) (omega arith))

-- ---- a field

key_here : (b : ℕ) (bs : List ℕ) → eqb b (code "=") ≡ true → key_of (b ∷ bs) ≡ b ∷ []
unfolding key_of
key_here b bs e = rw (e, key_of)

key-past : (b : ℕ) (bs : List ℕ) → eqb b (code "=") ≡ false → key_of (b ∷ bs) ≡ b ∷ key_of bs
unfolding key_of
key-past b bs e = rw (e, key_of)

key-nil : key_of [] ≡ []
unfolding key_of
key-nil = refl

key-at : (f : List ℕ) → key_of f ≡ take (suc (next_in (code "=") f)) f
key-at [] = key-nil
key-at (x ∷ xs) = go (bool_cases (eqb x (code "="))) (key-at xs)
  where
    go : (eqb x (code "=") ≡ true) ⊎ (eqb x (code "=") ≡ false) → key_of xs ≡ take (suc (next_in (code "=") xs)) xs
        → key_of (x ∷ xs) ≡ x ∷ take (next_in (code "=") (x ∷ xs)) xs
    go (inl e) ih = key_here x xs e ∙ ap (λ (k : ℕ). x ∷ take k xs) (sym (find_ix-here (λ b. eqb b (code "=")) x xs e))
    go (inr e) ih = key-past x xs e ∙ ap (λ (r : List ℕ). x ∷ r) ih ∙ ap (λ (k : ℕ). x ∷ take k xs) (sym (find_ix-past (λ b. eqb b (code "=")) x xs e))

-- the field's key and its value, where its first `=` stands at e, or the field has none
module _ (f : List ℕ) where
  pub keyed-on : (e : ℕ) → next_in (code "=") f ≡ e → e < length f → (take (e + 1) f ≡ key_of f) × (drop (e + 1) f ≡ field_value f)
  unfolding field_value
  keyed-on e p h =
      let one : suc (next_in (code "=") f) ≡ e + 1 = omega arith in
      let k : key_of f ≡ take (e + 1) f = key-at f ∙ ap (λ (j : ℕ). take j f) one in
      (sym k, ap (λ (j : ℕ). drop j f) (sym (ap length k ∙ length-take-le (e + 1) f (omega arith))))

  pub keyed-all : next_in (code "=") f ≡ length f → (f ≡ key_of f) × ([] ≡ field_value f)
  unfolding field_value
  keyed-all p =
      let k : key_of f ≡ f = key-at f ∙ take_all (suc (next_in (code "=") f)) f (omega arith) in
      (sym k, sym (drop_of_length-le f {i = length (key_of f)} (omega (arith, ap length k))))

-- ---- what is found is a field's value

pub value-yes : (k f : List ℕ) (fs : List (List ℕ)) → has_key k f ≡ true → value_in k (f ∷ fs) ≡ Some (field_value f)
unfolding value_in
value-yes k f fs e = rw (e, value_in)

pub value-no : (k f : List ℕ) (fs : List (List ℕ)) → has_key k f ≡ false → value_in k (f ∷ fs) ≡ value_in k fs
unfolding value_in
value-no k f fs e = rw (e, value_in)

pub value-nil : (k : List ℕ) → value_in k [] ≡ None
unfolding value_in
value-nil k = refl

-- of a key that none of the fields fs has: it is found in what follows
pub value-skip : (k : List ℕ) (fs gs : List (List ℕ)) → any (has_key k) fs ≡ false → value_in k (fs ++ gs) ≡ value_in k gs
value-skip k [] gs n = refl
value-skip k (x ∷ fs) gs n = value-no k x (fs ++ gs) (or-false-l _ _ n) ∙ value-skip k fs gs (or-false-r _ _ n)

-- of a key that the field f does not have: it is found in those before f
pub value_before : (k f : List ℕ) (fs : List (List ℕ)) → has_key k f ≡ false → value_in k (fs ++ (f ∷ [])) ≡ value_in k fs
value_before k f [] e = value-no k f [] e
value_before k f (x ∷ fs) e = go (bool_cases (has_key k x)) (value_before k f fs e)
  where
    go : (has_key k x ≡ true) ⊎ (has_key k x ≡ false) → value_in k (fs ++ (f ∷ [])) ≡ value_in k fs → value_in k (x ∷ (fs ++ (f ∷ []))) ≡ value_in k (x ∷ fs)
    go (inl q) ih = value-yes k x (fs ++ (f ∷ [])) q ∙ sym (value-yes k x fs q)
    go (inr q) ih = value-no k x (fs ++ (f ∷ [])) q ∙ ih ∙ sym (value-no k x fs q)

-- ---- the fields of a partition, one more at a time

-- all keys that must be present are
abbrev pub are_complete : List (List ℕ) → Bool
are_complete fs = all (λ k. not k.must or any (has_key k.word) fs) keys

abbrev pub differ : List ℕ → List ℕ → Bool
differ f d = not (has_key (key_of f) d)

-- each is a field, and no two have the same key
abbrev pub are_once : List (List ℕ) → Bool
are_once fs = all is_field fs and pairs differ fs

same-false-sym : (xs ys : List ℕ) → same xs ys ≡ false → same ys xs ≡ false
same-false-sym xs ys e = go (bool_cases (same ys xs))
  where
    go : (same ys xs ≡ true) ⊎ (same ys xs ≡ false) → same ys xs ≡ false
    go (inr q) = q
    go (inl q) = absurd (clash (subst (λ (z : List ℕ). same z ys ≡ true) (same_true ys xs q) (same_refl ys)) e)

-- a field that is one, and whose key none of them has
pub once-on : (fs : List (List ℕ)) (f : List ℕ) → are_once fs ≡ true → is_field f ≡ true → any (has_key (key_of f)) fs ≡ false
    → are_once (fs ++ (f ∷ [])) ≡ true
once-on fs f r e n = and_i _ _ (all_append is_field fs (f ∷ []) (and_l _ _ r) (and_i _ _ e refl)) (go fs (and_r _ _ r) n)
  where
    last : (x : List ℕ) (xs : List (List ℕ)) → all (differ x) xs ≡ true → has_key (key_of f) x ≡ false → all (differ x) (xs ++ (f ∷ [])) ≡ true
    last x xs a q = all_append (differ x) xs (f ∷ []) a (and_i _ _ (ap not (same-false-sym (key_of x) (key_of f) q)) refl)

    go : (xs : List (List ℕ)) → pairs differ xs ≡ true → any (has_key (key_of f)) xs ≡ false → pairs differ (xs ++ (f ∷ [])) ≡ true
    go [] a q = and_i _ _ refl refl
    go (x ∷ xs) a q = and_i _ _ (last x xs (and_l _ _ a) (or-false-l _ _ q)) (go xs (and_r _ _ a) (or-false-r _ _ q))

-- a field that is none, or whose key one of them has
module _ (f : List ℕ) (gs : List (List ℕ)) where
  pub once-bad : (fs : List (List ℕ)) → is_field f ≡ false → are_once (fs ++ (f ∷ gs)) ≡ false
  once-bad fs e = and-false-l _ _ (go fs)
    where
      go : (fs : List (List ℕ)) → all is_field (fs ++ (f ∷ gs)) ≡ false
      go [] = and-false-l _ _ e
      go (x ∷ xs) = and_false_r (is_field x) (all is_field (xs ++ (f ∷ gs))) (go xs)

  pub once-twice : (fs : List (List ℕ)) → any (has_key (key_of f)) fs ≡ true → are_once (fs ++ (f ∷ gs)) ≡ false
  once-twice fs e = and_false_r _ _ (go fs e)
    where
      hit : (x : List ℕ) (xs : List (List ℕ)) → has_key (key_of f) x ≡ true → all (differ x) (xs ++ (f ∷ gs)) ≡ false
      hit x [] q = and-false-l _ _ (ap not (subst (λ (z : List ℕ). same (key_of f) z ≡ true) (sym (same_true (key_of x) (key_of f) q)) (same_refl (key_of f))))
      hit x (y ∷ ys) q = and_false_r (differ x y) (all (differ x) (ys ++ (f ∷ gs))) (hit x ys q)

      go : (xs : List (List ℕ)) → any (has_key (key_of f)) xs ≡ true → pairs differ (xs ++ (f ∷ gs)) ≡ false
      go [] q = absurd (false≢true q)
      go (x ∷ xs) q = more (or_cases _ _ q) (go xs)
        where
          more : (has_key (key_of f) x ≡ true) ⊎ (any (has_key (key_of f)) xs ≡ true)
              → (any (has_key (key_of f)) xs ≡ true → pairs differ (xs ++ (f ∷ gs)) ≡ false)
              → (all (differ x) (xs ++ (f ∷ gs)) and pairs differ (xs ++ (f ∷ gs))) ≡ false
          more (inl y) ih = and-false-l _ _ (hit x xs y)
          more (inr y) ih = and_false_r _ _ (ih y)

pub fields-are : (fs : List (List ℕ)) → are_fields fs ≡ (are_once fs and are_complete fs)
unfolding are_fields
fields-are fs = refl

-- ---- the parts from the place i of a text on; e is the place of the next byte c, or the text's length

behind : (i e : ℕ) (text : List ℕ) → i ≤ e → drop (suc (e - i)) (drop i text) ≡ drop (e + 1) text
behind i e text h = drop-drop (suc (e - i)) i text ∙ at (i + suc (e - i)) (e + 1) (omega arith)
  where
    at : (j k : ℕ) → j ≡ k → drop j text ≡ drop k text
    at j k q = ap (λ (n : ℕ). drop n text) q

whole : (i e : ℕ) (text : List ℕ) → e ≡ length text → drop i text ≡ take (e - i) (drop i text)
whole i e text q = sym (take_all (e - i) (drop i text) (omega (arith, length-drop i text)))

module _ (c : ℕ) (text : List ℕ) (i e : ℕ) (p : e ≡ i + next_in c (drop i text)) where
  pub parts_last : i < length text → e ≡ length text → closed (split c (drop i text)) ≡ take (e - i) (drop i text) ∷ []
  parts_last h q =
      closed-last c (drop i text) (omega (arith, length-drop i text)) (omega (arith, length-drop i text))
      ∙ ap (λ (r : List ℕ). r ∷ []) (whole i e text q)

  pub parts-on : e < length text → closed (split c (drop i text)) ≡ take (e - i) (drop i text) ∷ closed (split c (drop (e + 1) text))
  parts-on l =
      closed_on c (drop i text) (e - i) (omega arith) (omega (arith, length-drop i text))
      ∙ ap (λ (r : List ℕ). take (e - i) (drop i text) ∷ closed (split c r)) (behind i e text (omega arith))

pub parts-end : (c : ℕ) (text : List ℕ) (i : ℕ) → length text ≤ i → closed (split c (drop i text)) ≡ []
parts-end c text i h = ap (λ (r : List ℕ). closed (split c r)) (drop_of_length-le text {i = i} h) ∙ closed-nil c
