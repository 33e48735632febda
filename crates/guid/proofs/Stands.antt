-- A text and the bytes that it stands for, character by character.
use mathlib.Core.Path.{◌≡◌, refl, sym, ap, subst, ◌∙◌}
use mathlib.Core.Logic.{◌⊎◌, inl, inr, ◌≢◌}
use mathlib.Core.Bool.{Bool, true, false}
use mathlib.Core.List.{List, [], ◌∷◌, map}
use mathlib.Core.Option.{none}
use Prim.Native.Nat.{ℕ, ◌+◌, ◌-◌, ◌*◌, ◌≤◌, ◌<◌}
use native.Mathlib.Decide.{dec_lt}
use native.Mathlib.Omega.{arith}
use lib.Dec.{leb}
use lib.ListN.{length, get_or, get_or-eq_default}
use borrow.Author.Tests.{eqb-true, eq-eqb, leb-true, lt-ltb, ltb-true}
use Rattle.octets.specs.Ascii.{ascii}
use Rattle.octets.specs.Bytes.{part, rest, same}
use Rattle.octets.specs.Tests.{◌and◌, all, find_ix}
use Rattle.octets.proofs.Bools.{and_l, and_r, and_i, bool_cases, not_f, or-false-r}
use Rattle.octets.proofs.Equal.{same_refl, same_false}
use Rattle.octets.proofs.Filled.{each-is}
use Rattle.octets.proofs.Rows.{passes}
use Rattle.octets.proofs.Tests.{all-get, all-make, get_d_map}
use Rattle.guid.specs.Hex.{hex_value, is_hex_digit, bytes_of, upper}
use Rattle.guid.specs.Text.{digits_in, dashes_in, is_guid_text, reordered, stored_of, text_of}
use Rattle.guid.specs.Types.{short_at, expand}
use Rattle.guid.specs.Calls.{Outcome, read_text_rows, read_of, write_rows}
use Rattle.guid.specs.Claims.{are_bytes, ReadsText, WritesText, ReadsTypes}
use Rattle.guid.specs.Stands.{Digit, in_text, in_bytes, StandsFor}
use Rattle.guid.proofs.Hex.{inside, value-decimal, value-upper, value-lower, value_none}
use Rattle.guid.proofs.Calls.{text-length, text-dashes, text-all, length-stored, read_done, write_done}
use Rattle.guid.proofs.Claims.{text-is, stored-text, text-stored, read-rows, read-is-text, read-buffer, write-rows, write-length, write-buffer}

-- ---- a digit

digit-get : (c : ℕ) → is_hex_digit c ≡ true → Digit c (hex_value c)
digit-get c d = go (bool_cases (leb 48 c and leb c 57)) (bool_cases (leb 65 c and leb c 70)) (bool_cases (leb 97 c and leb c 102))
  where
    go : ((leb 48 c and leb c 57) ≡ true) ⊎ ((leb 48 c and leb c 57) ≡ false) → ((leb 65 c and leb c 70) ≡ true) ⊎ ((leb 65 c and leb c 70) ≡ false)
        → ((leb 97 c and leb c 102) ≡ true) ⊎ ((leb 97 c and leb c 102) ≡ false) → Digit c (hex_value c)
    go (inl p) q r =
        let lo : 48 ≤ c = leb-true 48 c (and_l _ _ p) in
        let hi : c ≤ 57 = leb-true c 57 (and_r _ _ p) in
        let v = value-decimal c lo hi in
        inl (omega arith, omega arith)
    go (inr p) (inl q) r =
        let lo : 65 ≤ c = leb-true 65 c (and_l _ _ q) in
        let hi : c ≤ 70 = leb-true c 70 (and_r _ _ q) in
        let v = value-upper c lo hi in
        inr (omega arith, omega arith, inl (omega arith))
    go (inr p) (inr q) (inl r) =
        let lo : 97 ≤ c = leb-true 97 c (and_l _ _ r) in
        let hi : c ≤ 102 = leb-true c 102 (and_r _ _ r) in
        let v = value-lower c lo hi in
        inr (omega arith, omega arith, inr (omega arith))
    go (inr p) (inr q) (inr r) = let v = value_none c p q r in let k : hex_value c < 16 = ltb-true (hex_value c) 16 d in absurd (omega arith)

digit-make : (c v : ℕ) → Digit c v → is_hex_digit c ≡ true
digit-make c v (inl (h, e)) = let w = value-decimal c (omega arith) (omega arith) in lt-ltb (hex_value c) 16 (omega arith)
digit-make c v (inr (l, h, inl e)) = let w = value-upper c (omega arith) (omega arith) in lt-ltb (hex_value c) 16 (omega arith)
digit-make c v (inr (l, h, inr e)) = let w = value-lower c (omega arith) (omega arith) in lt-ltb (hex_value c) 16 (omega arith)

-- ---- the pairs of digits of a text

module _ (t : List ℕ) where
  -- the characters from each place on, two by two
  spread : List ℕ → List ℕ
  spread [] = []
  spread (p ∷ ps) = get_or t p 0 ∷ get_or t (p + 1) 0 ∷ spread ps

  abbrev is_pair : ℕ → Bool
  is_pair p = is_hex_digit (get_or t p 0) and is_hex_digit (get_or t (p + 1) 0)

  spread-get : (ps : List ℕ) → all is_hex_digit (spread ps) ≡ true → all is_pair ps ≡ true
  unfolding spread
  spread-get [] e = refl
  spread-get (p ∷ ps) e = and_i _ _ (and_i _ _ (and_l _ _ e) (and_l _ _ (and_r _ _ e))) (spread-get ps (and_r _ _ (and_r _ _ e)))

  spread-make : (ps : List ℕ) → all is_pair ps ≡ true → all is_hex_digit (spread ps) ≡ true
  unfolding spread
  spread-make [] e = refl
  spread-make (p ∷ ps) e = and_i _ _ (and_l _ _ (and_l _ _ e)) (and_i _ _ (and_r _ _ (and_l _ _ e)) (spread-make ps (and_r _ _ e)))

  -- the value of a pair
  abbrev pair_value : ℕ → ℕ
  pair_value p = 16 * hex_value (get_or t p 0) + hex_value (get_or t (p + 1) 0)

digits-spread : (t : List ℕ) → length t ≡ 36 → digits_in t ≡ spread t in_text
unfolding digits_in part spread
digits-spread t l = ap (λ (xs : List ℕ). digits_in xs) (each-is 36 t l)

stored-pairs : (t : List ℕ) → length t ≡ 36 → map (λ s. get_or (stored_of t) s 0) in_bytes ≡ map (pair_value t) in_text
unfolding stored_of reordered bytes_of digits_in part rest
stored-pairs t l = ap (λ (xs : List ℕ). map (λ s. get_or (stored_of xs) s 0) in_bytes) (each-is 36 t l)

-- ---- a text that is judged one stands for its stored bytes

stands : (t : List ℕ) → is_guid_text t ≡ true → StandsFor t (stored_of t)
unfolding dashes_in
stands t e = record {
  size = (text-length t e, length-stored t e);
  dashes = let d = text-dashes t e in (at 0 d, at 1 d, at 2 d, at 3 d);
  pairs = λ k h.
      let p = get_or in_text k 0 in
      let d = all-get (is_pair t) in_text 0 (spread-get t in_text (ap (all is_hex_digit) (sym (digits-spread t (text-length t e))) ∙ text-all t e)) k h in
      (hex_value (get_or t p 0), hex_value (get_or t (p + 1) 0), digit-get _ (and_l _ _ d), digit-get _ (and_r _ _ d), value k h);
}
  where
    at : (i : ℕ) → dashes_in t ≡ ascii "----" → get_or (dashes_in t) i 0 ≡ get_or (ascii "----") i 0
    at i d = ap (λ (xs : List ℕ). get_or xs i 0) d

    value : (k : ℕ) → k < 16 → get_or (stored_of t) (get_or in_bytes k 0) 0 ≡ pair_value t (get_or in_text k 0)
    value k h =
        sym (get_d_map (λ s. get_or (stored_of t) s 0) in_bytes k 0 0 h) ∙ ap (λ (xs : List ℕ). get_or xs k 0) (stored-pairs t (text-length t e))
        ∙ get_d_map (pair_value t) in_text k 0 0 h

-- and a text that stands for some bytes is judged one
judged : (t b : List ℕ) → StandsFor t b → is_guid_text t ≡ true
unfolding is_guid_text dashes_in
judged t b w =
    let l = w.size.0 in
    let d = w.dashes in
    and_i _ _ (eq-eqb (length t) 36 l)
    (and_i _ _ (rw (d.0, d.1, d.2, d.3) (same_refl (ascii "----")))
    (ap (all is_hex_digit) (digits-spread t l)
    ∙ spread-make t in_text (all-make (is_pair t) in_text 0 (λ k h. let p = w.pairs k h in and_i _ _ (digit-make _ p.0 p.2) (digit-make _ p.1 p.3)))))

pub reads-text : ReadsText
reads-text text guid = (
  (
    λ e. (read-length-16 e, ((read_of text guid).buffer, says e)),
    λ w. ap (λ (o : Outcome). o.number) (sym (read_done text guid _ w.0 (judged text w.1.0 w.1.1) refl)),
  ),
  says,
)
  where
    read-length-16 : (read_of text guid).number ≡ none → length guid ≡ 16
    read-length-16 e = eqb-true (length guid) 16 (not_f _ (passes 1 (read_text_rows text guid) (read-rows text guid e)))

    says : (read_of text guid).number ≡ none → StandsFor text (read_of text guid).buffer
    says e = subst (StandsFor text) (sym (read-buffer text guid e)) (stands text (read-is-text text guid e))

upper-lower : (c : ℕ) → 97 ≤ c → c ≤ 122 → upper c ≡ c - 97 + 65
unfolding upper
upper-lower c h k = rw (inside 97 122 c h k)

pub writes-text : WritesText
writes-text guid text = (
  (
    λ e. (write-length guid text e, eqb-true (length text) 36 (not_f _ (or-false-r _ _ (passes 1 (write_rows guid text) (write-rows guid text e))))),
    λ w. ap (λ (o : Outcome). o.number) (sym (write_done guid text _ w.0 w.1 refl)),
  ),
  λ e b. subst (λ (t : List ℕ). StandsFor t guid × ((i : ℕ) → ¬ ((97 ≤ get_or t i 0) × (get_or t i 0 ≤ 122)))) (sym (write-buffer guid text e))
      (written (write-length guid text e) b),
)
  where
    written : length guid ≡ 16 → are_bytes guid ≡ true → StandsFor (text_of guid) guid
        × ((i : ℕ) → ¬ ((97 ≤ get_or (text_of guid) i 0) × (get_or (text_of guid) i 0 ≤ 122)))
    written l b =
        let is = text-is guid l b in
        let back = stored-text guid l b in
        let same : text_of guid ≡ map upper (text_of guid) = ap text_of (sym back) ∙ text-stored (text_of guid) is in
        (subst (StandsFor (text_of guid)) back (stands (text_of guid) is), λ i w. lower (text_of guid) same i w (dec_lt i (length (text_of guid))))
      where
        lower : (t : List ℕ) → t ≡ map upper t → (i : ℕ) → (97 ≤ get_or t i 0) × (get_or t i 0 ≤ 122) → Dec (i < length t) → ⊥
        lower t e i w (no h) = let z = get_or-eq_default t 0 {n = i} (omega arith) in let a = w.0 in omega arith
        lower t e i w (yes h) =
            let q = ap (λ (xs : List ℕ). get_or xs i 0) e ∙ get_d_map upper t i 0 0 h in
            let u = upper-lower (get_or t i 0) w.0 w.1 in
            let a = w.0 in
            omega arith

-- a text that is no short name
expand-none : (t : List ℕ) → t ≢ ascii "system" → t ≢ ascii "msft" → t ≢ ascii "data" → t ≢ ascii "linux" → t ≢ ascii "swap" → expand t ≡ t
unfolding expand short_at
expand-none t a b c d e =
    rw (
      same_false t (ascii
          "system") a,
      same_false t (ascii "msft") b,
      same_false t (ascii "data") c,
      same_false t (ascii "linux") d,
      same_false t (ascii "swap") e,
      find_ix,
    )

pub reads-types : ReadsTypes
unfolding expand short_at same ◌and◌
reads-types = record {
  system = λ g. refl;
  msft = λ g. refl;
  basic = λ g. refl;
  linux = λ g. refl;
  swap = λ g. refl;
  other = λ t g a b c d e. ap (λ (x : List ℕ). read_of x g) (expand-none t a b c d e);
}
