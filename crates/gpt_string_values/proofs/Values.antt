-- Laws of values: a name as units, a GUID that was read.
use mathlib.Core.Path.{◌≡◌, refl, sym, ap, ◌∙◌}
use mathlib.Core.Logic.{◌⊎◌, inl, inr}
use mathlib.Core.Bool.{Bool, true, false, cond}
use mathlib.Core.List.{List, [], ◌∷◌, ◌++◌}
use mathlib.Core.Option as maybe
use Rattle.std.specs.Prelude.{Option, None, Some, nat_lt}
use Rattle.std.specs.List.{position, position_or_len}
use Prim.Native.Nat.{ℕ, zero, suc, ◌+◌, ◌-◌, ◌≤◌, ◌<◌}
use native.Mathlib.Nat.{zero-add}
use native.Mathlib.Numerals.{add-one}
use native.Mathlib.Omega.{arith}
use lib.ListN.{length, get_or, set, take, drop, replicate, length-replicate}
use lib.Seq.{take-suc, take_all, length-take-le}
use borrow.Author.Tests.{ltb-true, ltb-false}
use Rattle.octets.specs.Tests.{find_ix}
use Rattle.octets.proofs.Chains.{place_list, place_within}
use Rattle.octets.specs.Ascii.{ascii}
use Rattle.octets.specs.Tests.{◌and◌}
use Rattle.octets.specs.Bytes.{rest, same, put}
use Rattle.octets.proofs.Bools.{bool_cases}
use Rattle.octets.proofs.Equal.{same_true, same_length}
use Rattle.octets.proofs.Parts.{rest-slice}
use Rattle.octets.proofs.Puts.{put-snoc, put-eq, put_all}
use Rattle.guid.specs.Text.{is_guid_text, stored_of}
use Rattle.guid.specs.Calls.{Outcome, number_of, read_of}
use Rattle.guid.specs.declared.Refusal.{Refusal}
use Rattle.guid.specs.declared.Refusal.TheVariants.{WrongLength, NotGuidText}
use Rattle.guid.proofs.Calls.{length-stored, read-text, read_done}
use Rattle.gpt_model.specs.Calls.{is_none}
use Rattle.text_words.specs.Numerals.{Begun, some_digits}
use Rattle.text_words.specs.declared.digits.Numeral.{Numeral}
use Rattle.text_words.proofs.Numerals.{digits-in-word}
use Rattle.std.specs.Prelude.{Ok, Err}
use Rattle.std.specs.Result.{result_ok}
use Rattle.gpt_string_model.specs.Text.{units, factor_in, multiplied, byte_count_by, byte_count, name_units}

-- what `&xs[k..]` lends
pub slice-rest : (k : ℕ) (xs : List ℕ) → take (length xs - k) (drop k xs) ≡ drop k xs
unfolding rest
slice-rest k xs = rest-slice k xs

-- ---- the cut at a byte

module _ (p : ℕ → Bool) (xs : List ℕ) where
  by_place : (b : Bool) → nat_lt (position_or_len p xs) (length xs) ≡ b → (o : Option ℕ) → position p xs ≡ o
      → o ≡ cond b (Some (position_or_len p xs)) None
  by_place b e o q = rw e at (sym q)

  pub place-some : (k : ℕ) → position p xs ≡ Some k → (find_ix p xs ≡ k) × (k < length xs)
  place-some k q = go (bool_cases (nat_lt (position_or_len p xs) (length xs)))
    where
      go : (nat_lt (position_or_len p xs) (length xs) ≡ true) ⊎ (nat_lt (position_or_len p xs) (length xs) ≡ false) → (find_ix p xs ≡ k) × (k < length xs)
      go (inl t) =
          let e = by_place true t _ q in
          let z : position_or_len p xs ≡ k = cc in
          (sym (place_list p xs) ∙ z, rw z at (ltb-true _ _ t))
      go (inr t) = let e = by_place false t _ q in cc

  pub place-none : position p xs ≡ None → find_ix p xs ≡ length xs
  place-none q = go (bool_cases (nat_lt (position_or_len p xs) (length xs)))
    where
      go : (nat_lt (position_or_len p xs) (length xs) ≡ true) ⊎ (nat_lt (position_or_len p xs) (length xs) ≡ false) → find_ix p xs ≡ length xs
      go (inl t) = let e = by_place true t _ q in cc
      go (inr t) = omega (arith, ltb-false _ _ t, place_list p xs, place_within p xs)

-- ---- the factor of a unit

module _ (u : List ℕ) where
  pub factor-nothing : length u ≡ 0 → Some 1 ≡ factor_in units u
  unfolding factor_in same
  factor-nothing h = go u h
    where
      go : (u : List ℕ) → length u ≡ 0 → Some 1 ≡ factor_in units u
      go [] h = refl
      go (x ∷ xs) h = absurd (omega arith)

  pub factor-kib : same u (ascii "KiB") ≡ true → Some 1024 ≡ factor_in units u
  unfolding factor_in same ◌and◌
  factor-kib e = rw (same_true u (ascii "KiB") e)

  pub factor-mib : same u (ascii "MiB") ≡ true → Some 1048576 ≡ factor_in units u
  unfolding factor_in same ◌and◌
  factor-mib e = rw (same_true u (ascii "MiB") e)

  pub factor-gib : same u (ascii "GiB") ≡ true → Some 1073741824 ≡ factor_in units u
  unfolding factor_in same ◌and◌
  factor-gib e = rw (same_true u (ascii "GiB") e)

  pub factor-other : (length u ≡ 0 → ⊥) → same u (ascii "KiB") ≡ false → same u (ascii "MiB") ≡ false → same u (ascii "GiB") ≡ false
      → None ≡ factor_in units u
  unfolding factor_in
  factor-other h k m g = rw (same_length u [] h, k, m, g)

-- ---- the number before it

module _ (v : List ℕ) (r : Begun) (e : r ≡ some_digits 18446744073709551615 10 v 0) (o : Option Numeral) (is-o : o ≡ result_ok r) where
  begun : (r : Begun) (n : Numeral) → Some n ≡ result_ok r → r ≡ Ok n
  begun (Ok m) n q = cc
  begun (Err x) n q = cc

  -- the digits end in v, and what stands behind them says what they count
  pub count-some : (n : Numeral) → o ≡ Some n → (n.end ≤ length v) × (multiplied n.value (factor_in units (drop n.end v)) ≡ byte_count v)
  unfolding byte_count
  count-some n q =
      let b = begun r n (sym q ∙ is-o) in
      (digits-in-word 18446744073709551615 10 v e b, ap (λ (x : Begun). byte_count_by x v) (sym b ∙ e))

  pub count-none : o ≡ None → None ≡ byte_count v
  unfolding byte_count
  count-none q = go r refl
    where
      go : (x : Begun) → r ≡ x → None ≡ byte_count_by (some_digits 18446744073709551615 10 v 0) v
      go (Ok n) p = let z : Some n ≡ o = sym (ap result_ok p) ∙ sym is-o in cc
      go (Err x) p = ap (λ (y : Begun). byte_count_by y v) (sym p ∙ e)

-- ---- a name as units

units-left : (a b : ℕ) → a ≡ b → replicate {A = ℕ} a 0 ≡ replicate b 0
units-left a b e = ap (λ (k : ℕ). replicate k 0) e

drop-units : (k m : ℕ) → drop k (replicate {A = ℕ} m 0) ≡ replicate (m - k) 0
drop-units zero m = units-left m (m - 0) (omega arith)
drop-units (suc k) zero = units-left 0 (0 - suc k) (omega arith)
drop-units (suc k) (suc m) = drop-units k m ∙ units-left (m - k) (suc m - suc k) (omega arith)

-- the first i of them are written
abbrev pub named : List ℕ → ℕ → List ℕ
named v i = put 0 (take i v) (replicate 36 0)

module _ (v : List ℕ) where
  pub named_none : replicate 36 0 ≡ named v 0
  unfolding put
  named_none = refl

  pub named-on : (i : ℕ) → i < length v → set (named v i) i (get_or v i 0) ≡ named v (i + 1)
  named-on i h = sym
      (rw (add-one, take-suc v i 0 h)
      (put-snoc (take i v) (replicate 36 0) (get_or v i 0) 0
      ∙ ap (λ (k : ℕ). set (named v i) k (get_or v i 0)) (omega (arith, length-take-le i v (omega arith)))))

  pub named-all : (i : ℕ) → length v ≤ 36 → length v ≤ i → named v i ≡ name_units v
  named-all i h l =
      ap (λ (w : List ℕ). put 0 w (replicate 36 0)) (take_all i v l)
      ∙ put-eq 0 v (replicate 36 0) (omega (arith, length-replicate {A = ℕ} 36 0))
      ∙ rw zero-add (ap (λ (w : List ℕ). v ++ w) (drop-units (length v) 36))

-- ---- a GUID that was read

-- the answer a, and the bytes b afterwards
pub guid-read : (v g : List ℕ) (a : maybe.Option ℕ) (b : List ℕ) → length g ≡ 16 → record { number = a; buffer = b } ≡ read_of v g
    → cond (is_none a) (Some b) None ≡ cond (is_guid_text v) (Some (stored_of v)) None
guid-read v g a b l e = go (bool_cases (is_guid_text v))
  where
    by : (o : Outcome) → record { number = a; buffer = b } ≡ o → cond (is_none a) (Some b) None ≡ cond (is_none o.number) (Some o.buffer) None
    by o q = ap (λ (x : Outcome). cond (is_none x.number) (Some x.buffer) None) q

    go : (is_guid_text v ≡ true) ⊎ (is_guid_text v ≡ false) → cond (is_none a) (Some b) None ≡ cond (is_guid_text v) (Some (stored_of v)) None
    go (inl t) = rw t (by _ (e ∙ sym (read_done v g (stored_of v) l t (sym (put_all (stored_of v) g (length-stored v t ∙ sym l))))))
    go (inr t) = rw t (by _ (e ∙ sym (read-text v g l t)))

pub unread : (r : Refusal) (b : List ℕ) → cond (is_none (number_of {A = Unit {0}} (Err r))) (Some b) None ≡ None
unread WrongLength b = refl
unread NotGuidText b = refl
