-- Laws of the judgement of a text, and of each way out of the calls.
use mathlib.Core.Path.{◌≡◌, refl, sym, ap, ◌∙◌}
use mathlib.Core.Bool.{true, false, not}
use lib.Dec.{eqb}
use Rattle.std.specs.Cmp.Lexicographic.{pointwise}
use mathlib.Core.List.{List}
use mathlib.Core.Option.{none, some}
use Rattle.std.specs.Prelude.{Option, Some, None, Result, Ok, Err}
use Rattle.std.specs.Option.{ok_or}
use Rattle.std.specs.Result.{IsErr, IsErrAnd}
use Prim.Native.Nat.{ℕ}
use native.Mathlib.Omega.{arith}
use lib.ListN.{length}
use borrow.Author.Rules.{rules}
use borrow.Author.Tests.{eqb-true, eq-eqb, ne_eqb}
use Rattle.octets.specs.Ascii.{ascii}
use Rattle.octets.specs.Bytes.{put, same}
use Rattle.octets.specs.Rows.{pick_row}
use Rattle.octets.specs.Tests.{◌and◌, ◌or◌, all}
use Rattle.octets.proofs.Bools.{and_l, and_r, not_t, not_f}
use Rattle.octets.proofs.Equal.{same_true, same-pointwise}
use Rattle.octets.proofs.Puts.{put_all}
use Rattle.guid.specs.Hex.{is_hex_digit, bytes_of, digits_of}
use Rattle.guid.specs.Text.{digits_in, dashes_in, is_guid_text, reordered, stored_of, text_of}
use Rattle.guid.specs.Calls.{unless_refused, read_of, write_of}
use Rattle.guid.specs.declared.Refusal.{Refusal}
use Rattle.guid.proofs.Hex.{length-bytes, length_digits}
use Rattle.guid.proofs.Text.{length-digits_in, length-reordered, length-grouped}

-- ---- a refusal handed on by `?`

module _ {A : Type 0} where
  pub err_is : (y : Result A Refusal) (r : Refusal) → IsErr y → IsErrAnd y (λ z. z ≡ r) → y ≡ Err r
  err_is (Ok v) r h e = absurd (search rules)
  err_is (Err z) r h e = ap Err e

  pub ok_or-err : (o : Option A) (e : Refusal) {f : Refusal} → ok_or o e ≡ Err f → (o ≡ None) × (f ≡ e)
  ok_or-err None e q = (refl, cc)
  ok_or-err (Some x) e q = absurd (cc)

  pub ok_or-ok : (o : Option A) (e : Refusal) {x : A} → ok_or o e ≡ Ok x → o ≡ Some x
  ok_or-ok None e q = absurd (cc)
  ok_or-ok (Some y) e q = cc

-- ---- the judgement

module _ (t : List ℕ) where
  pub text-short : (length t ≡ 36 → ⊥) → false ≡ is_guid_text t
  unfolding is_guid_text ◌and◌
  text-short h = rw (ne_eqb (length t) 36 h)

  pub text-other : length t ≡ 36 → same (dashes_in t) (ascii "----") ≡ false → false ≡ is_guid_text t
  unfolding is_guid_text ◌and◌
  text-other l e = rw (eq-eqb (length t) 36 l, e)

  -- by the four bytes of u, which is t
  pub no_dashes : (u : List ℕ) → u ≡ t → not (pointwise eqb (dashes_in u) (ascii "----")) ≡ true → same (dashes_in t) (ascii "----") ≡ false
  no_dashes u e f = rw (← e) (sym (same-pointwise (dashes_in u) (ascii "----")) ∙ not_t _ f)

  pub all_dashes : (u : List ℕ) → u ≡ t → not (pointwise eqb (dashes_in u) (ascii "----")) ≡ false → same (dashes_in t) (ascii "----") ≡ true
  all_dashes u e f = rw (← e) (sym (same-pointwise (dashes_in u) (ascii "----")) ∙ not_f _ f)

  pub text-digits : length t ≡ 36 → same (dashes_in t) (ascii "----") ≡ true → all is_hex_digit (digits_in t) ≡ is_guid_text t
  unfolding is_guid_text ◌and◌
  text-digits l e = rw (eq-eqb (length t) 36 l, e)

  module _ (e : is_guid_text t ≡ true) where
    pub text-length : length t ≡ 36
    unfolding is_guid_text
    text-length = eqb-true (length t) 36 (and_l _ _ e)

    pub text-dashes : dashes_in t ≡ ascii "----"
    unfolding is_guid_text
    text-dashes = same_true (dashes_in t) (ascii "----") (and_l _ _ (and_r _ _ e))

    pub text-all : all is_hex_digit (digits_in t) ≡ true
    unfolding is_guid_text
    text-all = and_r _ _ (and_r _ _ e)

    pub length-stored : length (stored_of t) ≡ 16
    unfolding stored_of
    length-stored = length-reordered (bytes_of (digits_in t)) (length-bytes 16 (digits_in t) (length-digits_in t text-length))

pub length-text : (g : List ℕ) → length g ≡ 16 → length (text_of g) ≡ 36
unfolding text_of
length-text g l =
    let n = length-reordered g l in length-grouped (digits_of (reordered g)) (length_digits (reordered g) ∙ omega arith)

-- ---- reading into g

module _ (t g : List ℕ) where
  pub read_length : (length g ≡ 16 → ⊥) → record { number = some 1; buffer = g } ≡ read_of t g
  unfolding read_of unless_refused pick_row
  read_length h = rw (ne_eqb (length g) 16 h)

  pub read-text : length g ≡ 16 → is_guid_text t ≡ false → record { number = some 30; buffer = g } ≡ read_of t g
  unfolding read_of unless_refused pick_row
  read-text l e = rw (eq-eqb (length g) 16 l, e)

  pub read_done : (r : List ℕ) → length g ≡ 16 → is_guid_text t ≡ true → r ≡ put 0 (stored_of t) g → record { number = none; buffer = r } ≡ read_of t g
  unfolding read_of unless_refused pick_row
  read_done r l e p = rw (eq-eqb (length g) 16 l, e, p, put_all (stored_of t) g (length-stored t e ∙ sym l))

-- ---- writing g into t

module _ (g t : List ℕ) where
  pub write-guid : (length g ≡ 16 → ⊥) → record { number = some 1; buffer = t } ≡ write_of g t
  unfolding write_of unless_refused pick_row ◌or◌
  write-guid h = rw (ne_eqb (length g) 16 h)

  pub write-text : length g ≡ 16 → (length t ≡ 36 → ⊥) → record { number = some 1; buffer = t } ≡ write_of g t
  unfolding write_of unless_refused pick_row ◌or◌
  write-text l h = rw (eq-eqb (length g) 16 l, ne_eqb (length t) 36 h)

  pub write_done : (r : List ℕ) → length g ≡ 16 → length t ≡ 36 → r ≡ put 0 (text_of g) t → record { number = none; buffer = r } ≡ write_of g t
  unfolding write_of unless_refused pick_row ◌or◌
  write_done r l n p = rw (eq-eqb (length g) 16 l, eq-eqb (length t) 36 n, p, put_all (text_of g) t (length-text g l ∙ sym n))
