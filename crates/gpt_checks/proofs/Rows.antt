-- The rows that come before a call's work, from the tests of the code.
use mathlib.Core.Path.{◌≡◌, refl, sym, ap, ap₂, ◌∙◌}
use mathlib.Core.Bool.{Bool, true, false, not}
use mathlib.Core.List.{List}
use mathlib.Core.Option.{Option, none, some}
use Prim.Native.Nat.{ℕ, ◌≤◌, ◌<◌}
use native.Mathlib.Omega.{arith}
use lib.Dec.{leb, eqb}
use lib.ListN.{length}
use borrow.Author.Tests.{eq-eqb, ne_eqb, eqb-false, leb-true}
use Rattle.octets.specs.Tests.{◌and◌, any}
use Rattle.octets.specs.Bytes.{part, is_zero}
use Rattle.octets.specs.Rows.{pick_row, refusal}
use Rattle.octets.proofs.Bools.{and_l, and_r, and_i, and-t, and-f, and-false-l, some-none, or-il, or-ir, or-false-i, not_f, bool_cases}
use Rattle.octets.proofs.Rows.{pick-none, pick_true, pick-false}
use Rattle.gpt_model.specs.Table.{unique_of, partition_name_of, name_bytes, unused, entries}
use Rattle.gpt_model.specs.Calls.{lent_rows, carries, name_taken}
use Rattle.gpt_model.specs.Disk.{Shape, primary, backup, lent_bytes, in_range}
use Rattle.gpt_places.specs.Invariants.{Legal, Fits}
use Rattle.std.specs.Prelude as std
use Rattle.std.specs.Prelude.{position}
use Rattle.gpt_table.proofs.Entries.{some-place}
use Rattle.std.specs.Prelude.{Result, Ok, Err, IsErr, IsErrAnd}
use Rattle.gpt_checks.specs.Checks.{stop_of}
use Rattle.gpt_checks.specs.Refusals.{number_of}
use Rattle.gpt_checks.specs.declared.Refusal.{Refusal}

-- ---- checks one after another

-- what a `?` hands on
pub handed : {B : Type 0} (y : Result B Refusal) (r : Refusal) → IsErr y → IsErrAnd y (λ z. z ≡ r) → stop_of y ≡ some (number_of r)
handed (Ok b) r v w = absurd w
handed (Err z) r v w = ap (λ (k : Refusal). some (number_of k)) w

-- the check of one row, where the rows qs come behind it
pub row_passes : (b : Bool) (k : ℕ) (q : Option ℕ) → none ≡ pick_row b k none → pick_row b k q ≡ q
row_passes b k q e = pick-false b k q (pick-none b k none (sym e)).0

pub row_ends : (b : Bool) (k j : ℕ) (q : Option ℕ) → some j ≡ pick_row b k none → pick_row b k q ≡ some j
unfolding pick_row
row_ends true k j q e = sym e
row_ends false k j q e = absurd (some-none e)

pub and_true : (a b : Bool) → a ≡ true → (a and b) ≡ b
and_true a b e = sym (and-t e refl)

pub ruleset one_row = (handed, row_passes, row_ends, and-false-l, and_true, or-il, or-ir, or-false-i)

-- ---- row 2

pub range-passes : (g : Shape) (n : ℕ) {b : Bool} → Legal g → b ≡ in_range g n → none ≡ pick_row (not b) 2 none → Fits g n
range-passes g n {b} l e p =
    let w : in_range g n ≡ true = sym e ∙ not_f _ (pick-none (not b) 2 none (sym p)).0 in
    record { legal = l; least = leb-true _ _ (and_l _ _ w) }

-- ---- rows 12, 13 of a slot

-- row 12 does not hold
pub slot-number : (k : ℕ) → not (leb 1 k and leb k 128) ≡ false → (1 ≤ k) × (k ≤ 128)
slot-number k e = let w = not_f _ e in (leb-true _ _ (and_l _ _ w), leb-true _ _ (and_r _ _ w))

pub slot-passes : (k : ℕ) {b : Bool} → b ≡ (leb 1 k and leb k 128) → none ≡ pick_row (not b) 12 none → (1 ≤ k) × (k ≤ 128)
slot-passes k {b} e p = slot-number k (ap not (sym e) ∙ (pick-none (not b) 12 none (sym p)).0)

-- ---- row 20 of resizing

pub size-passes : (size : ℕ) → none ≡ pick_row (eqb size 0) 20 none → 0 < size
size-passes size e = let w = eqb-false size 0 (pick-none (eqb size 0) 20 none (sym e)).0 in omega arith

-- ---- row 24 of adding

pub full_is : (es : List ℕ) {t : List (List ℕ)} {i : std.Option ℕ} {b : Bool} → t ≡ entries es → i ≡ position unused t → std.is_some i ≡ not b
    → b ≡ not (any unused (entries es))
full_is es {b = b} e q r = twice b ∙ ap not (sym r ∙ ap std.is_some (q ∙ ap (position unused) e) ∙ some-place unused (entries es))
  where
    twice : (b : Bool) → b ≡ not (not b)
    twice true = refl
    twice false = refl

-- ---- rows 22 and 26 of adding, 26 of renaming: a part that a used entry carries

pub unique-is : (es unique : List ℕ) (t : List (List ℕ)) (b : Bool) → length unique ≡ 16 → t ≡ entries es → b ≡ any (carries (part 16 (length unique)) unique) t
    → b ≡ any (carries unique_of unique) (entries es)
unique-is es unique t b l e q = q ∙ ap₂ (λ (k : ℕ) (ds : List (List ℕ)). any (carries (part 16 k) unique) ds) l e

-- the bytes x of the name
module _ (ds : List (List ℕ)) (name x : List ℕ) (e : x ≡ name_bytes name) where
  pub name-empty : is_zero x ≡ true → false ≡ name_taken ds name
  name-empty z = sym (and-false-l _ _ (ap not (sym (ap is_zero e) ∙ z)))

  pub name_is : length x ≡ 72 → is_zero x ≡ false → (b : Bool) → b ≡ any (carries (part 56 (length x)) x) ds → b ≡ name_taken ds name
  name_is l z b q =
      and-t (ap not (sym (ap is_zero e) ∙ z))
      (q ∙ ap (λ (k : ℕ). any (carries (part 56 k) x) ds) l ∙ ap (λ (y : List ℕ). any (carries partition_name_of y) ds) e)

-- ---- what the trace names: row 1 of the lent buffers

module _ (g : Shape) (n : ℕ) (h t : List ℕ) where
  pub head-wrong : (length h ≡ lent_bytes g primary → ⊥) → some 1 ≡ refusal (lent_rows g n h t true)
  unfolding ◌and◌
  head-wrong f = sym (pick_true _ 1 _ (rw (ne_eqb (length h) (lent_bytes g primary) f)))

  pub tail-wrong : length h ≡ lent_bytes g primary → (length t ≡ lent_bytes g backup → ⊥) → some 1 ≡ refusal (lent_rows g n h t true)
  unfolding ◌and◌
  tail-wrong e f = sym (pick_true _ 1 _ (rw (eq-eqb (length h) (lent_bytes g primary) e, ne_eqb (length t) (lent_bytes g backup) f)))
