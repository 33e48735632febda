-- Laws of the rows of the whole list, one after the other.
use Rattle.std.specs.Prelude.{Option, Some, None, Result, Ok, Err, IsErrAnd}
use mathlib.Core.Path.{◌≡◌, refl, sym, ap, ◌∙◌}
use mathlib.Core.Bool.{true, false}
use mathlib.Core.List.{List, []}
use Prim.Native.Nat.{ℕ, ◌+◌, ◌-◌, ◌≤◌, ◌<◌}
use native.Mathlib.Nat.{sub-zero}
use native.Mathlib.Omega.{arith}
use lib.ListN.{length, get_or}
use Rattle.octets.specs.Rows.{pick_row}
use Rattle.fmd_table.specs.Table.{section_at, sections_in}
use Rattle.fmd_table.proofs.Table.{section-in}
use Rattle.fmd_table.specs.declared.Section.{Section}
use Rattle.fmd_table.specs.declared.Placed.{Placed}
use Rattle.fmd_table.specs.declared.SectionRow.{SectionRow}
use Rattle.fmd_parse.specs.Trees.{blank_section}
use Rattle.fmd_head.specs.declared.TextImage.{TextImage}
use Rattle.fmd_parse.specs.Rows.{found_from, first_repeat, first_cbfs, undecided, first_undecided, fmap_in}
use Rattle.fmd_parse.proofs.RowLoops.{first-stop, first_done, first-from}
use Rattle.fmd_check.specs.Plans.{Resolved, unfit, plan, resolve_from}
use Rattle.fmd_check.specs.Fitted.{Sized}
use Rattle.fmd_check.specs.Check.{fault, good, no_map, fault_place, index_of, check_list}
use Rattle.fmd_check.specs.Invariants.{check_from}

-- what `?` hands on of an error
pub stopped : {A E : Type 0} (r : Result A E) {e : E} → IsErrAnd r (λ y. y ≡ e) → r ≡ Err e
stopped (Ok a) p = absurd p
stopped (Err y) p = ap Err p

-- the place of section k
abbrev pub named : List Section → ℕ → Option ℕ
named l k = Some (get_or l k blank_section).place

-- .. where it stands in row k
pub named-in : (n : ℕ) (rows : List SectionRow) (k : ℕ) → k < n → Some (section_at rows k).place ≡ named (sections_in n rows) k
named-in n rows k h = ap (λ (x : Section). Some x.place) (sym (section-in n rows k blank_section h))

module _ (s : List ℕ) (i : TextImage) (l : List Section) where
  pub whole : check_from 0 s i l (resolve_from i.size [] l) ≡ check_list s i l
  unfolding check_from check_list
  whole = refl

  at_name : (n k : ℕ) {f : Option ℕ} → f ≡ Some k → fault n (named l k) ≡ fault n (fault_place l f)
  at_name n k e = rw e

  module _ (r : Resolved) where
    pub at-54 : (k : ℕ) → first_repeat s l ≡ Some k → fault 54 (named l k) ≡ check_from 0 s i l r
    unfolding check_from pick_row
    at-54 k e = rw e (at_name 54 k e)

    pub on-54 : first_repeat s l ≡ None → check_from 1 s i l r ≡ check_from 0 s i l r
    unfolding check_from pick_row
    on-54 e = rw e

    pub at-56 : (k : ℕ) → first_cbfs l ≡ Some k → fault 56 (named l k) ≡ check_from 1 s i l r
    unfolding check_from pick_row
    at-56 k e = rw e (at_name 56 k e)

    pub on-56 : first_cbfs l ≡ None → check_from 2 s i l r ≡ check_from 1 s i l r
    unfolding check_from pick_row
    on-56 e = rw e

    pub at-57 : (k : ℕ) → first_undecided l ≡ Some k → fault 57 (named l k) ≡ check_from 2 s i l r
    unfolding check_from pick_row
    at-57 k e = rw e (at_name 57 k e)

  pub at-58 : (k : ℕ) → first_undecided l ≡ None → fault 58 (named l k) ≡ check_from 2 s i l (unfit k)
  unfolding check_from pick_row
  at-58 k e = rw e

  module _ (ps : List Placed) where
    pub on-58 : first_undecided l ≡ None → check_from 4 s i l (plan ps) ≡ check_from 2 s i l (plan ps)
    unfolding check_from pick_row
    on-58 e = rw e

    pub no-map : fmap_in s l ≡ None → fault 59 None ≡ check_from 4 s i l (plan ps)
    unfolding check_from pick_row
    no-map e = rw e (ap (λ (f : Option ℕ). fault 59 (fault_place l f)) (sym e))

    pub bad-map : (k : ℕ) → fmap_in s l ≡ Some k → no_map l ps (Some k) ≡ true → fault 59 (named l k) ≡ check_from 4 s i l (plan ps)
    unfolding check_from pick_row
    bad-map k e q = rw (e, q) (at_name 59 k e)

    pub good-map : (k : ℕ) → fmap_in s l ≡ Some k → no_map l ps (Some k) ≡ false → good i l ps k ≡ check_from 4 s i l (plan ps)
    unfolding check_from pick_row
    good-map k e q = rw (e, q) (ap (λ (f : Option ℕ). good i l ps (index_of f)) (sym e))

-- ---- the first size undecided, where those below k are decided

module _ (l : List Section) (n k : ℕ) (m : length l ≡ n) where
  from-here : k ≤ n → Sized l k → found_from (undecided l) (n - k) k ≡ first_undecided l
  unfolding first_undecided
  from-here h d = rw m (first-from (undecided l) n k h d ∙ rw sub-zero)

  pub unsized-here : k < n → Sized l k → undecided l k ≡ true → first_undecided l ≡ Some k
  unsized-here h d e = sym (first-stop (undecided l) n k h e ∙ from-here (omega arith) d)

pub all-sized : (l : List Section) (n : ℕ) → length l ≡ n → Sized l n → first_undecided l ≡ None
all-sized l n m d = sym (first_done (undecided l) n n (omega arith) ∙ from-here l n n m (omega arith) d)

-- section k does not fit, and those up to it are decided: what is sought after it
pub after-unfit : (l : List Section) (n k : ℕ) → length l ≡ n → k < n → Sized l (k + 1) → found_from (undecided l) (n - (k + 1)) (k + 1) ≡ first_undecided l
after-unfit l n k m h d = from-here l n (k + 1) m (omega arith) d
