-- The block size that a caller names: its shape, the calls by it, and what holds after every list of them.
use mathlib.Core.Path.{◌≡◌, refl, sym, ap, subst, ◌∙◌}
use mathlib.Core.Logic.{◌↔◌}
use mathlib.Core.Bool.{Bool, true, false, cond}
use mathlib.Core.List.{List, []}
use Rattle.std.specs.Prelude.{Option, None, Some}
use Prim.Native.Nat.{ℕ, ◌-◌, ◌*◌, ◌≤◌}
use native.Mathlib.Omega.{arith}
use lib.Dec.{eqb}
use borrow.Author.Tests.{eqb-true, leb-true, le-leb, ne_eqb}
use Rattle.octets.proofs.Bools.{and_l, and_r, and_i}
use Rattle.gpt_model.specs.Disk.{Shape, disk512, disk4096, last_usable, usable, in_range, primary, backup, entries_block, lent_bytes, header_bytes}
use Rattle.gpt_model.specs.Calls.{Call, refused, accepted, outcome, step, format}
use Rattle.gpt_model.specs.Sizes.{shape_of, on_shape, step_by, format_by}
use Rattle.gpt_model.specs.Lists.{Snapshot, after_all, start_after}
use Rattle.gpt_model.specs.Claims.{Sound, Formats, AfterLists, AfterListsAt, AfterListsAt512, AfterListsAt4096, Demand3At512, Demand3At4096}
use Rattle.gpt_model.specs.Claims.{NamesDifferIn, OneByNameAt512, OneByNameAt4096, ShapesBySize, OnItsShape, OtherSizeRefused, WholeBlocks}
use Rattle.gpt_model.specs.Claims.{Numbers512, Numbers4096}
use Rattle.gpt_model.specs.AttributeClaims.{NoneOffendsIn, BitsStayZeroAt512, BitsStayZeroAt4096}
use Rattle.gpt_model.proofs.Demand3.{demand3}
use Rattle.gpt_model.proofs.Names.{one_by_name}
use Rattle.gpt_model.proofs.Checks.{bits_stay_zero}

pub shapes_by_size : ShapesBySize
unfolding shape_of
shapes_by_size = (
  refl,
  refl,
  λ size a b.
      ap (λ (p : Bool). cond p (Some disk512) (cond (eqb size 4096) (Some disk4096) None)) (ne_eqb size 512 a)
      ∙ ap (λ (p : Bool). cond p (Some disk4096) None) (ne_eqb size 4096 b),
)

pub at512 : (size : ℕ) → size ≡ 512 → shape_of size ≡ Some disk512
at512 size e = ap shape_of e ∙ shapes_by_size.0

pub at4096 : (size : ℕ) → size ≡ 4096 → shape_of size ≡ Some disk4096
at4096 size e = ap shape_of e ∙ shapes_by_size.1

-- what holds of both shapes, each by its size, holds of the shape of every block size
pub by_size : (P : ℕ → Shape → Type 0) → P 512 disk512 → P 4096 disk4096 → (size : ℕ) (g : Shape) → shape_of size ≡ Some g → P size g
unfolding shape_of
by_size P a b size g e = go (eqb size 512) (eqb size 4096) refl refl e
  where
    go : (p q : Bool) → eqb size 512 ≡ p → eqb size 4096 ≡ q → cond p (Some disk512) (cond q (Some disk4096) None) ≡ Some g → P size g
    go true q x y r =
        let w : disk512 ≡ g = cc in
        subst (λ (s : ℕ). P s g) (sym (eqb-true size 512 x)) (subst (λ (s : Shape). P 512 s) w a)
    go false true x y r =
        let w : disk4096 ≡ g = cc in
        subst (λ (s : ℕ). P s g) (sym (eqb-true size 4096 y)) (subst (λ (s : Shape). P 4096 s) w b)
    go false false x y r = absurd cc

pub whole_blocks : WholeBlocks
whole_blocks =
    by_size (λ size g. (size ≡ g.block) × (lent_bytes g primary ≡ g.first * g.block) × (lent_bytes g backup ≡ (g.first - 1) * g.block))
    (refl, refl, refl) (refl, refl, refl)

-- ---- the calls

pub on_its_shape : OnItsShape
unfolding step_by format_by
on_its_shape size n h t g e = (
  λ c. ap (λ (s : Option Shape). on_shape s h t (λ g. step g n h t c)) e,
  λ guid. ap (λ (s : Option Shape). on_shape s h t (λ g. format g n guid h t)) e,
)

pub step-none : (size n : ℕ) (h t : List ℕ) → shape_of size ≡ None → (c : Call) → step_by size n h t c ≡ outcome (refused 6) h t
unfolding step_by
step-none size n h t e c = ap (λ (s : Option Shape). on_shape s h t (λ g. step g n h t c)) e

pub format-none : (size n : ℕ) (h t : List ℕ) → shape_of size ≡ None → (guid : List ℕ) → format_by size n guid h t ≡ outcome (refused 6) h t
unfolding format_by
format-none size n h t e guid = ap (λ (s : Option Shape). on_shape s h t (λ g. format g n guid h t)) e

pub other_size_refused : OtherSizeRefused
other_size_refused size n h t a b = (step-none size n h t (shapes_by_size.2 size a b), format-none size n h t (shapes_by_size.2 size a b))

-- N is in the range of a shape, in plain numbers
in-range : (g : Shape) (n : ℕ) → (in_range g n ≡ true) ↔ ((2 * g.first ≤ n) × (n ≤ 4294967296))
in-range g n = (λ e. (leb-true _ _ (and_l _ _ e), leb-true _ _ (and_r _ _ e)), λ w. and_i _ _ (le-leb _ _ w.0) (le-leb _ _ w.1))

-- ---- what holds after every list of calls, of the calls by the block size

module _ (Holds : List Call → Shape → ℕ → Snapshot → Type 0) (after : AfterLists Holds) where
  after-by : (size : ℕ) (g : Shape) → shape_of size ≡ Some g → (n : ℕ) (guid h t : List ℕ) → Formats g n guid h t → (cs : List Call)
      → ((format_by size n guid h t).answer ≡ accepted []) × Holds cs g n (after_all (step_by size n) cs (start_after (format_by size n guid h t)))
  unfolding step_by format_by
  after-by size g e n guid h t f cs =
      subst
      (λ (s : Option Shape).
      ((on_shape s h t (λ g. format g n guid h t)).answer ≡ accepted [])
      × Holds cs g n (after_all (λ h t c. on_shape s h t (λ g. step g n h t c)) cs (start_after (on_shape s h t (λ g. format g n guid h t)))))
      (sym e) (after g n guid h t f cs)

  after-at : (size : ℕ) (g : Shape) → shape_of size ≡ Some g → header_bytes ≤ g.block
      → AfterListsAt size g (2 * g.first) (lent_bytes g primary) (lent_bytes g backup) Holds
  after-at size g e wide n guid h t lo hi lg z lh lt =
      after-by size g e n guid h t
      (record { wide = wide; range = (in-range g n).1 (lo, hi); len_guid = lg; nonzero = z; len_head = lh; len_tail = lt })

  at-512 : AfterListsAt512 Holds
  at-512 = after-at 512 disk512 shapes_by_size.0 (omega arith)

  at-4096 : AfterListsAt4096 Holds
  at-4096 = after-at 4096 disk4096 shapes_by_size.1 (omega arith)

pub demand3_at512 : Demand3At512
demand3_at512 = at-512 (λ cs. Sound) demand3

pub demand3_at4096 : Demand3At4096
demand3_at4096 = at-4096 (λ cs. Sound) demand3

pub one_by_name_at512 : OneByNameAt512
one_by_name_at512 = at-512 (λ cs. NamesDifferIn) one_by_name

pub one_by_name_at4096 : OneByNameAt4096
one_by_name_at4096 = at-4096 (λ cs. NamesDifferIn) one_by_name

pub bits_stay_zero_at512 : BitsStayZeroAt512
bits_stay_zero_at512 = at-512 NoneOffendsIn bits_stay_zero

pub bits_stay_zero_at4096 : BitsStayZeroAt4096
bits_stay_zero_at4096 = at-4096 NoneOffendsIn bits_stay_zero

-- ---- the numbers

-- the last usable block, the block before the backup's entries, and how many blocks are usable, by the first usable block
usable-blocks : (g : Shape) (n : ℕ) → 1 ≤ g.first → 2 * g.first ≤ n
    → (last_usable g n ≡ n - g.first) × (entries_block g backup n ≡ n - (g.first - 1)) × (usable g n ≡ n - (2 * g.first - 1))
usable-blocks g n b l = (refl, omega arith, omega arith)

pub numbers512 : Numbers512
numbers512 = record { head = refl; tail = refl; range = in-range disk512; first = refl; blocks = λ n l. usable-blocks disk512 n (omega arith) l }

pub numbers4096 : Numbers4096
numbers4096 = record { head = refl; tail = refl; range = in-range disk4096; first = refl; blocks = λ n l. usable-blocks disk4096 n (omega arith) l }
