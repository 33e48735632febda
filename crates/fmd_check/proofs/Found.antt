-- The index that a row or the plan names is one of the list's.
use Rattle.std.specs.Prelude.{Some, None}
use mathlib.Core.Path.{◌≡◌, sym}
use mathlib.Core.Bool.{Bool}
use mathlib.Core.List.{List, []}
use Prim.Native.Nat.{ℕ, ◌+◌, ◌-◌, ◌≤◌, ◌<◌}
use native.Mathlib.Omega.{arith}
use lib.ListN.{length}
use Rattle.fmd_table.specs.Table.{sections_in}
use Rattle.fmd_table.proofs.Table.{length-sections}
use Rattle.fmd_parse.specs.Layouts.{layout, layout_of}
use Rattle.fmd_parse.specs.Claims.{LayoutFacts}
use Rattle.fmd_head.specs.declared.TextImage.{TextImage}
use Rattle.fmd_parse.proofs.Trees.{layout-facts}
use Rattle.fmd_parse.specs.Rows.{found_from, first_undecided}
use Rattle.fmd_parse.specs.Invariants.{Inside}
use Rattle.fmd_parse.proofs.RowLoops.{FirstFacts, first-facts, inside}
use Rattle.fmd_check.specs.Plans.{unfit, unsized, plan, resolve_from}
use Rattle.fmd_check.specs.Fitted.{Sized}
use Rattle.fmd_check.specs.Claims.{ResolvedFacts}
use Rattle.fmd_check.proofs.Fitted.{resolve-facts}
use Rattle.fmd_table.specs.declared.Placed.{Placed}
use Rattle.fmd_table.specs.declared.SectionRow.{SectionRow}
use Rattle.fmd_check.proofs.Stages.{unsized-here, all-sized}

module _ (n : ℕ) (rows : List SectionRow) where
  pub found_below : (p : ℕ → Bool) (k : ℕ) → found_from p (length (sections_in n rows)) 0 ≡ Some k → k < n
  found_below p k e =
      let w : FirstFacts p (length (sections_in n rows)) 0 (Some k) = rw e at (first-facts p (length (sections_in n rows)) 0) in
      omega (arith, w.0, length-sections n rows)

  -- what is sought from at on stands below n
  pub later-below : (p : ℕ → Bool) (at k : ℕ) → at ≤ n → found_from p (n - at) at ≡ Some k → k < n
  later-below p at k h e = let w : FirstFacts p (n - at) at (Some k) = rw e at (first-facts p (n - at) at) in omega (arith, w.0)

  pub unfit-facts : (z k : ℕ) → unfit k ≡ resolve_from z [] (sections_in n rows) → (k < n) × Sized (sections_in n rows) (k + 1)
  unfit-facts z k e =
      let w : ResolvedFacts z (sections_in n rows) (unfit k) = rw (sym e) at (resolve-facts z (sections_in n rows)) in
      (omega (arith, w.0, length-sections n rows), w.1)

  pub unsized-facts : (z k : ℕ) → unsized k ≡ resolve_from z [] (sections_in n rows) → (k < n) × (first_undecided (sections_in n rows) ≡ Some k)
  unsized-facts z k e =
      let w : ResolvedFacts z (sections_in n rows) (unsized k) = rw (sym e) at (resolve-facts z (sections_in n rows)) in
      let h : k < n = omega (arith, w.0, length-sections n rows) in
      (h, unsized-here (sections_in n rows) n k (length-sections n rows) h w.1 w.2)

  pub plan-facts : (z : ℕ) (ps : List Placed) → plan ps ≡ resolve_from z [] (sections_in n rows) → first_undecided (sections_in n rows) ≡ None
  plan-facts z ps e =
      let w : ResolvedFacts z (sections_in n rows) (plan ps) = rw (sym e) at (resolve-facts z (sections_in n rows)) in
      all-sized (sections_in n rows) n (length-sections n rows) (rw (length-sections n rows) at w.1)

-- what is read of a text stands in it
pub ready : (s : List ℕ) (i : TextImage) (n : ℕ) (rows : List SectionRow) → layout i (sections_in n rows) ≡ layout_of s → Inside s (sections_in n rows)
ready s i n rows e =
    let w : LayoutFacts s (layout i (sections_in n rows)) = rw (sym e) at (layout-facts s) in
    inside w.1
