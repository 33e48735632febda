-- Laws of the resolution's loops over the two tables.
use Rattle.std.proofs.Common.{Ok, Err}
use mathlib.Core.Path.{◌≡◌, refl, sym, ap, ◌∙◌}
use mathlib.Core.List.{List, [], ◌∷◌, ◌++◌}
use Prim.Native.Nat.{ℕ, suc, ◌+◌, ◌<◌}
use native.Mathlib.Numerals.{add-one}
use native.Mathlib.Omega.{arith}
use lib.ListN.{get_or, drop, drop_of_length-le}
use lib.Seq.{drop-cons}
use borrow.Author.Tests.{eq-eqb, ne_eqb}
use Rattle.fmd_table.specs.Table.{listed, sections_in, placed_at, placed_in}
use Rattle.fmd_table.proofs.Listed.{listed_more}
use Rattle.fmd_table.proofs.Table.{length-sections}
use Rattle.fmd_table.proofs.Table.{length-placed, none-placed}
use Rattle.fmd_table.specs.declared.Placed.{Placed}
use Rattle.fmd_table.specs.declared.SectionRow.{SectionRow}
use Rattle.fmd_parse.specs.Trees.{blank_section}
use Rattle.fmd_check.specs.Plans.{end_with, sibling_end, spot_for, stopped_at, plan, resolve_from}
use Rattle.fmd_check.specs.declared.plan.Misfit.{Misfit}

-- ---- the end of the last section with a parent, sought from the last row back

end_snoc : (par e : ℕ) (ps : List Placed) (p : Placed) → sibling_end par e (ps ++ (p ∷ [])) ≡ end_with par (sibling_end par e ps) p
unfolding sibling_end
end_snoc par e [] p = refl
end_snoc par e (q ∷ ps) p = end_snoc par (end_with par e q) ps p

module _ (spots : List Placed) (par j : ℕ) {q : Placed} (p : q ≡ placed_at spots j) where
  -- row j, and those below it
  last : sibling_end par 0 (placed_in (suc j) spots) ≡ end_with par (sibling_end par 0 (placed_in j spots)) q
  unfolding placed_in
  last = rw (listed_more (placed_at spots) j, sym p) (end_snoc par 0 (listed (placed_at spots) j) q)

  pub end-stop : (i : ℕ) → i ≡ suc j → q.parent ≡ par → q.offset.0 + q.size ≡ sibling_end par 0 (placed_in i spots)
  unfolding end_with
  end-stop i w e = rw (w, last, eq-eqb q.parent par e)

  pub end_on : (i : ℕ) → i ≡ suc j → (q.parent ≡ par → ⊥) → sibling_end par 0 (placed_in j spots) ≡ sibling_end par 0 (placed_in i spots)
  unfolding end_with
  end_on i w e = rw (w, last, ne_eqb q.parent par e)

pub end-done : (spots : List Placed) (par j : ℕ) → j ≡ 0 → 0 ≡ sibling_end par 0 (placed_in j spots)
unfolding sibling_end
end-done spots par j e = rw (e, none-placed spots)

-- ---- section k of the first n rows, with the plan of those before it

module _ (n : ℕ) (rows : List SectionRow) (k : ℕ) (spots : List Placed) (z : ℕ) where
  here : k < n → drop k (sections_in n rows) ≡ get_or (sections_in n rows) k blank_section ∷ drop (k + 1) (sections_in n rows)
  here h =
      drop-cons (sections_in n rows) k blank_section (omega (arith, length-sections n rows))
      ∙ ap (λ (i : ℕ). get_or (sections_in n rows) k blank_section ∷ drop i (sections_in n rows)) (sym (add-one k))

  pub resolve-stop : (w : Misfit) → k < n
      → spot_for z (placed_in k spots) (get_or (sections_in n rows) k blank_section) (drop (k + 1) (sections_in n rows)) ≡ Err w
      → stopped_at w k ≡ resolve_from z (placed_in k spots) (drop k (sections_in n rows))
  unfolding resolve_from
  resolve-stop w h q = rw (here h, q, length-placed k spots)

  pub resolve-on : (new : List Placed) (x : Placed) → k < n
      → spot_for z (placed_in k spots) (get_or (sections_in n rows) k blank_section) (drop (k + 1) (sections_in n rows)) ≡ Ok x
      → placed_in (k + 1) new ≡ placed_in k spots ++ (x ∷ [])
      → resolve_from z (placed_in (k + 1) new) (drop (k + 1) (sections_in n rows)) ≡ resolve_from z (placed_in k spots) (drop k (sections_in n rows))
  unfolding resolve_from
  resolve-on new x h q t = rw (here h, q, t)

  pub resolve-done : k ≡ n → plan (placed_in n spots) ≡ resolve_from z (placed_in k spots) (drop k (sections_in n rows))
  unfolding resolve_from
  resolve-done h = rw (h, drop_of_length-le (sections_in n rows) {i = n} (omega (arith, length-sections n rows)))
