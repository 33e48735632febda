-- Every layout text: what holds of its refusal, or of what it is accepted with.
use Rattle.std.specs.Prelude.{Option, Some, None}
use mathlib.Core.Path.{◌≡◌, refl, subst}
use mathlib.Core.Bool.{Bool, true, false}
use mathlib.Core.List.{List, [], ◌∷◌}
use mathlib.Core.Logic.{◌⊎◌, inl, inr}
use Prim.Native.Nat.{ℕ, ◌≤◌, ◌<◌}
use native.Mathlib.Omega.{arith}
use lib.Dec.{ltb, leb, eqb}
use lib.ListN.{length, get_or}
use borrow.Author.Tests.{ltb-false, leb-true, eqb-true}
use Rattle.octets.specs.Tests.{◌and◌, ◌or◌, all, any}
use Rattle.octets.proofs.Bools.{choice, and_l, and_r, or_cases, or-false-l, or-false-r, clash}
use Rattle.fmap_rules.specs.Map.{map_size}
use Rattle.fmd_parse.specs.Trees.{blank_section, Tree, Imaged}
use Rattle.fmd_parse.specs.Claims.{LayoutFacts}
use Rattle.fmd_parse.specs.Layouts.{Layout, layout, refused, layout_of}
use Rattle.fmd_table.specs.Table.{blank_placed}
use Rattle.fmd_table.specs.declared.Section.{Section}
use Rattle.fmd_head.specs.declared.TextImage.{TextImage}
use Rattle.fmd_parse.proofs.Trees.{layout-facts}
use Rattle.fmd_parse.specs.Rows.{found_from, repeats, first_repeat, holds_cbfs, first_cbfs, undecided, first_undecided, is_fmap, fmap_in, has_child}
use Rattle.fmd_parse.proofs.RowLoops.{FirstFacts, first-facts}
use Rattle.fmd_check.specs.Plans.{Resolved, unfit, unsized, plan, resolve_from}
use Rattle.fmd_check.specs.Fitted.{Fitted}
use Rattle.fmd_check.specs.Claims.{ResolvedFacts, LayoutNumber, CheckedFacts}
use Rattle.fmd_table.specs.declared.Placed.{Placed}
use Rattle.fmd_check.proofs.Fitted.{resolve-facts}
use Rattle.fmd_check.specs.Check.{Checked, fault, no_map, check_layout, check_text}
use Rattle.fmd_check.specs.Invariants.{check_from}
use Rattle.fmd_check.proofs.Stages.{named, whole, at-54, on-54, at-56, on-56, at-57, at-58, on-58, no-map, bad-map, good-map}

-- the numbers of a list lie between two
between : (a b n : ℕ) (xs : List ℕ) → all (λ x. leb a x and leb x b) xs ≡ true → any (eqb n) xs ≡ true → (a ≤ n) × (n ≤ b)
between a b n [] w e = absurd (clash e refl)
between a b n (x ∷ xs) w e = cases (λ q. between a b n xs (and_r (leb a x and leb x b) _ w) q) (or_cases (eqb n x) (any (eqb n) xs) e)
  where
    cases : (any (eqb n) xs ≡ true → (a ≤ n) × (n ≤ b)) → (eqb n x ≡ true) ⊎ (any (eqb n) xs ≡ true) → (a ≤ n) × (n ≤ b)
    cases f (inl q) =
        let h = and_l (leb a x and leb x b) _ w in
        let e = eqb-true n x q in
        (rw e (leb-true a x (and_l (leb a x) _ h)), rw e (leb-true x b (and_r (leb a x) _ h)))
    cases f (inr q) = f q

module _ (s : List ℕ) (i : TextImage) (l : List Section) (short : length s ≤ 32768) (image : Imaged s i) (tree : Tree s l) (some : 0 < length l) where
  -- the place of a section's name lies in the text
  here : (k : ℕ) → k < length l → (get_or l k blank_section).place ≤ length s
  here k h = let w = (tree.each k h).named.inside in omega arith

  -- a row over the whole list, judged as c: its fault, or what comes after it, d, with what was found not to be
  row-facts : (p : ℕ → Bool) (n : ℕ) (c d : Checked) → LayoutNumber n → ((k : ℕ) → found_from p (length l) 0 ≡ Some k → fault n (named l k) ≡ c)
      → (found_from p (length l) 0 ≡ None → d ≡ c) → (((k : ℕ) → k < length l → p k ≡ false) → CheckedFacts s d) → CheckedFacts s c
  row-facts p n c d num at on g = by-found (found_from p (length l) 0) (first-facts p (length l) 0) refl
    where
      by-found : (f : Option ℕ) → FirstFacts p (length l) 0 f → found_from p (length l) 0 ≡ f → CheckedFacts s c
      by-found (Some k) w e = subst (CheckedFacts s) (at k e) (num, here k (omega (arith, w.0)))
      by-found None w e = subst (CheckedFacts s) (on e) (g (λ k h. w k (omega arith) (omega arith)))

  module _ (differ : (k : ℕ) → k < length l → repeats s l k ≡ false) where
    module _ (ps : List Placed) (fitted : Fitted i.size l ps) where
      leaf-facts : (k : ℕ) → k < length l → is_fmap s l k ≡ true → fmap_in s l ≡ Some k → CheckedFacts s (check_from 4 s i l (plan ps))
      leaf-facts k h e f = by_size (no_map l ps (Some k)) refl
        where
          by_size : (b : Bool) → no_map l ps (Some k) ≡ b → CheckedFacts s (check_from 4 s i l (plan ps))
          by_size true q = subst (CheckedFacts s) (bad-map s i l ps k f q) ((omega arith, omega arith), here k h)
          by_size false q =
              subst (CheckedFacts s) (good-map s i l ps k f q)
              (record {
                short = short;
                image = image;
                tree = tree;
                some = some;
                fitted = fitted;
                differ = differ;
                there = h;
                called = e;
                leaf = or-false-l (has_child l k) (ltb (get_or ps k blank_placed).size (map_size (length l))) q;
                room = ltb-false _ _ (or-false-r (has_child l k) (ltb (get_or ps k blank_placed).size (map_size (length l))) q);
              })

      map-facts : CheckedFacts s (check_from 4 s i l (plan ps))
      unfolding fmap_in
      map-facts = by-found (found_from (is_fmap s l) (length l) 0) (first-facts (is_fmap s l) (length l) 0) refl
        where
          by-found : (f : Option ℕ) → FirstFacts (is_fmap s l) (length l) 0 f → found_from (is_fmap s l) (length l) 0 ≡ f
              → CheckedFacts s (check_from 4 s i l (plan ps))
          by-found (Some k) w e = leaf-facts k (omega (arith, w.0)) w.1 e
          by-found None w e = subst (CheckedFacts s) (no-map s i l ps e) ((omega arith, omega arith), tt)

    places-facts : (r : Resolved) → ResolvedFacts i.size l r → CheckedFacts s (check_from 2 s i l r)
    unfolding first_undecided
    places-facts (unfit k) w =
        row-facts (undecided l) 57 _ _ (omega arith, omega arith) (at-57 s i l (unfit k)) (at-58 s i l k) (λ _. ((omega arith, omega arith), here k w.0))
    places-facts (unsized k) w =
        row-facts (undecided l) 57 _ (check_from 2 s i l (unsized k)) (omega arith, omega arith) (at-57 s i l (unsized k)) (λ _. refl)
        (λ f. absurd (clash w.2 (f k w.0)))
    places-facts (plan ps) w =
        row-facts (undecided l) 57 _ _ (omega arith, omega arith) (at-57 s i l (plan ps)) (on-58 s i l ps) (λ _. map-facts ps w.0)

  list-facts : CheckedFacts s (check_from 0 s i l (resolve_from i.size [] l))
  unfolding first_repeat first_cbfs
  list-facts =
      let r = resolve_from i.size [] l in
      row-facts (repeats s l) 54 _ _ (omega arith, omega arith) (at-54 s i l r) (on-54 s i l r)
      (λ d. row-facts (holds_cbfs l) 56 _ _ (omega arith, omega arith) (at-56 s i l r) (on-56 s i l r) (λ _. places-facts d r (resolve-facts i.size l)))

pub check-facts : (s : List ℕ) → CheckedFacts s (check_text s)
unfolding check_text ◌or◌ ◌and◌
check-facts s =
    choice (CheckedFacts s) (ltb 32768 (length s)) _ _ (λ e. ((omega arith, omega arith), tt))
    (λ e. by_layout (ltb-false 32768 (length s) e) (layout_of s) (layout-facts s))
  where
    by_layout : length s ≤ 32768 → (o : Layout) → LayoutFacts s o → CheckedFacts s (check_layout s o)
    by_layout h (refused n p) w = (between 50 59 n (51 ∷ 52 ∷ 53 ∷ 55 ∷ 56 ∷ []) refl w.0, w.1)
    by_layout h (layout i l) w = subst (CheckedFacts s) (whole s i l) (list-facts s i l h w.0 w.1 w.2)
