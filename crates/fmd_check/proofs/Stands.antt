-- What each area says of its section, in positions and bytes.
use mathlib.Core.Path.{◌≡◌, refl, sym, ap, ◌∙◌}
use mathlib.Core.Logic.{◌⊎◌, inl, inr}
use mathlib.Core.Bool.{Bool, true, false, true≢false}
use mathlib.Core.List.{List, ◌++◌}
use Prim.Native.Nat.{ℕ, zero, suc, ◌+◌, ◌-◌, ◌≤◌, ◌<◌}
use native.Mathlib.Omega.{arith}
use native.Mathlib.Numerals.{add-one}
use native.Mathlib.Nat.{add-zero}
use lib.ListN.{length, get_or, get_or-append}
use lib.Seq.{get_or-append-add}
use Rattle.octets.specs.Bytes.{part, zeros}
use Rattle.octets.proofs.Parts.{length_part, get_d_part}
use Rattle.fmap_rules.specs.Map.{blank_area}
use Rattle.fmap_rules.specs.declared.Area.{Area}
use Rattle.fmd_parse.specs.Trees.{Tree}
use Rattle.fmd_table.specs.Table.{blank_placed}
use Rattle.fmd_table.specs.declared.Section.{Section}
use Rattle.fmd_table.specs.declared.Placed.{Placed}
use Rattle.fmd_check.specs.Fitted.{Fitted}
use Rattle.fmd_check.specs.Areas.{position_in, stored_name, flags_of, area_from, area_at, layout_areas}
use Rattle.fmd_check.specs.Nested.{start_at, AreaStands}
use Rattle.fmd_check.specs.Claims.{AreasStand}
use Rattle.fmd_check.proofs.Places.{Top, Child, above}
use Rattle.fmd_check.proofs.Shape.{area-at}
use Rattle.fmd_check.proofs.Names.{name-short, area-name-length}

-- a byte behind a part, in zeros
zero-at : (k j : ℕ) → get_or (zeros k) j 0 ≡ 0
unfolding zeros
zero-at zero j = refl
zero-at (suc k) zero = refl
zero-at (suc k) (suc j) = zero-at k j

stored-letter : (s : List ℕ) (p n j : ℕ) → p + n ≤ length s → j < n → get_or (stored_name s p n) j 0 ≡ get_or s (p + j) 0
unfolding stored_name
stored-letter s p n j h g =
    get_or-append (part p n s) (zeros (32 - n)) 0 j (omega (arith, length_part s p n h)) ∙ get_d_part s p n j g

stored-zero : (s : List ℕ) (p n j : ℕ) → p + n ≤ length s → n ≤ j → get_or (stored_name s p n) j 0 ≡ 0
unfolding stored_name
stored-zero s p n j h g =
    let e : j ≡ length (part p n s) + (j - n) = omega (arith, length_part s p n h) in
    ap (λ (i : ℕ). get_or (part p n s ++ zeros (32 - n)) i 0) e ∙ (get_or-append-add (part p n s) (zeros (32 - n)) (j - n) 0 ∙ zero-at (32 - n) (j - n))

flags-set : (b : Bool) → b ≡ true → flags_of b ≡ 8
flags-set true e = refl
flags-set false e = absurd (true≢false (sym e))

flags-clear : (b : Bool) → b ≡ false → flags_of b ≡ 0
flags-clear true e = absurd (true≢false e)
flags-clear false e = refl

at_top : (ps : List Placed) (k n : ℕ) → n ≡ 1 → position_in n ps k ≡ (get_or ps k blank_placed).offset.0
unfolding position_in
at_top ps k n e = rw (e, add-zero)

at-child : (ps : List Placed) (k n m : ℕ) → m + 1 ≡ n
    → position_in n ps k ≡ (get_or ps k blank_placed).offset.0 + position_in m ps (get_or ps k blank_placed).parent
unfolding position_in
at-child ps k n m e = rw (sym e, add-one m)

module _ (s : List ℕ) (z : ℕ) (l : List Section) (ps : List Placed) (t : Tree s l) (f : Fitted z l ps) (k : ℕ) (h : k < length l) where
  planned : k < length ps
  planned = omega (arith, f.count)

  area-is : get_or (layout_areas s l ps) k blank_area ≡ area_at s l ps k
  area-is = area-at s l ps k planned

  start_is : (j : ℕ) → j < length ps → start_at (layout_areas s l ps) j ≡ position_in (get_or ps j blank_placed).level ps j
  unfolding area_at area_from
  start_is j g = ap (λ (a : Area). a.place.start.0) (area-at s l ps j g)

  below-is : (p : ℕ) → p < k → (get_or ps k blank_placed).parent ≡ p → Top z (get_or ps k blank_placed) ⊎ Child ps k (get_or ps k blank_placed)
      → start_at (layout_areas s l ps) k ≡ (get_or ps k blank_placed).offset.0 + start_at (layout_areas s l ps) p
  below-is p g e (inl a) = absurd (omega (arith, a.parent, t.room))
  below-is p g e (inr a) =
      start_is k planned
      ∙ (at-child ps k _ _ a.level ∙ rw e (ap (λ (i : ℕ). (get_or ps k blank_placed).offset.0 + i) (sym (start_is p (omega (arith, planned))))))

  stands : AreaStands s l ps (layout_areas s l ps) k
  unfolding area_at area_from
  stands =
      let w = name-short (t.each k h).named in
      record {
        top = λ e. start_is k planned ∙ at_top ps k _ (f.level k planned ∙ e);
        below = λ g. below-is _ g (f.parent k planned) (above s z l ps t f k planned);
        ends = ap (λ (a : Area). start_at (layout_areas s l ps) k + a.place.size) area-is;
        preserved = λ e. ap (λ (a : Area). a.flags) area-is ∙ flags-set _ e;
        plain = λ e. ap (λ (a : Area). a.flags) area-is ∙ flags-clear _ e;
        wide = ap (λ (a : Area). length a.name) area-is ∙ area-name-length s l ps t k h;
        letters = λ j g. ap (λ (a : Area). get_or a.name j 0) area-is ∙ stored-letter s _ _ j w.0 g;
        zeros_after = λ j g. ap (λ (a : Area). get_or a.name j 0) area-is ∙ stored-zero s _ _ j w.0 g;
      }

pub areas-stand : AreasStand
areas-stand s z l ps t f k h = stands s z l ps t f k h
