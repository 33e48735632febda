-- Laws of two lists of bytes that are compared block by block: each block with the other list's at its index, and then what is left behind
-- the blocks. The names that such a comparison's proof takes from `std` are passed on from here.
pub use Rattle.std.proofs.lemmas.Option.{gets}
pub use Rattle.std.proofs.lemmas.Iterator.{YieldsList-from_slice}
pub use Rattle.std.proofs.lemmas.Iterator.Consumers.{YieldsList-from_enumerate}
pub use Rattle.std.proofs.lemmas.Iterator.Search.{all_from_yields_List}
use Rattle.std.proofs.Common.{◌≡◌, ℕ, zero, suc, ◌+◌, ◌*◌, ◌/◌, Bool, true, ◌&&◌, eqb, Some, List, [], ◌∷◌, ◌++◌, length, get_or, take, drop, refl, sym, ap, ap₂, subst, ◌∙◌, arith, add-one, suc-mul, drop-cons, drop-drop, drop_of_length-le, take-append-drop, eqb-true, eq-eqb}
use native.Mathlib.Nat.{zero-mul}
use lib.Pointwise.{pointwise, pointwise_decides, bytes_decides}
use Rattle.std.specs.List.{list_all, slice_get, enumerate_from}
use Rattle.std.specs.Option.{option_eq}
use Rattle.std.specs.Simd.{first_chunks}
use Rattle.std.proofs.lemmas.Bool.{and_parts, and_from}
use Rattle.std.proofs.lemmas.Option.{slice_get-get_or}
use Rattle.octets.specs.Bytes.{same}
use Rattle.octets.proofs.Bools.{eq-from}
use Rattle.octets.proofs.Equal.{same_true, same_refl}

-- the block at this index is this one
abbrev pub at_index : List (List ℕ) → ℕ × List ℕ → Bool
at_index ys p = option_eq (pointwise eqb) (slice_get ys p.0) (Some p.1)

each_index : (n : ℕ) (xs ys : List (List ℕ)) → length ys ≡ n + length xs
    → list_all (at_index ys) (enumerate_from n xs) ≡ pointwise (pointwise eqb) (drop n ys) xs
each_index n [] ys h = rw (drop_of_length-le ys {i = n} (omega (arith, h)))
each_index n (x ∷ xs) ys h =
    let ih = rw add-one at (each_index (n + 1) xs ys (omega (arith, h))) in
    rw (drop-cons ys n x (omega (arith, h)), slice_get-get_or ys n x (omega (arith, h)), add-one n)
    (ap (λ (b : Bool). pointwise eqb (get_or ys n x) x && b) ih)

length-first_chunks : (w k : ℕ) (s : List ℕ) → length (first_chunks w k s) ≡ k
length-first_chunks w zero s = refl
length-first_chunks w (suc k) s = ap suc (length-first_chunks w k (drop w s))

-- the blocks and what is left behind them make the list
whole : (w k : ℕ) (s t : List ℕ) → first_chunks w k s ≡ first_chunks w k t → drop (k * w) s ≡ drop (k * w) t → s ≡ t
whole w zero s t e f = rw zero-mul at f
whole w (suc k) s t e f =
    let d : suc k * w ≡ w + k * w = omega (arith, suc-mul k w) in
    let first : take w s ≡ take w t = ap (λ (l : List (List ℕ)). get_or l 0 []) e in
    let others : first_chunks w k (drop w s) ≡ first_chunks w k (drop w t) = ap (λ (l : List (List ℕ)). drop 1 l) e in
    let g : drop (k * w) (drop w s) ≡ drop (k * w) (drop w t) = drop-drop (k * w) w s ∙ rw d at f ∙ sym (drop-drop (k * w) w t) in
    sym (take-append-drop w s) ∙ ap₂ ◌++◌ first (whole w k (drop w s) (drop w t) others g) ∙ take-append-drop w t

module _ (w : ℕ) where
  abbrev blocks : List ℕ → List (List ℕ)
  blocks s = first_chunks w (length s / w) s

  abbrev behind : List ℕ → List ℕ
  behind s = drop (length s / w * w) s

  abbrev agree : List ℕ → List ℕ → Bool
  agree s t = (eqb (length s) (length t) && list_all (at_index (blocks t)) (enumerate_from 0 (blocks s))) && pointwise eqb (behind s) (behind t)

  each : (s t : List ℕ) → length s ≡ length t
      → list_all (at_index (blocks t)) (enumerate_from 0 (blocks s)) ≡ pointwise (pointwise eqb) (blocks t) (blocks s)
  each s t e =
      let k : length s / w ≡ length t / w = ap (λ (n : ℕ). n / w) e in
      each_index 0 (blocks s) (blocks t) (omega (arith, k, length-first_chunks w (length t / w) t, length-first_chunks w (length s / w) s))

  -- they are the same where they are of one length, agree at each block's index, and agree behind the blocks
  pub same_blocks : (s t : List ℕ) → agree s t ≡ same s t
  same_blocks s t = eq-from _ _ there back
    where
      there : agree s t ≡ true → same s t ≡ true
      there h =
          let a = and_parts _ _ h in
          let b = and_parts _ _ a.0 in
          let e = eqb-true (length s) (length t) b.0 in
          let c : blocks t ≡ blocks s = (pointwise_decides bytes_decides (blocks t) (blocks s)).0 (sym (each s t e) ∙ b.1) in
          let d : behind s ≡ behind t = (bytes_decides (behind s) (behind t)).0 a.1 in
          subst (λ (l : List ℕ). same s l ≡ true) (whole w (length t / w) s t (sym (rw e at c)) (rw e at d)) (same_refl s)

      back : same s t ≡ true → agree s t ≡ true
      back h =
          let l = same_true s t h in
          let e = ap length l in
          and_from _ _
          (and_from _ _ (eq-eqb (length s) (length t) e) (each s t e ∙ (pointwise_decides bytes_decides _ _).1 (ap blocks (sym l))))
          ((bytes_decides _ _).1 (ap behind l))
