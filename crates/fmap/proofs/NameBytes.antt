-- Names by the image's bytes.
use mathlib.Core.Path.{◌≡◌, sym, ap, ◌∙◌}
use mathlib.Core.Logic.{◌⊎◌, inl, inr}
use mathlib.Core.Bool.{true, false}
use mathlib.Core.List.{List, [], ◌∷◌}
use Prim.Native.Nat.{ℕ, zero, suc, ◌+◌, ◌-◌, ◌≤◌, ◌<◌}
use native.Mathlib.Nat.{le_of_suc-le-suc, not-suc-le-zero}
use native.Mathlib.Omega.{arith}
use lib.Dec.{eqb}
use lib.ListN.{length, get_or}
use lib.Seq.{get_or-drop}
use borrow.Author.Tests.{leb-true, eqb-true}
use Rattle.octets.specs.Tests.{find_ix}
use Rattle.octets.specs.Bytes.{part, rest}
use Rattle.octets.proofs.Bools.{and_l, and_r, not_f, bool_cases}
use Rattle.octets.proofs.Tests.{all-get}
use Rattle.octets.proofs.Parts.{length_part, length_rest, get_d_part}
use Rattle.fmap_rules.specs.Map.{graphic, stops, name_length, legal_name}
use Rattle.fmap.specs.InBytes.{NameAt}

-- no byte before the first that stops does
before : (xs : List ℕ) (i : ℕ) → i < find_ix stops xs → stops (get_or xs i 0) ≡ false
before [] i h = absurd (not-suc-le-zero h)
before (x ∷ xs) i h = go (bool_cases (stops x)) i h (before xs)
  where
    go : (stops x ≡ true) ⊎ (stops x ≡ false) → (i : ℕ) → i < find_ix stops (x ∷ xs)
        → ((j : ℕ) → j < find_ix stops xs → stops (get_or xs j 0) ≡ false) → stops (get_or (x ∷ xs) i 0) ≡ false
    go (inl q) i h f = absurd (not-suc-le-zero (rw (q, find_ix) at h))
    go (inr q) zero h f = q
    go (inr q) (suc i) h f = f i (le_of_suc-le-suc (rw (q, find_ix) at h))

module _ (image : List ℕ) (r : ℕ) (h : r + 32 ≤ length image) (e : legal_name (part r 32 image) ≡ true) where
  abbrev n : List ℕ
  n = part r 32 image

  pub wide : length n ≡ 32
  wide = length_part image r 32 h

  pub few : name_length n ≤ 31
  unfolding legal_name
  few = leb-true _ _ (and_l _ _ (and_r _ _ e))

  pub letter : (i : ℕ) → i < name_length n → (33 ≤ get_or image (r + i) 0) × (get_or image (r + i) 0 ≤ 126)
  unfolding name_length stops
  letter i w =
      let f = few in
      let g : graphic (get_or image (r + i) 0) ≡ true =
      ap graphic (sym (get_d_part image r 32 i (omega arith))) ∙ not_f _ (before n i w) in
      (leb-true _ _ (and_l _ _ g), leb-true _ _ (and_r _ _ g))

  pub nothing : (i : ℕ) → name_length n ≤ i → i < 32 → get_or image (r + i) 0 ≡ 0
  unfolding legal_name rest
  nothing i a b =
      let k = name_length n in
      let l = length_rest n k in
      let w = wide in
      let z : 0 ≡ get_or (rest k n) (i - k) 0 = eqb-true _ _ (all-get (eqb 0) (rest k n) 0 (and_r _ _ (and_r _ _ e)) (i - k) (omega arith)) in
      let q : k + (i - k) ≡ i = omega arith in
      sym (get_d_part image r 32 i b) ∙ ap (λ (x : ℕ). get_or n x 0) (sym q) ∙ sym (get_or-drop k n (i - k) 0) ∙ sym z

  pub name-at : NameAt image r
  unfolding legal_name
  name-at = record { letters = name_length n; some = leb-true _ _ (and_l _ _ e); few = few; graphic = letter; then_zeros = nothing }
