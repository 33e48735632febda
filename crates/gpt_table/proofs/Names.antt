-- A name read unit by unit: behind the units up to the first zero one, a nonzero one.
use mathlib.Core.Path.{◌≡◌, refl, sym, ap, ◌∙◌}
use mathlib.Core.Logic.{◌⊎◌, inl, inr}
use mathlib.Core.Bool.{Bool, true, false, not}
use mathlib.Core.List.{List, [], ◌∷◌}
use Prim.Native.Nat.{ℕ}
use native.Mathlib.Numerals.{one-add}
use lib.Dec.{eqb}
use lib.ListN.{drop}
use borrow.Author.Tests.{eqb-true, eq-eqb}
use Rattle.std.specs.List.{list_any, prefix_len}
use Rattle.octets.specs.Tests.{◌and◌, ◌or◌, any}
use Rattle.octets.specs.Bytes.{is_zero}
use Rattle.octets.proofs.Bools.{bool_cases, eq-from}
use Rattle.octets.proofs.Chains.{any_list}
use Rattle.gpt_model.specs.Calls.{bad_name}

abbrev pub nonzero : ℕ → Bool
nonzero u = not (eqb u 0)

turned : (u : ℕ) → eqb 0 u ≡ eqb u 0
turned u = eq-from _ _ (λ h. eq-eqb u 0 (sym (eqb-true 0 u h))) (λ h. eq-eqb 0 u (sym (eqb-true u 0 h)))

some_nonzero : (us : List ℕ) → any nonzero us ≡ not (is_zero us)
unfolding ◌and◌ ◌or◌
some_nonzero [] = refl
some_nonzero (u ∷ us) = go (bool_cases (eqb u 0)) (some_nonzero us)
  where
    go : (eqb u 0 ≡ true) ⊎ (eqb u 0 ≡ false) → any nonzero us ≡ not (is_zero us) → any nonzero (u ∷ us) ≡ not (is_zero (u ∷ us))
    go (inl q) ih = rw (turned, q) ih
    go (inr q) ih = rw (turned, q)

behind : (us : List ℕ) → any nonzero (drop (prefix_len nonzero us) us) ≡ bad_name us
unfolding ◌or◌
behind [] = refl
behind (u ∷ us) = go (bool_cases (eqb u 0)) (behind us)
  where
    go : (eqb u 0 ≡ true) ⊎ (eqb u 0 ≡ false) → any nonzero (drop (prefix_len nonzero us) us) ≡ bad_name us
        → any nonzero (drop (prefix_len nonzero (u ∷ us)) (u ∷ us)) ≡ bad_name (u ∷ us)
    go (inl q) ih = rw q (ap (λ (b : Bool). not b or any nonzero us) q ∙ some_nonzero us)
    go (inr q) ih = rw (q, one-add) ih

pub bad_name_is : (us : List ℕ) → list_any nonzero (drop (prefix_len nonzero us) us) ≡ bad_name us
bad_name_is us = any_list nonzero (drop (prefix_len nonzero us) us) ∙ behind us
