-- Laws of classes of bytes.
use mathlib.Core.Path.{◌≡◌, refl, sym, ap, ◌∙◌}
use mathlib.Core.Logic.{◌⊎◌, inl, inr, ◌≢◌}
use mathlib.Core.Bool.{Bool, true, false, ◌&&◌, true≢false, false≢true}
use Prim.Native.Nat.{ℕ, ◌-◌, ◌≤◌, ◌<◌}
use native.Mathlib.Omega.{arith}
use lib.Dec.{ltb}
use borrow.Author.Tests.{ne_eqb, eqb-false, lt-ltb, le-ltb, ltb-true, ltb-false}
use Rattle.octets.specs.Tests.{◌and◌, ◌or◌}
use Rattle.octets.proofs.Bools.{bool_cases, or-false-l, or-false-r, choice}
use Rattle.std.specs.Prelude.{Option, Some, None}
use Rattle.std.specs.Bool.{then_some}
use Rattle.std.specs.Option.{is_some}
use Rattle.text_words.specs.Classes.{is_blank, digit_of, digit_in}

-- `&&` of std's tests
pub and_std : (a b : Bool) → (a && b) ≡ (a and b)
unfolding ◌and◌
and_std true b = refl
and_std false b = refl

pub blank_not : (b : ℕ) → b ≢ 32 → b ≢ 9 → b ≢ 13 → b ≢ 10 → false ≡ is_blank b
unfolding is_blank ◌or◌
blank_not b p q r s = simp (ne_eqb b 32 p, ne_eqb b 9 q, ne_eqb b 13 r, ne_eqb b 10 s)

pub blank_yes : (b : ℕ) → (b ≢ 32 → b ≢ 9 → b ≢ 13 → b ≢ 10 → ⊥) → true ≡ is_blank b
unfolding is_blank
blank_yes b f = go (bool_cases (is_blank b))
  where
    go : (is_blank b ≡ true) ⊎ (is_blank b ≡ false) → true ≡ is_blank b
    go (inl t) = sym t
    go (inr n) =
        let r = or-false-r _ _ n in
        let s = or-false-r _ _ r in
        absurd (f (eqb-false b 32 (or-false-l _ _ n)) (eqb-false b 9 (or-false-l _ _ r)) (eqb-false b 13 (or-false-l _ _ s))
        (eqb-false b 10 (or-false-l _ _ (or-false-r _ _ s))))

-- ---- the value of a digit

module _ (b : ℕ) where
  pub digit-decimal : 48 ≤ b → b < 58 → b - 48 ≡ digit_of b
  unfolding digit_of
  digit-decimal h k = simp (le-ltb b 48 h, lt-ltb b 58 k)

  pub digit-upper : 65 ≤ b → b < 71 → b - 55 ≡ digit_of b
  unfolding digit_of
  digit-upper h k = simp (le-ltb b 48 (omega arith), le-ltb b 58 (omega arith), le-ltb b 65 h, lt-ltb b 71 k)

  pub digit-lower : 97 ≤ b → b < 103 → b - 87 ≡ digit_of b
  unfolding digit_of
  digit-lower h k =
      simp (le-ltb b 48 (omega arith), le-ltb b 58 (omega arith), le-ltb b 65 (omega arith), le-ltb b 71 (omega arith), le-ltb b 97 h, lt-ltb b 103 k)

  pub digit-none : (48 ≤ b → b < 58 → ⊥) → (65 ≤ b → b < 71 → ⊥) → (97 ≤ b → b < 103 → ⊥) → 99 ≡ digit_of b
  unfolding digit_of
  digit-none f g h =
      choice P (ltb b 48) _ _ (λ e. refl)
      (λ e. choice P (ltb b 58) _ _ (λ i. absurd (f (ltb-false b 48 e) (ltb-true b 58 i)))
      (λ i. choice P (ltb b 65) _ _ (λ j. refl)
      (λ j. choice P (ltb b 71) _ _ (λ k. absurd (g (ltb-false b 65 j) (ltb-true b 71 k)))
      (λ k. choice P (ltb b 97) _ _ (λ l. refl) (λ l. choice P (ltb b 103) _ _ (λ m. absurd (h (ltb-false b 97 l) (ltb-true b 103 m))) (λ m. refl))))))
    where
      P : ℕ → Type 0
      P v = 99 ≡ v

-- ---- what `digit` answers

module _ (base b : ℕ) {r : Option ℕ} (e : r ≡ digit_in base b) where
  pub digit-some : {d : ℕ} → r ≡ Some d → (digit_of b < base) × (digit_of b ≡ d)
  unfolding digit_in
  digit-some {d} f = go (bool_cases (ltb (digit_of b) base))
    where
      z : then_some (ltb (digit_of b) base) (digit_of b) ≡ Some d
      z = sym e ∙ f

      go : (ltb (digit_of b) base ≡ true) ⊎ (ltb (digit_of b) base ≡ false) → (digit_of b < base) × (digit_of b ≡ d)
      go (inl t) = let y : Some (digit_of b) ≡ Some d = rw t at z in (ltb-true _ _ t, cc)
      go (inr n) = let y : None ≡ Some d = rw n at z in absurd (cc)

  pub digit-nothing : r ≡ None → base ≤ digit_of b
  unfolding digit_in
  digit-nothing f = go (bool_cases (ltb (digit_of b) base))
    where
      z : then_some (ltb (digit_of b) base) (digit_of b) ≡ None
      z = sym e ∙ f

      go : (ltb (digit_of b) base ≡ true) ⊎ (ltb (digit_of b) base ≡ false) → base ≤ digit_of b
      go (inl t) = let y : Some (digit_of b) ≡ None = rw t at z in absurd (cc)
      go (inr n) = ltb-false _ _ n

  pub digit-is_some : is_some r ≡ true → digit_of b < base
  unfolding digit_in
  digit-is_some f = go (bool_cases (ltb (digit_of b) base))
    where
      z : is_some (then_some (ltb (digit_of b) base) (digit_of b)) ≡ true
      z = sym (ap is_some e) ∙ f

      go : (ltb (digit_of b) base ≡ true) ⊎ (ltb (digit_of b) base ≡ false) → digit_of b < base
      go (inl t) = ltb-true _ _ t
      go (inr n) = absurd (false≢true (rw n at z))

  pub digit-is_none : is_some r ≡ false → base ≤ digit_of b
  unfolding digit_in
  digit-is_none f = go (bool_cases (ltb (digit_of b) base))
    where
      z : is_some (then_some (ltb (digit_of b) base) (digit_of b)) ≡ false
      z = sym (ap is_some e) ∙ f

      go : (ltb (digit_of b) base ≡ true) ⊎ (ltb (digit_of b) base ≡ false) → base ≤ digit_of b
      go (inl t) = absurd (true≢false (rw t at z))
      go (inr n) = ltb-false _ _ n
