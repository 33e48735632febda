use mathlib.Core.Path.{◌≡◌, ◌∙◌}
use Prim.Native.Nat.{ℕ, ◌+◌, ◌-◌, ◌≤◌}
use native.Mathlib.Omega.{arith}
use Rattle.text_words.specs.Classes.{digit_of, digit_in}
use Rattle.text_words.proofs.Classes.{digit-decimal, digit-upper, digit-lower, digit-none}
use Rattle.text_words.proofs.digit.Goals.{in-48-to-57, in-65-to-70, in-97-to-102, in_default, in_default-2, in_default-3, in_default-4}
use Rattle.text_words.proofs.digit.Goals as goal

upper : (b : ℕ) → 65 ≤ b → b - 65 + 10 ≡ b - 55
upper b h = omega arith

lower : (b : ℕ) → 97 ≤ b → b - 97 + 10 ≡ b - 87
lower b h = omega arith

pub returns : goal.returns
unfolding digit_in
returns c =
    let b = c.args.b in
    let v : c.if-b-lt48.value ≡ digit_of b =
    elim c.if-b-lt48.branch [
      | in-48-to-57 w ↦ w.value-is ∙ digit-decimal b (omega arith) (omega arith)
      | in-65-to-70 w ↦ w.value-is ∙ upper b (omega arith) ∙ digit-upper b (omega arith) (omega arith)
      | in-97-to-102 w ↦ w.value-is ∙ lower b (omega arith) ∙ digit-lower b (omega arith) (omega arith)
      | in_default w ↦ w.value-is ∙ digit-none b (λ h k. omega arith) (λ h k. omega arith) (λ h k. omega arith)
      | in_default-2 w ↦ w.value-is ∙ digit-none b (λ h k. omega arith) (λ h k. omega arith) (λ h k. omega arith)
      | in_default-3 w ↦ w.value-is ∙ digit-none b (λ h k. omega arith) (λ h k. omega arith) (λ h k. omega arith)
      | in_default-4 w ↦ w.value-is ∙ digit-none b (λ h k. omega arith) (λ h k. omega arith) (λ h k. omega arith)
    ] in
    rw (← v) c.then_some.ensures
