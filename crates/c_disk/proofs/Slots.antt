-- An accepted check answers one number, so never slot 0 beside none.
use mathlib.Core.Path.{◌≡◌, refl, sym, ap, ◌∙◌}
use mathlib.Core.List.{List, [], ◌∷◌}
use Prim.Native.Nat.{ℕ}
use Rattle.std.specs.Prelude.{Option, None, Some, Result, Ok}
use Rattle.gpt_model.specs.Disk.{Shape, table_of}
use Rattle.gpt_model.specs.Attributes.{first_offending}
use Rattle.gpt_model.specs.declared.Rule.{Rule}
use Rattle.gpt_model.specs.Calls.{Answer, accepted, Outcome, outcome, check, step}
use Rattle.gpt_model.specs.Sizes.{shape_of, step_by}
use Rattle.gpt_model.proofs.Outcomes.{step-accepted, accepted-none}
use Rattle.gpt_model.proofs.Sizes.{on_its_shape, step-none}
use Rattle.gpt_checks.specs.declared.Refusal.{Refusal}
use Rattle.gpt_calls.specs.Answers.{offending_of}

module _ (size n : ℕ) (h t : List ℕ) (rule : Rule) where
  on_shape : (g : Shape) → (step g n h t (check rule)).answer ≡ accepted [] → ⊥
  on_shape g e =
      let r = accepted-none g n h t (check rule) [] e in
      let b : accepted (first_offending rule (table_of g n h t) ∷ []) ≡ accepted [] = sym (ap (λ (o : Outcome). o.answer) (step-accepted g n h t (check rule) r)) ∙ e in
      cc

  some_number : (step_by size n h t (check rule)).answer ≡ accepted [] → ⊥
  some_number e = go (shape_of size) refl
    where
      go : (o : Option Shape) → shape_of size ≡ o → ⊥
      go None q = let b = sym (ap (λ (o : Outcome). o.answer) (step-none size n h t q (check rule))) ∙ e in cc
      go (Some g) q = on_shape g (sym (ap (λ (o : Outcome). o.answer) ((on_its_shape size n h t g q).0 (check rule))) ∙ e)

  pub no_slot_0 : (r : Result (Option ℕ) Refusal) → outcome (offending_of r) h t ≡ step_by size n h t (check rule) → r ≡ Ok (Some 0) → ⊥
  no_slot_0 r e q = some_number (sym (ap (λ (o : Outcome). o.answer) e) ∙ ap offending_of q)
