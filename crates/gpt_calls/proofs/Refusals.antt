-- The refusals: where a judge stops a call, the call is refused with that number.
use mathlib.Core.Path.{◌≡◌, sym, ap, ◌∙◌}
use mathlib.Core.List.{List}
use mathlib.Core.Option.{some}
use Prim.Native.Nat.{ℕ}
use Rattle.std.specs.Prelude.{Result, Ok, Err, IsErr, IsErrAnd}
use Rattle.octets.specs.Rows.{refusal}
use Rattle.gpt_model.specs.Disk.{Shape}
use Rattle.gpt_model.specs.Calls.{Call, Answer, refused, outcome, rows_of, step, format_rows, format}
use Rattle.gpt_model.proofs.Outcomes.{step-refused}
use Rattle.gpt_model.proofs.Demand3.{format-refused}
use Rattle.gpt_checks.specs.Refusals.{number_of}
use Rattle.gpt_checks.specs.declared.Refusal.{Refusal}
use Rattle.gpt_calls.specs.Answers.{answer_of}

-- what a `?` hands on
pub handed_refusal : {A : Type 0} (values : A → List ℕ) (y : Result A Refusal) (r : Refusal) → IsErr y → IsErrAnd y (λ z. z ≡ r)
    → answer_of values y ≡ refused (number_of r)
handed_refusal values (Ok a) r v w = absurd w
handed_refusal values (Err z) r v w = ap (λ (k : Refusal). refused (number_of k)) w

module _ (g : Shape) (n : ℕ) (h t : List ℕ) where
  pub stops : {A : Type 0} (values : A → List ℕ) (c : Call) (y : Result A Refusal) (r : Refusal) → IsErr y × IsErrAnd y (λ z. z ≡ r)
      → some (number_of r) ≡ refusal (rows_of g n h t c) → outcome (answer_of values y) h t ≡ step g n h t c
  stops values c y r w e = ap (λ (a : Answer). outcome a h t) (handed_refusal values y r w.0 w.1) ∙ sym (step-refused g n h t c _ (sym e))

  pub stop_format : (guid : List ℕ) (k : ℕ) → some k ≡ refusal (format_rows g n guid h t) → format g n guid h t ≡ outcome (refused k) h t
  stop_format guid k e = format-refused g n guid h t k (sym e)

pub ruleset refusals = (handed_refusal, stop_format)
