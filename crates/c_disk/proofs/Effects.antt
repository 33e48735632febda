-- Laws of what C gets of a GPT call.
use mathlib.Core.Path.{◌≡◌, refl, sym, ap, ap₂, ◌∙◌}
use mathlib.Core.Logic.{◌≢◌}
use mathlib.Core.List.{List, []}
use Rattle.std.specs.Prelude.{Option, None, Some, Result, Ok, Err}
use Prim.Native.Nat.{ℕ, zero, suc}
use native.Mathlib.Omega.{arith}
use Rattle.gpt_model.specs.Disk.{Shape}
use Rattle.gpt_model.specs.Calls.{Answer, Outcome, outcome, read, step}
use Rattle.gpt_model.specs.Sizes.{shape_of, on_shape, step_by}
use Rattle.gpt_model.proofs.Sizes.{on_its_shape}
use Rattle.gpt_model.specs.declared.Rule.TheVariants.{Earlier}
use Rattle.gpt_calls.proofs.Refusals.{handed_refusal}
use Rattle.gpt_calls.specs.Answers.{done_of}
use Rattle.gpt_checks.specs.declared.Refusal.{Refusal}
use Rattle.gpt_checks.specs.declared.Refusal.TheVariants.{BlockSize, WrongLength, BlockCount, NoDiskGuid, NeitherGood, NotTheSame, NoSuchSlot}
use Rattle.gpt_checks.specs.declared.Refusal.TheVariants.{SlotUnused, NoSize, Alignment, NoType, NoUniqueGuid, BadName, NameTaken}
use Rattle.gpt_checks.specs.declared.Refusal.TheVariants.{AttributeBits, NoUnusedSlot, NoRoom}
use Rattle.c_disk.specs.Effects.{rule_numbered, GptEffect, result_of, values_of, gpt_effect, table_place, with_table_place, table_place_by}
use Rattle.c_disk.specs.Claims.{NoRefusalIsZero}

-- an answer a given by its number and values, with the buffers that the call left
pub gpt-tells : (a : Answer) (r : ℕ) (old new h t : List ℕ) (o : Outcome) → outcome a h t ≡ o → r ≡ result_of a → new ≡ values_of old a
    → ◌≡◌ {A = GptEffect} (record { result = r; head = h; tail = t; values = new }) (gpt_effect old o)
gpt-tells a r old new h t o e p q = ap₂ (λ (k : ℕ) (vs : List ℕ). record { result = k; head = h; tail = t; values = vs }) p q ∙ ap (gpt_effect old) e

-- the same for an answer without values
pub gpt-tells-done : (d : Result Unit Refusal) (r : ℕ) (h t : List ℕ) (o : Outcome) → outcome (done_of d) h t ≡ o → r ≡ result_of (done_of d)
    → ◌≡◌ {A = GptEffect} (record { result = r; head = h; tail = t; values = [] }) (gpt_effect [] o)
gpt-tells-done d r h t o e q = gpt-tells (done_of d) r [] [] h t o e q (no-values d)
  where
    no-values : (d : Result Unit Refusal) → ◌≡◌ {A = List ℕ} [] (values_of [] (done_of d))
    no-values (Ok u) = refl
    no-values (Err k) = refl

-- every number but 0 names the earlier rule
pub rule-other : (k : ℕ) → k ≢ 0 → Earlier ≡ rule_numbered k
rule-other zero n = absurd (n refl)
rule-other (suc k) n = refl

module _ (size n : ℕ) (h t : List ℕ) where
  pub place-by : (g : Shape) → shape_of size ≡ Some g → (a : Answer) → outcome a h t ≡ step_by size n h t read
      → outcome (table_place g a) h t ≡ table_place_by size n h t
  unfolding table_place_by
  place-by g e a q =
      ap (with_table_place g) (q ∙ (on_its_shape size n h t g e).0 read)
      ∙ sym (ap (λ (s : Option Shape). on_shape s h t (λ g. with_table_place g (step g n h t read))) e)

  pub place_other : (old : List ℕ) → shape_of size ≡ None
      → ◌≡◌ {A = GptEffect} (record { result = 6; head = h; tail = t; values = old }) (gpt_effect old (table_place_by size n h t))
  unfolding table_place_by
  place_other old e = ap (λ (s : Option Shape). gpt_effect old (on_shape s h t (λ g. with_table_place g (step g n h t read)))) (sym e)

pub no-refusal-is-zero : NoRefusalIsZero
no-refusal-is-zero BlockSize e = omega arith
no-refusal-is-zero WrongLength e = omega arith
no-refusal-is-zero BlockCount e = omega arith
no-refusal-is-zero NoDiskGuid e = omega arith
no-refusal-is-zero NeitherGood e = omega arith
no-refusal-is-zero NotTheSame e = omega arith
no-refusal-is-zero NoSuchSlot e = omega arith
no-refusal-is-zero SlotUnused e = omega arith
no-refusal-is-zero NoSize e = omega arith
no-refusal-is-zero Alignment e = omega arith
no-refusal-is-zero NoType e = omega arith
no-refusal-is-zero NoUniqueGuid e = omega arith
no-refusal-is-zero BadName e = omega arith
no-refusal-is-zero NameTaken e = omega arith
no-refusal-is-zero AttributeBits e = omega arith
no-refusal-is-zero NoUnusedSlot e = omega arith
no-refusal-is-zero NoRoom e = omega arith

pub ruleset told = (handed_refusal, rule-other)
