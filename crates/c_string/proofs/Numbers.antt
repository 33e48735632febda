-- What C gets of a layout string; no refusal has the number 0.
use mathlib.Core.Path.{◌≡◌, refl}
use mathlib.Core.List.{List, []}
use Prim.Native.Nat.{ℕ}
use native.Mathlib.Omega.{arith}
use Rattle.gpt_model.specs.Calls.{Outcome, outcome}
use Rattle.gpt_build.specs.declared.Refusal.TheVariants.{StringForm, NotWholeBlocks, StartTaken, Disk}
use Rattle.std.specs.Prelude.{Result, Ok, Err}
use Rattle.gpt_build.specs.declared.Refusal.{Refusal}
use Rattle.gpt_string.specs.Answers.{build_answer}
use Rattle.c_disk.specs.Effects.{GptEffect, result_of, values_of, gpt_effect}
use Rattle.c_disk.proofs.Effects.{gpt-tells, no-refusal-is-zero}
use Rattle.c_string.specs.Claims.{NoStringRefusalIsZero}

pub no-string-refusal-is-zero : NoStringRefusalIsZero
no-string-refusal-is-zero StringForm e = omega arith
no-string-refusal-is-zero NotWholeBlocks e = omega arith
no-string-refusal-is-zero StartTaken e = omega arith
no-string-refusal-is-zero (Disk r) e = no-refusal-is-zero r e

-- the answer a given by its number, with the buffers that the call left
pub string-tells : {A : Type 0} (a : Result A Refusal) (r : ℕ) (h t : List ℕ) (o : Outcome) → outcome (build_answer a) h t ≡ o → r ≡ result_of (build_answer a)
    → ◌≡◌ {A = GptEffect} (record { result = r; head = h; tail = t; values = [] }) (gpt_effect [] o)
string-tells {A} a r h t o e q = gpt-tells (build_answer a) r [] [] h t o e q (no-values a)
  where
    no-values : (a : Result A Refusal) → ◌≡◌ {A = List ℕ} [] (values_of [] (build_answer a))
    no-values (Ok u) = refl
    no-values (Err k) = refl
