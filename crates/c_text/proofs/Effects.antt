-- Laws of what C gets.
use mathlib.Core.Path.{◌≡◌, refl, ap, ◌∙◌}
use mathlib.Core.List.{List}
use mathlib.Core.Option.{Option}
use Prim.Native.Nat.{ℕ}
use native.Mathlib.Omega.{arith}
use Rattle.octets.specs.Rows.{code_of}
use Rattle.guid.specs.Calls.{Outcome}
use Rattle.std.specs.Prelude.{Ok, Err}
use Rattle.guid.specs.declared.Refusal.TheVariants.{WrongLength, NotGuidText}
use Rattle.c_text.specs.Effects.{Effect, effect}
use Rattle.c_text.specs.Claims.{ZeroIsAccepted}

-- an answer given by its code, with the buffer that the call left
pub tells : (n : Option ℕ) (r : ℕ) (b : List ℕ) (o : Outcome) → record { number = n; buffer = b } ≡ o → r ≡ code_of n
    → ◌≡◌ {A = Effect} (record { result = r; buffer = b }) (effect o)
tells n r b o e q = ap (λ (k : ℕ). record { result = k; buffer = b }) q ∙ ap effect e

pub zero-is-accepted : ZeroIsAccepted
zero-is-accepted A (Ok v) e = refl
zero-is-accepted A (Err WrongLength) e = absurd (omega arith)
zero-is-accepted A (Err NotGuidText) e = absurd (omega arith)
