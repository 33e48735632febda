-- The number k that an answer has, or 0: what it says of the answer.
use mathlib.Core.Path.{refl}
use Rattle.std.proofs.Common.{Ok, Err}
use Prim.Native.Nat.{◌≤◌, ◌<◌}
use native.Mathlib.Omega.{arith}
use Rattle.fmd_head.proofs.Refusals.{in-range}
use Rattle.fmd.specs.Calls.{refusal_number}
use Rattle.fmd.specs.Claims.{ZeroIsAccepted}
use Rattle.fmd.specs.declared.Refusal.{Refusal}
use Rattle.fmd.specs.declared.Refusal.TheVariants.{WrongLength, OfText}

pub refusal-in-range : (r : Refusal) → (1 ≤ refusal_number r) × (refusal_number r < 60)
refusal-in-range WrongLength = (omega arith, omega arith)
refusal-in-range (OfText r) = let w = in-range r in (omega arith, omega arith)

pub zero-is-accepted : ZeroIsAccepted
zero-is-accepted A (Ok a) e = refl
zero-is-accepted A (Err r) e = absurd (omega (arith, (refusal-in-range r).0))
