-- The numbers of refusals: all of 50 to 59.
use Prim.Native.Nat.{◌≤◌}
use native.Mathlib.Omega.{arith}
use Rattle.fmd_head.specs.Refusals.{number_of}
use Rattle.fmd_head.specs.declared.Refusal.{Refusal}
use Rattle.fmd_head.specs.declared.Refusal.TheVariants.{TooLong, OutOfGrammar, BadNumber, BadName, NameTwice, TooMany, BadFlag, Undecided, Unfit, NoMapSection}

pub in-range : (r : Refusal) → (50 ≤ number_of r) × (number_of r ≤ 59)
in-range TooLong = (omega arith, omega arith)
in-range OutOfGrammar = (omega arith, omega arith)
in-range BadNumber = (omega arith, omega arith)
in-range BadName = (omega arith, omega arith)
in-range NameTwice = (omega arith, omega arith)
in-range TooMany = (omega arith, omega arith)
in-range BadFlag = (omega arith, omega arith)
in-range Undecided = (omega arith, omega arith)
in-range Unfit = (omega arith, omega arith)
in-range NoMapSection = (omega arith, omega arith)
