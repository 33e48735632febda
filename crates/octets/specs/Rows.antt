-- The refusals of a call: a list of rows, each a test and a number, in the call's order. Definitions only.
use Rattle.std.specs.Prelude.{Bool, true, false, List, [], ◌∷◌, ℕ}
use Rattle.std.proofs.Math.Option.{Option, none, some}

pub record Row : Type 0 where
  pub holds : Bool
  pub number : ℕ

abbrev pub row : Bool → ℕ → Row
row b k = record { holds = b; number = k }

unfoldable pub pick_row : Bool → ℕ → Option ℕ → Option ℕ
pick_row true k r = some k
pick_row false k r = r

-- R2: It is given exactly when its row is the first in the call's order to hold; a call for which none holds is accepted.
abbrev pub refusal : List Row → Option ℕ
refusal [] = none
refusal (r ∷ rs) = pick_row r.holds r.number (refusal rs)

-- an answer as one number: 0 where the call is accepted, else the refusal's number
abbrev pub code_of : Option ℕ → ℕ
code_of none = 0
code_of (some k) = k
