use mathlib.Core.Path.{◌≡◌, sym, ap}
use Rattle.gpt_checks.specs.Refusals.{number_of}
use Rattle.gpt_checks.specs.declared.Refusal.{Refusal}

-- each case has its number: `search` finds this for enums of up to 16 cases
number-of : {a r : Refusal} → a ≡ r → number_of r ≡ number_of a
number-of e = ap number_of (sym e)
