-- Attribute bits: the two rules for them, and which used entries offend. Definitions only.
use Rattle.std.specs.Prelude.{Bool, not, cond, List, ℕ, suc, ◌-◌, ◌/◌, ◌%◌, ◌^◌, eqb}
use Rattle.octets.specs.Tests.{◌and◌, any, find_ix}
use Rattle.gpt_model.specs.Table.{attributes_of, unused, entries}
use Rattle.gpt_model.specs.Ranges.{all_from}
use Rattle.gpt_model.specs.declared.Rule.{Rule}
use Rattle.gpt_model.specs.declared.Rule.TheVariants.{Present, Earlier}

-- bit i of a number, 0 or 1
abbrev pub bit_of : ℕ → ℕ → ℕ
bit_of i x = x / 2 ^ i % 2

-- k1: Some firmware wants attribute bits 1 to 47 zero; today only 3 to 47 are. The lowest of them by each rule
abbrev pub lowest_bit : Rule → ℕ
lowest_bit Present = 3
lowest_bit Earlier = 1

-- the bits from the rule's lowest to 47 are not all zero
unfoldable pub offends : Rule → ℕ → Bool
offends rule attributes = not (all_from (λ i. eqb (bit_of i attributes) 0) (lowest_bit rule) (48 - lowest_bit rule))

abbrev pub used_offends : Rule → List ℕ → Bool
used_offends rule e = not (unused e) and offends rule (attributes_of e)

-- k3: the check answers the first used slot that offends, or 0. Counted from 1
unfoldable pub first_offending : Rule → List ℕ → ℕ
first_offending rule es = cond (any (used_offends rule) (entries es)) (suc (find_ix (used_offends rule) (entries es))) 0
