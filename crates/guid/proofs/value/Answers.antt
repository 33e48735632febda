use native.Mathlib.Omega.{arith}
use Rattle.guid.proofs.Hex.{value-decimal, value-upper, value-lower, value_some, value_other}
use Rattle.guid.proofs.value.Goals as goal

pub returns-in-48-to-57 : goal.returns-in-48-to-57
returns-in-48-to-57 c = value_some c.args.b _ (value-decimal c.args.b (omega arith) (omega arith)) (omega arith)

pub returns-in-65-to-70 : goal.returns-in-65-to-70
returns-in-65-to-70 c = value_some c.args.b _ (omega (arith, value-upper c.args.b (omega arith) (omega arith))) (omega arith)

pub returns-in-97-to-102 : goal.returns-in-97-to-102
returns-in-97-to-102 c = value_some c.args.b _ (omega (arith, value-lower c.args.b (omega arith) (omega arith))) (omega arith)

pub returns-in_default : goal.returns-in_default
returns-in_default c = value_other c.args.b (λ h k. omega arith) (λ h k. omega arith) (λ h k. omega arith)

pub returns-in_default-2 : goal.returns-in_default-2
returns-in_default-2 c = value_other c.args.b (λ h k. omega arith) (λ h k. omega arith) (λ h k. omega arith)

pub returns-in_default-3 : goal.returns-in_default-3
returns-in_default-3 c = value_other c.args.b (λ h k. omega arith) (λ h k. omega arith) (λ h k. omega arith)

pub returns-in_default-4 : goal.returns-in_default-4
returns-in_default-4 c = value_other c.args.b (λ h k. omega arith) (λ h k. omega arith) (λ h k. omega arith)
