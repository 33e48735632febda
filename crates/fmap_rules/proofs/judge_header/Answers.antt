use Rattle.std.proofs.Common.{arith, ◌≡◌, ℕ, List, ◌-◌, take, drop, refl, ap, ◌∙◌}
use Rattle.std.proofs.lemmas.Grind.{common_steps}
use Rattle.std.proofs.lemmas.Bool.Decides.{nat_tests}
use Rattle.octets.specs.Bytes.{part}
use Rattle.octets.specs.Rows.{pick_row}
use Rattle.octets.proofs.Numbers.{field-1}
use Rattle.fmap_rules.specs.Map.{name_of, legal_name}
use Rattle.fmap_rules.proofs.judge_header.Goals as goal

name-part : (m : List ℕ) → take (54 - 22) (drop 22 m) ≡ name_of m
unfolding part
name-part m = refl

pub returns-then-not-is_signed : goal.returns-then-not-is_signed
unfolding pick_row
returns-then-not-is_signed c = grind (arith, nat_tests, common_steps, field-1)

pub returns-then-m-lt56 : goal.returns-then-m-lt56
unfolding pick_row
returns-then-m-lt56 c = grind (arith, nat_tests, common_steps, field-1)

pub returns-then-m-ne1 : goal.returns-then-m-ne1
unfolding pick_row
returns-then-m-ne1 c = grind (arith, nat_tests, common_steps, field-1)

pub returns-then-m-gt1 : goal.returns-then-m-gt1
unfolding pick_row
returns-then-m-gt1 c = grind (arith, nat_tests, common_steps, field-1)

pub returns-then-from-len : goal.returns-then-from-len
unfolding pick_row
returns-then-from-len c = grind (arith, nat_tests, common_steps, field-1)

pub returns-then-n-eq0 : goal.returns-then-n-eq0
unfolding pick_row
returns-then-n-eq0 c = grind (arith, nat_tests, common_steps, field-1)

pub returns-then-n-gt128 : goal.returns-then-n-gt128
unfolding pick_row
returns-then-n-gt128 c = grind (arith, nat_tests, common_steps, field-1)

pub returns-then-m-n : goal.returns-then-m-n
unfolding pick_row
returns-then-m-n c = grind (arith, nat_tests, common_steps, field-1)

pub returns-then-not-is_legal_name : goal.returns-then-not-is_legal_name
unfolding pick_row
returns-then-not-is_legal_name c = grind (arith, nat_tests, common_steps, field-1, c.is_legal_name.ensures ∙ ap legal_name (name-part c.args.m.now))

pub returns : goal.returns
unfolding pick_row
returns c = grind (arith, nat_tests, common_steps, field-1, c.is_legal_name.ensures ∙ ap legal_name (name-part c.args.m.now))
