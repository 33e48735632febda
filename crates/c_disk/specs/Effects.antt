-- What C gets of a GPT call: the result, head and tail afterwards, and the number answers afterwards. Definitions only.
use Rattle.std.specs.Prelude.{List, [], ◌∷◌, ℕ, zero, suc, get_or, Option, None, Some}
use Rattle.gpt_model.specs.Disk.{Shape, Side, primary, backup, used_side, entries_at}
use Rattle.gpt_model.specs.Calls.{Answer, refused, accepted, Outcome, outcome, read, step}
use Rattle.gpt_model.specs.Sizes.{shape_of, on_shape}
use Rattle.gpt_model.specs.declared.Rule.{Rule}
use Rattle.gpt_model.specs.declared.Rule.TheVariants.{Present, Earlier}

-- k2: The caller names the rule. For C by a number: 0 is the present rule, every other number the earlier, stricter one
abbrev pub rule_numbered : ℕ → Rule
rule_numbered zero = Present
rule_numbered (suc k) = Earlier

-- R1: A refusal returns its number alone. Accepted is 0
abbrev pub result_of : Answer → ℕ
result_of (refused k) = k
result_of (accepted vs) = 0

-- the numbers behind the pointers for answers, in the order of the parameters, where old stood there: those of an accepted call, on a refusal the old ones
abbrev pub values_of : List ℕ → Answer → List ℕ
values_of old (refused k) = old
values_of old (accepted vs) = vs

pub record GptEffect : Type 0 where
  pub result : ℕ
  pub head : List ℕ
  pub tail : List ℕ
  pub values : List ℕ

abbrev pub gpt_effect : List ℕ → Outcome → GptEffect
gpt_effect old o = record { result = result_of o.answer; head = o.head; tail = o.tail; values = values_of old o.answer }

-- D11: inside whichever of the two lent buffers was used. 0 the head, 1 the tail
abbrev pub side_number : Side → ℕ
side_number primary = 0
side_number backup = 1

-- where the entries begin, by what reading answers (the state): the buffer used, and the byte in it
abbrev pub table_place : Shape → Answer → Answer
table_place g (refused k) = refused k
table_place g (accepted vs) = accepted (side_number (used_side (get_or vs 0 0)) ∷ entries_at g (used_side (get_or vs 0 0)) ∷ [])

abbrev pub with_table_place : Shape → Outcome → Outcome
with_table_place g o = outcome (table_place g o.answer) o.head o.tail

unfoldable pub table_place_by : ℕ → ℕ → List ℕ → List ℕ → Outcome
table_place_by size n h t = on_shape (shape_of size) h t (λ g. with_table_place g (step g n h t read))

-- what a call answers that is lent a GUID or a name of a wrong length. l7: 6 for another block size, before all others
abbrev pub length_number : Option Shape → ℕ
length_number None = 6
length_number (Some g) = 1
