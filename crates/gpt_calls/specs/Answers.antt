-- W15: When an answer is an enum, a definition states this paper's number and values for each enum case. Definitions only.
use Rattle.std.specs.Prelude as std
use Rattle.std.specs.Prelude.{cond, List, [], ◌∷◌, ℕ, zero, suc, Result, Ok, Err, Some, None}
use Rattle.std.proofs.Math.Option.{Option, none, some}
use Rattle.octets.specs.Rows.{refusal}
use Rattle.gpt_model.specs.Disk.{Shape, Side, lent, used_side, entries_in, state, table_of}
use Rattle.gpt_model.specs.Calls.{Answer, refused, accepted, read, lengths_ok, rows_of}
use Rattle.gpt_places.specs.Sides.{behind, entries_place}
use Rattle.gpt_copies.specs.States.{state_number}
use Rattle.gpt_copies.specs.declared.State.{State}
use Rattle.gpt_room.specs.declared.Free.{Free}
use Rattle.gpt_checks.specs.Refusals.{number_of}
use Rattle.gpt_checks.specs.declared.Refusal.{Refusal}
use Rattle.gpt_calls.specs.declared.Added.{Added}

-- an accepted call answers the values of what it gives, a refused one its number
abbrev pub answer_of : {A : Type 0} → (A → List ℕ) → Result A Refusal → Answer
answer_of values (Ok a) = accepted (values a)
answer_of values (Err r) = refused (number_of r)

-- R3: other writers only that they accepted
abbrev pub done_of : Result Unit Refusal → Answer
done_of r = answer_of (λ _. []) r

-- D10: Reading answers: 1 both good with equal disk GUID and entries, 2 both good but different (primary used), 3 primary only, 4 backup only.
-- R3: repair the state found
abbrev pub reading_of : Result State Refusal → Answer
reading_of r = answer_of (λ s. state_number (Some s) ∷ []) r

-- R3: Accepted, add answers slot and first block
abbrev pub added_of : Result Added Refusal → Answer
added_of r = answer_of (λ a. a.slot ∷ a.first.0 ∷ []) r

-- D12: Free counts: usable blocks in no partition, and the longest such run
abbrev pub counted_of : Result Free Refusal → Answer
counted_of r = answer_of (λ f. f.blocks ∷ f.longest ∷ []) r

-- k3: the check answers the first used slot that offends, or 0. Slots are counted from 1, so 0 stands for none alone, and `Some 0` for no answer
abbrev pub slot_or_0 : std.Option ℕ → List ℕ
slot_or_0 None = 0 ∷ []
slot_or_0 (Some zero) = []
slot_or_0 (Some (suc k)) = suc k ∷ []

abbrev pub offending_of : Result (std.Option ℕ) Refusal → Answer
offending_of r = answer_of slot_or_0 r

-- (W9) the part of head or tail that reading hands back: its bytes, and where it begins
pub record Handed : Type 0 where
  pub bytes : List ℕ
  pub place : ℕ × ℕ

abbrev pub handed : List ℕ → ℕ × ℕ → Handed
handed bs p = record { bytes = bs; place = p }

-- R1: an empty part where a part is returned; it lies at the head's start
abbrev pub nothing : ℕ × ℕ → Handed
nothing head = handed [] (behind 0 head)

-- D11: It hands back the 16,384 entry bytes inside whichever of the two lent buffers was used, by where head and tail begin, on a disk of that shape.
module _ (g : Shape) (h t : List ℕ) (head tail : ℕ × ℕ) where
  abbrev pub entries_from : Side → Handed
  entries_from side = handed (entries_in g side (lent side h t)) (entries_place g side head tail)

  -- (D10) by what reading answered
  abbrev pub entries_of : Result State Refusal → Handed
  entries_of (Ok s) = entries_from (used_side (state_number (Some s)))
  entries_of (Err r) = nothing head

  abbrev pub entries_on : Result State Refusal → Handed
  entries_on r = cond (lengths_ok g h t) (entries_of r) (nothing head)

  abbrev pub handed_if : ℕ → Option ℕ → Handed
  handed_if n none = handed (table_of g n h t) (entries_place g (used_side (state g n h t)) head tail)
  handed_if n (some k) = nothing head

  abbrev pub handed_on : ℕ → Handed
  handed_on n = handed_if n (refusal (rows_of g n h t read))
