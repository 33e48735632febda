-- The answers and the model's words for them. Definitions only.
use Rattle.std.specs.Prelude as std
use Rattle.std.specs.Prelude.{Bool, List, [], map, set, get_or, ℕ, ◌-◌, Some, None}
use Rattle.std.proofs.Math.Option.{Option, none, some}
use Rattle.gpt_model.specs.declared.Block.{Block}
use Rattle.gpt_model.specs.Ranges.{room_at, free_count, longest_free}
use Rattle.gpt_model.specs.Table.{BlockRange, no_blocks, first_of, range_of}
use Rattle.gpt_room.specs.declared.Free.{Free}

-- D15: the lowest start with enough free blocks; none where there is no room
abbrev pub placed : std.Option Block → Option ℕ
placed (Some b) = some b.0
placed None = none

-- D12: Free counts: usable blocks in no partition, and the longest such run (0 if none).
abbrev pub free_of : List BlockRange → ℕ → ℕ → Free
free_of s first last = record { blocks = free_count s first last; longest = longest_free s first last }

-- D18: the new range of slot k, counted from 1, has no block past the last usable one or in another partition, over the entries t
abbrev pub fits_in : ℕ → List (List ℕ) → ℕ → ℕ → Bool
fits_in last t k size = room_at (set (map range_of t) (k - 1) no_blocks) last size (first_of (get_or t (k - 1) []))
