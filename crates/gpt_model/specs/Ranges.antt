-- Blocks: which lie in partitions, where there is room, how many are free. Definitions only; `first` and `last` are the first and the last usable block.
use Rattle.std.specs.Prelude.{◌≡◌, Bool, true, false, not, List, ℕ, zero, suc, ◌+◌, ◌-◌, ◌*◌, ◌%◌, ◌≤◌, ◌<◌, max, leb, eqb}
use Rattle.std.proofs.Math.Option.{Option, none, some}
use Rattle.octets.specs.Tests.{◌and◌, ◌or◌, any}
use Rattle.gpt_model.specs.Table.{BlockRange, no_blocks, spans}
use Rattle.gpt_model.specs.Disk.{Shape, last_usable}

-- D21: A block lies in a partition when it is one of first to last of a used entry
unfoldable pub block_in : ℕ → BlockRange → Bool
block_in b no_blocks = false
block_in b (spans f l) = leb f b and leb b l

-- the block lies in some partition
abbrev pub in_some : List BlockRange → ℕ → Bool
in_some t b = any (block_in b) t

-- the block lies in no partition, whether usable or not. D21: usable blocks (34 to N−34) in none are free, consecutive ones a run.
abbrev pub in_none : List BlockRange → ℕ → Bool
in_none t b = not (in_some t b)

-- (D21) a run of free blocks: the size blocks from s on are usable, and each lies in no partition
abbrev pub FreeFrom : Shape → ℕ → List BlockRange → ℕ → ℕ → Type 0
FreeFrom g n t size s = (g.first ≤ s) × (s + size ≤ suc (last_usable g n)) × ((b : ℕ) → s ≤ b → b < s + size → in_some t b ≡ false)

-- s is m times some number. (e1) The multiple is of the block's number, not of its distance from the first usable block.
abbrev pub MultipleOf : ℕ → ℕ → Type 0
MultipleOf m s = (k : ℕ) × (s ≡ m * k)

-- (e4) an aligned start with enough free blocks from it on
abbrev pub AlignedFrom : Shape → ℕ → List BlockRange → ℕ → ℕ → ℕ → Type 0
AlignedFrom g n t size alignment s = MultipleOf alignment s × FreeFrom g n t size s

-- ---- room: a run of enough free blocks; placing and row 25 go by this one definition, and demand 3 says over blocks what it must be

-- p holds of the k numbers from lo on
unfoldable pub all_from : (ℕ → Bool) → ℕ → ℕ → Bool
all_from p lo zero = true
all_from p lo (suc k) = p lo and all_from p (suc lo) k

-- the blocks s to s + size − 1 end at last or before, and lie in no partition
unfoldable pub room_at : List BlockRange → ℕ → ℕ → ℕ → Bool
room_at t last size s = leb (s + size) (suc last) and all_from (in_none t) s size

-- the lowest of the k numbers from lo on of which p holds
unfoldable pub lowest_from : (ℕ → Bool) → ℕ → ℕ → Option ℕ
lowest_from p lo zero = none
lowest_from p lo (suc k) = elim (p lo) [ true ↦ some lo | false ↦ lowest_from p (suc lo) k ]

-- e1: a stated alignment, 1, 8 or 2,048 blocks
abbrev pub is_alignment : ℕ → Bool
is_alignment m = eqb m 1 or eqb m 8 or eqb m 2048

-- the block s is a multiple of the alignment and has room
abbrev pub aligned_at : List BlockRange → ℕ → ℕ → ℕ → ℕ → Bool
aligned_at t last size alignment s = eqb (s % alignment) 0 and room_at t last size s

-- D15: the lowest start with enough free blocks. e1: the lowest multiple of it with room enough
unfoldable pub lowest_start : List BlockRange → ℕ → ℕ → ℕ → ℕ → Option ℕ
lowest_start t first last size alignment = lowest_from (aligned_at t last size alignment) first (suc last - first)

-- ---- blocks counted one by one

abbrev pub bit : Bool → ℕ
bit true = 1
bit false = 0

-- of how many of the k numbers from lo on p holds
unfoldable pub count_from : (ℕ → Bool) → ℕ → ℕ → ℕ
count_from p lo zero = 0
count_from p lo (suc k) = bit (p lo) + count_from p (suc lo) k

-- the blocks lying in partitions, counted one by one
unfoldable pub taken : List BlockRange → ℕ → ℕ → ℕ
taken t first last = count_from (in_some t) first (suc last - first)

-- D12: usable blocks in no partition
unfoldable pub free_count : List BlockRange → ℕ → ℕ → ℕ
free_count t first last = count_from (in_none t) first (suc last - first)

-- of how many of the k numbers from lo on p holds before it fails
unfoldable pub run_from : (ℕ → Bool) → ℕ → ℕ → ℕ
run_from p lo zero = 0
run_from p lo (suc k) = elim (p lo) [ true ↦ suc (run_from p (suc lo) k) | false ↦ 0 ]

-- the longest of the runs that begin at one of the k numbers from lo on
unfoldable pub longest : (ℕ → Bool) → ℕ → ℕ → ℕ
longest p lo zero = 0
longest p lo (suc k) = max (run_from p lo (suc k)) (longest p (suc lo) k)

-- D12: and the longest such run (0 if none)
unfoldable pub longest_free : List BlockRange → ℕ → ℕ → ℕ
longest_free t first last = longest (in_none t) first (suc last - first)
