-- What a look ahead from block a finds among the ranges s: what only contracts and proofs cite.
use Rattle.std.specs.Prelude.{◌≡◌, true, false, List, map, ℕ, ◌+◌, ◌≤◌, ◌<◌, length, get_or, drop}
use Rattle.gpt_model.specs.declared.Block.{Block}
use Rattle.gpt_model.specs.Ranges.{block_in, in_some}
use Rattle.gpt_model.specs.Table.{BlockRange, no_blocks}
use Rattle.gpt_table.specs.Invariants.{blocks_of}
use Rattle.gpt_table.specs.declared.order.Range.{Range}
use Rattle.gpt_room.specs.declared.Ahead.{Ahead}
use Rattle.gpt_room.specs.declared.Ahead.TheVariants.{Taken, Gap}

-- no range before range i has a block at a or behind it
pub record Passed (s : List BlockRange) (a i : ℕ) : Type 0 where
  pub over : (k : ℕ) → k < i → (c : ℕ) → a ≤ c → block_in c (get_or s k no_blocks) ≡ false

-- rest is what is left of the ranges rs behind the first ones, which have no block at a or behind it
pub record Behind (rs : List Range) (a : ℕ) (rest : List Range) : Type 0 where
  pub count : ℕ
  pub within : count ≤ length rs
  pub left : rest ≡ drop count rs
  pub passed : Passed (map blocks_of rs) a count

-- and the first of rest, if there is one, has such a block
pub record Next (rs : List Range) (a : ℕ) (rest : List Range) : Type 0 where
  pub behind : Behind rs a rest
  pub reaches : (d : Range) → 0 < length rest → ((get_or rest 0 d).first.0 ≤ (get_or rest 0 d).last.0) × (a ≤ (get_or rest 0 d).last.0)

-- all blocks from a to x lie in ranges
pub record Full (s : List BlockRange) (a x : ℕ) : Type 0 where
  pub from : a ≤ x
  pub taken : (c : ℕ) → a ≤ c → c ≤ x → in_some s c ≡ true

-- the blocks from a to g − 1 are free; g is the block after last, or lies in a range
pub record Clear (s : List BlockRange) (a last g : ℕ) : Type 0 where
  pub past : a < g
  pub end : g ≤ last + 1
  pub free : (c : ℕ) → a ≤ c → c < g → in_some s c ≡ false
  pub stop : (g ≤ last → in_some s g ≡ true)

pub data Stands (s : List BlockRange) (a last : ℕ) : Ahead → Type 0 where
  taken : {x : Block} → Full s a x.0 → Stands s a last (Taken x)
  gap : {g : Block} → Clear s a last g.0 → Stands s a last (Gap g)
