-- What the code relies on in a shape; the `requires` of every function that takes one. Definitions only.
use Rattle.std.specs.Prelude.{ℕ, ◌*◌, ◌≤◌}
use Rattle.gpt_model.specs.Table.{table_bytes}
use Rattle.gpt_model.specs.Disk.{Shape, most_blocks}

-- l2: Block 0 is as before in its first 512 bytes
abbrev pub boot_bytes : ℕ
boot_bytes = 512

-- a block holds what formatting writes into block 0, and so a header; it is no longer than the table; block 0 is not usable; some N is in range
pub record Legal (g : Shape) : Type 0 where
  pub wide : boot_bytes ≤ g.block
  pub narrow : g.block ≤ table_bytes
  pub behind : 1 ≤ g.first
  pub range : 2 * g.first ≤ most_blocks

-- such a shape, and n is at least the least N
pub record Fits (g : Shape) (n : ℕ) : Type 0 where
  pub legal : Legal g
  pub least : 2 * g.first ≤ n
