use mathlib.Core.List.{[]}
use Prim.Native.Nat.{ℕ, ◌<◌}
use lib.ListN.{get_or}
use Rattle.gpt_table.specs.Invariants.{without, Whole}
use Rattle.gpt_table.proofs.Used.{Decoding}
use Rattle.gpt_table.proofs.decode.Given as goal

abbrev pub invariant-loop-i : goal.invariant-loop-i
invariant-loop-i g l = Decoding g.T.FromEntry.meaning (without l.but l.t) l.items l.n l.i × ((k : ℕ) → k < l.i → Whole (get_or l.t k []))
