use Prim.Native.Nat.{ℕ}
use mathlib.Core.Path.{sym, ap, ◌∙◌}
use native.Mathlib.Omega.{arith}
use lib.ListN.{get_or}
use Rattle.fmd_table.proofs.Table.{length-sections}
use Rattle.fmd_parse.proofs.Keys.{unseen}
use Rattle.fmd_parse.proofs.rows.repeats_seen.Goals as goal

pub returns-else-seen-key-ne0 : goal.returns-else-seen-key-ne0
returns-else-seen-key-ne0 c =
    rw c.if-seen-key-ne0.false
    (unseen _ _ _ _ c.requires.5 (omega (arith, length-sections c.args.n c.args.rows.now, c.requires.2))
    (ap (λ (i : ℕ). get_or c.args.seen.now i 0) (sym c.requires.3) ∙ c.if-seen-key-ne0.false))
