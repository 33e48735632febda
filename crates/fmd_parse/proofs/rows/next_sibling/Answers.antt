use mathlib.Core.Path.{sym, ◌∙◌}
use native.Mathlib.Omega.{arith}
use Rattle.fmd_parse.proofs.RowLoops.{next-below, next-is, next-none}
use Rattle.fmd_parse.proofs.rows.next_sibling.Goals as goal

pub returns-in_err-j : goal.returns-in_err-j
returns-in_err-j c = c.from_residual.ensures ∙ next-none _ _ c.requires.2 _ c.requires.1 (sym c.next_at.ensures ∙ c.in_err-j.was)

pub row_at-requires : goal.row_at-requires
row_at-requires c = let b = next-below _ _ c.requires.2 _ c.requires.1 (sym c.next_at.ensures ∙ c.in_ok-j.was) in omega arith

pub returns : goal.returns
returns c = rw c.row_at.ensures (next-is _ _ c.requires.2 _ c.requires.1 (sym c.next_at.ensures ∙ c.in_ok-j.was))
