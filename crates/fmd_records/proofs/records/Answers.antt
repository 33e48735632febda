use mathlib.Core.Path.{refl}
use Rattle.fmd_lines.proofs.Listings.{count_small}
use Rattle.fmd_records.proofs.Shown.{records-are}
use native.Mathlib.Omega.{arith}
use Rattle.text_out.proofs.Puts.{puts_then, puts-start}
use Rattle.fmd_records.proofs.records.Goals as goal

pub answer_line-at-requires : goal.answer_line-at-requires
answer_line-at-requires c = (count_small _ _ _ refl _ c.list-answer.ensures, omega (arith, c.requires))

pub returns : goal.returns
returns c =
    puts-start _ _ _ _ _ (records-are _ _ _ c.list-answer.ensures)
    (puts_then _ _ _ _ _ _ _ _ c.answer_line-at.ensures.1 c.record_lines.ensures.1)
    (omega (arith, c.answer_line-at.ensures.0, c.record_lines.ensures.0, c.requires))
