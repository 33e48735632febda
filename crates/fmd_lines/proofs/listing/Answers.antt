use mathlib.Core.Path.{refl}
use native.Mathlib.Omega.{arith}
use Rattle.text_out.proofs.Puts.{puts_then, puts-start}
use Rattle.fmd.proofs.Answers.{refusal-in-range}
use Rattle.fmd_lines.proofs.Listings.{count_small, so-many, refused-lines, accepted-lines}
use Rattle.std.proofs.Common.{Ok}
use borrow.Author.Rules.{rules}
use Rattle.fmd_lines.proofs.listing.Goals as goal

pub slice_bounds-sections-end : goal.slice_bounds-sections-end
slice_bounds-sections-end c =
    let n = count_small _ _ _ refl (Ok c.in-Ok.image) (rw c.in-Ok.is at c.list-answer.ensures) in
    omega arith

pub slice_bounds-section_lines-end : goal.slice_bounds-section_lines-end
slice_bounds-section_lines-end c = so-many _ _ _ refl c.in-Ok.image (rw c.in-Ok.is at c.list-answer.ensures)

pub section_lines-requires : goal.section_lines-requires
section_lines-requires c =
    let e = rw c.in-Ok.is at c.list-answer.ensures in
    omega (arith, count_small _ _ _ refl (Ok c.in-Ok.image) e, so-many _ _ _ refl c.in-Ok.image e, c.image_line-at.ensures.0, c.requires)

pub numbered-requires : goal.numbered-requires
numbered-requires c =
    (rw (c.number.ensures, c.in-Err.is) (omega (arith, (refusal-in-range c.in-Err.field-0).1)), search rules)

pub returns-in-Ok : goal.returns-in-Ok
returns-in-Ok c =
    let e = rw c.in-Ok.is at c.list-answer.ensures in
    let n = count_small _ _ _ refl (Ok c.in-Ok.image) e in
    let m = so-many _ _ _ refl c.in-Ok.image e in
    puts-start _ _ _ _ _ (accepted-lines _ _ _ refl c.in-Ok.image e)
    (puts_then _ _ _ _ _ _ _ _ c.image_line-at.ensures.1 c.section_lines.ensures.1)
    (omega (arith, n, m, c.image_line-at.ensures.0, c.section_lines.ensures.0, c.requires))

pub returns-in-Err : goal.returns-in-Err
returns-in-Err c =
    puts-start _ _ _ _ _
    (refused-lines _ _ _ refl c.in-Err.field-0 (rw c.in-Err.is at c.list-answer.ensures))
    (rw (c.number.ensures, c.in-Err.is) at c.numbered.ensures.1) (omega (arith, c.numbered.ensures.0, c.requires))
