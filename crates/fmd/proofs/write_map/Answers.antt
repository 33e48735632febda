use Rattle.fmd.proofs.Layouts.{held, few, laid, there, named, fmap-area, map-room, map_is}
use Rattle.fmd.proofs.Records.{stopped}
use Rattle.fmd.specs.Calls.{image_of, layout_in, write_text}
use Rattle.fmd_check.proofs.Listed.{many}
use borrow.Author.Rules.{rules}
use borrow.Author.Tests.{ne_eqb}
use lib.ListN.{length}
use native.Mathlib.Omega.{arith}
use mathlib.Core.Path.{refl, sym, ap, ◌∙◌}
use Rattle.fmd.proofs.write_map.Goals as goal

pub returns-in_err-l : goal.returns-in_err-l
unfolding write_text layout_in
returns-in_err-l c = rw (stopped _ c.from_residual.ensures.1 refl, sym c.in_err-l.ensures)

pub returns-in_err-need_length : goal.returns-in_err-need_length
unfolding write_text layout_in image_of
returns-in_err-need_length c =
    let w = c.in_err-need_length.ensures in
    rw (sym c.in_ok-l.ensures, stopped _ c.from_residual-in_err-need_length.ensures.1 w.0, ne_eqb _ _ w.1)

pub new-areas-requires : goal.new-areas-requires
new-areas-requires c = laid (held _ _ _ _ _ _ (search rules) (search rules) c.in_ok-l.ensures)

pub at-requires : goal.at-requires
at-requires c =
    let g = held _ _ _ _ _ _ (search rules) (search rules) c.in_ok-l.ensures in
    omega (arith, there g, ap length c.new-areas.ensures ∙ many (laid g))

pub image_of-x-requires : goal.image_of-x-requires
image_of-x-requires c = named (held _ _ _ _ _ _ (search rules) (search rules) c.in_ok-l.ensures)

pub overflow_cast-l-2 : goal.overflow_cast-l-2
overflow_cast-l-2 c = omega (arith, few (held _ _ _ _ _ _ (search rules) (search rules) c.in_ok-l.ensures))

pub put_header-requires : goal.put_header-requires
put_header-requires c =
    let g = held _ _ _ _ _ _ (search rules) (search rules) c.in_ok-l.ensures in
    omega (arith, map-room g (fmap-area g c.new-areas.ensures c.at.ensures), c.in_ok-need_length.ensures)

pub put-requires : goal.put-requires
put-requires c =
    let g = held _ _ _ _ _ _ (search rules) (search rules) c.in_ok-l.ensures in
    omega (arith, map-room g (fmap-area g c.new-areas.ensures c.at.ensures), c.in_ok-need_length.ensures, ap length c.new-areas.ensures ∙ many (laid g))

pub returns : goal.returns
unfolding write_text layout_in
returns c =
    let g = held _ _ _ _ _ _ (search rules) (search rules) c.in_ok-l.ensures in
    rw (sym c.in_ok-l.ensures)
    (map_is g c.image_of-x.ensures _ c.in_ok-need_length.ensures _ _ _ (fmap-area g c.new-areas.ensures c.at.ensures) c.put_header.ensures (rw c.new-areas.ensures at c.put.ensures))
