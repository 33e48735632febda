use native.Mathlib.Omega.{arith}
use Rattle.text_out.proofs.Puts.{each_none, each_on, each-length}
use Rattle.fmd_lines.proofs.Lines.{each-whole}
use Rattle.fmd_lines.specs.Lines.{section_line}
use Rattle.fmd_lines.proofs.section_lines.Goals as goal

pub loop-s-init : goal.loop-s-init
loop-s-init c = each_none section_line 56 _ _ _

pub section_line-end-requires : goal.section_line-end-requires
section_line-end-requires c = omega (arith, each-length _ _ c.loop-s.invariant, c.loop-s.invariant.short, c.requires)

pub loop-s-preserved : goal.loop-s-preserved
loop-s-preserved c = each_on section_line 56 _ (omega arith) c.section_line-end.ensures c.loop-s.invariant

pub shape_of-out : goal.shape_of-out
shape_of-out c = each-length _ _ c.loop-s.invariant

pub returns : goal.returns
returns c = each-whole _ _ (omega arith) (omega arith) c.loop-s.invariant
