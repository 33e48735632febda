use native.Mathlib.Omega.{arith}
use Rattle.text_out.proofs.Puts.{each_none, each_on, each-length}
use Rattle.fmd_lines.proofs.Lines.{each-whole}
use Rattle.fmd_records.specs.Records.{record_line}
use borrow.Author.Rules.{rules}
use Rattle.fmd_records.proofs.record_lines.Goals as goal

pub loop-s-init : goal.loop-s-init
loop-s-init c = each_none record_line 88 _ _ _

pub record_line-end-requires : goal.record_line-end-requires
record_line-end-requires c = omega (arith, c.loop-s.invariant.short, c.requires)

pub loop-s-preserved : goal.loop-s-preserved
loop-s-preserved c = each_on record_line 88 _ (search rules) c.record_line-end.ensures c.loop-s.invariant

pub shape_of-out : goal.shape_of-out
shape_of-out c = each-length _ _ c.loop-s.invariant

pub returns : goal.returns
returns c = let p = each-whole record_line 88 (omega arith) (omega arith) c.loop-s.invariant in (omega (arith, p.0), p.1)
