use native.Mathlib.Omega.{arith}
use Rattle.text_out.proofs.Puts.{each_none, each_on, each-length}
use Rattle.text_out.specs.Text.{hex_digits}
use Rattle.fmd_lines.proofs.Lines.{each-whole}
use Rattle.fmd_records.specs.Records.{hex_bytes}
use Rattle.fmd_records.proofs.Shown.{byte_put}
use borrow.Author.Rules.{rules}
use Rattle.fmd_records.proofs.name.Goals as goal

pub loop-b-init : goal.loop-b-init
loop-b-init c = each_none (hex_digits 2) 2 _ _ _

pub hex-end-requires : goal.hex-end-requires
hex-end-requires c = (search rules, search rules, search rules, omega (arith, c.loop-b.invariant.short, c.requires))

pub loop-b-preserved : goal.loop-b-preserved
loop-b-preserved c = each_on (hex_digits 2) 2 0 (search rules) (byte_put _ _ _ _ _ c.hex-end.ensures) c.loop-b.invariant

pub shape_of-out : goal.shape_of-out
shape_of-out c = each-length _ _ c.loop-b.invariant

pub returns : goal.returns
unfolding hex_bytes
returns c = let p = each-whole (hex_digits 2) 2 (omega arith) (omega arith) c.loop-b.invariant in (omega (arith, p.0), p.1)
