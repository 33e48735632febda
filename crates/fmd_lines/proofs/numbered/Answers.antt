use native.Mathlib.Omega.{arith}
use Rattle.text_out.proofs.Digits.{length-decimal}
use Rattle.fmd_lines.proofs.Lines.{numbered-put}
use Rattle.fmd_lines.proofs.numbered.Goals as goal

pub bytes-requires : goal.bytes-requires
bytes-requires c =
    omega (arith, c.bytes-a.ensures.0, c.bytes-b.ensures.0, c.decimal-c.ensures.0, length-decimal c.args.n, c.requires.1)

pub returns : goal.returns
returns c =
    numbered-put _ _ _ _ _ _ _ _ _ _ _ _ c.bytes-a.ensures c.bytes-b.ensures c.decimal-c.ensures c.bytes.ensures
