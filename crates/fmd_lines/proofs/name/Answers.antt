use mathlib.Core.Path.{◌≡◌, sym}
use native.Mathlib.Omega.{arith}
use lib.Seq.{length-take-le}
use lib.ListN.{length}
use Rattle.fmd_lines.proofs.Lines.{name-put}
use borrow.Author.Rules.{rules}
use Rattle.fmd_lines.proofs.name.Goals as goal

pub slice_bounds-bytes-end : goal.slice_bounds-bytes-end
slice_bounds-bytes-end c = sym (length-take-le _ _ c.name_length-k.ensures.1)

pub bytes-requires : goal.bytes-requires
bytes-requires c =
    let long : length c.args.stored.now ≡ 32 = search rules in
    let k = c.name_length-k in
    omega (arith, length-take-le k.result c.args.stored.now k.ensures.1, k.ensures.1, c.requires)

pub returns : goal.returns
returns c = name-put _ _ _ _ _ _ (search rules) c.name_length-k.ensures c.bytes.ensures
