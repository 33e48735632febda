use Rattle.std.proofs.Common.{◌∙◌, ap, take}
use Rattle.octets.specs.Bytes.{unle, part, rest}
use Rattle.octets.proofs.Parts.{rest-slice}
use Rattle.octets.proofs.load.Goals as goal

pub returns : goal.returns
unfolding part rest
returns g c =
    let w = rw c.unwrap.ensures at c.first_chunk.ensures.cases in
    c.from_bytes.ensures ∙ ap unle (w.same ∙ ap (take g.row.WIDTH) (rest-slice c.args.at c.args.s.now))
