use mathlib.Core.Path.{ap, ◌∙◌}
use mathlib.Core.List.{List}
use Prim.Native.Nat.{ℕ}
use Rattle.octets.specs.Bytes.{put}
use Rattle.gpt_model.specs.Disk.{header_at, header}
use Rattle.gpt_places.specs.Sides.{side_of}
use Rattle.gpt_copies.proofs.writing.renew_header.Goals as goal

pub returns : goal.returns
returns c =
    let side = side_of c.args.side in
    let with-guid : List ℕ → List ℕ → List ℕ = λ es guid. put (header_at c.args.disk.shape side) (header c.args.disk.shape c.args.disk.n side guid es) c.args.b.now in
    λ es p. c.put_header.ensures es p ∙ ap (with-guid es) c.guid_in.ensures
