use mathlib.Core.Path.{ap, ap₂, ◌∙◌}
use mathlib.Core.List.{List}
use Prim.Native.Nat.{ℕ}
use Rattle.octets.specs.Bytes.{same}
use Rattle.gpt_model.specs.Disk.{header, entries_in}
use Rattle.gpt_places.specs.Sides.{side_of}
use Rattle.gpt_places.proofs.header.good.Goals as goal

pub returns : goal.returns
returns c =
    let b = c.args.b.now in
    let es = entries_in c.args.disk.shape (side_of c.args.side) b in
    c.same.ensures
    ∙ ap₂ same c.header_in.ensures
    (c.of-right.ensures.0 es c.requires.1 ∙ ap (λ (g : List ℕ). header c.args.disk.shape c.args.disk.n (side_of c.args.side) g es) c.guid_in.ensures)
