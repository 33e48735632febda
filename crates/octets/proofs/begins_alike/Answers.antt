use Rattle.std.proofs.Common.{◌≡◌, ◌∙◌, sym, ap, rules}
use borrow.Author.Tests.{eq-eqb}
use lib.ListN.{take}
use Rattle.octets.specs.Bytes.{unle}
use Rattle.octets.proofs.Equal.{same_true}
use Rattle.octets.proofs.begins_alike.Goals as goal

pub returns-in-Some-Some : goal.returns-in-Some-Some
returns-in-Some-Some c e =
    let x : c.in-Some-Some.x.now ≡ take 8 c.args.a.now = search rules in
    let y : c.in-Some-Some.y.now ≡ take 8 c.args.b.now = search rules in
    eq-eqb _ _
    (c.from_bytes.ensures
    ∙ ap unle (x ∙ ap (take 8) (same_true _ _ e) ∙ sym y)
    ∙ sym c.from_bytes-in-Some-Some.ensures)
