use mathlib.Core.Path.{refl, ap, ◌∙◌}
use Prim.Native.Nat.{ℕ, ◌+◌}
use native.Mathlib.Omega.{arith}
use Rattle.gpt_places.specs.Sides.{side_of}
use Rattle.gpt_places.proofs.Places.{header-end, cut-guid}
use Rattle.gpt_places.proofs.guid_in.Goals as goal

pub overflow_add-at : goal.overflow_add-at
overflow_add-at c = omega (arith, header-end c.args.shape c.requires.1 (side_of c.args.side))

pub returns : goal.returns
returns c =
    let whole = rw c.unwrap.ensures at c.as_array.ensures.cases in
    whole.same ∙ cut-guid c.args.shape c.args.b.now (side_of c.args.side) _ _ (ap (λ (k : ℕ). k + 56) c.header_at-at.ensures) refl
