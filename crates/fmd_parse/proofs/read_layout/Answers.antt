use Prim.Native.Nat.{◌+◌, ◌*◌}
use mathlib.Core.Path.{sym, ◌∙◌}
use native.Mathlib.Omega.{arith}
use lib.ListN.{length}
use borrow.Author.Rules.{rules}
use Rattle.fmd_parse.specs.Layouts.{layout_of}
use Rattle.fmd_parse.proofs.Layouts.{from-none}
use Rattle.fmd_parse.proofs.read_layout.Goals as goal

pub returns-in_err-image-clause-rows_after : goal.returns-in_err-image-clause-rows_after
unfolding layout_of
returns-in_err-image-clause-rows_after c =
    rw (sym c.next_token.ensures.value, sym c.image_at.ensures.value ∙ c.in_err-image.was) (search rules)

pub returns-in_err-count-clause-rows_after : goal.returns-in_err-count-clause-rows_after
unfolding layout_of
returns-in_err-count-clause-rows_after c =
    let q = from-none _ _ _ _ _ _ (c.read_list.ensures.same (2 * length c.args.text.now + 2) (omega arith)) in
    rw (sym c.next_token.ensures.value, sym c.image_at.ensures.value ∙ c.in_ok-image.was, sym q, c.in_err-count.was) (search rules)

pub returns-then-not-is-clause-rows_after : goal.returns-then-not-is-clause-rows_after
unfolding layout_of
returns-then-not-is-clause-rows_after c =
    let q = from-none _ _ _ _ _ _ (c.read_list.ensures.same (2 * length c.args.text.now + 2) (omega arith)) in
    rw (
      sym c.next_token.ensures.value,
      sym c.image_at.ensures.value ∙ c.in_ok-image.was,
      sym q,
      c.in_ok-count.was,
      sym c.is.ensures ∙ c.if-not-is.true,
      c.fault_at.ensures,
    )

pub returns-clause-rows_after : goal.returns-clause-rows_after
unfolding layout_of
returns-clause-rows_after c =
    let q = from-none _ _ _ _ _ _ (c.read_list.ensures.same (2 * length c.args.text.now + 2) (omega arith)) in
    rw (
      sym c.next_token.ensures.value,
      sym c.image_at.ensures.value ∙ c.in_ok-image.was,
      sym q,
      c.in_ok-count.was,
      sym c.is.ensures ∙ c.if-not-is.false,
    )
