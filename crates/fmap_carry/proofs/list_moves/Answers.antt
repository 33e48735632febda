use Rattle.std.proofs.Common.{arith, sym, ◌∙◌, []}
use Rattle.std.proofs.lemmas.Result.{err_from_is_err_and}
use lib.ListN.{length-map}
use Rattle.octets.proofs.Tests.{get_d_map}
use Rattle.fmap_rules.specs.Map.{area_of, blank_area}
use Rattle.fmap_carry.proofs.Moves.{listing-none, listing-all, listing-skip, listing-more, listing-fails}
use Rattle.fmap_carry.proofs.list_moves.Goals as goal

pub loop-a-init : goal.loop-a-init
loop-a-init c = listing-none _ _ _

pub loop-a-preserved-then-not-is_preserved : goal.loop-a-preserved-then-not-is_preserved
loop-a-preserved-then-not-is_preserved c =
    listing-skip c.loop-a.invariant (omega (arith, length-map c.args.olds.now area_of)) _
    (sym (get_d_map area_of c.args.olds.now c.loop-a.a-index blank_area [] (omega arith))) (sym c.is_preserved.ensures ∙ c.if-not-is_preserved.true)

pub returns-in_err-to : goal.returns-in_err-to
returns-in_err-to c =
    let p = err_from_is_err_and c.from_residual.result c.from_residual.ensures.1 in
    rw (p.1, p.2) (
      grind arith,
      listing-fails c.loop-a.invariant (omega (arith, length-map c.args.olds.now area_of)) _
          (sym (get_d_map area_of c.args.olds.now c.loop-a.a-index blank_area [] (omega arith))) (sym c.is_preserved.ensures ∙ c.if-not-is_preserved.false)
          (rw (← c.name_of.ensures) (sym c.place_of.ensures ∙ grind arith)),
    )

pub loop-a-preserved : goal.loop-a-preserved
loop-a-preserved c =
    rw c.extent_of.ensures
    (listing-more c.loop-a.invariant (omega (arith, length-map c.args.olds.now area_of)) _
    (sym (get_d_map area_of c.args.olds.now c.loop-a.a-index blank_area [] (omega arith))) _ (sym c.is_preserved.ensures ∙ c.if-not-is_preserved.false)
    (rw (← c.name_of.ensures) (sym c.place_of.ensures ∙ grind arith)) (omega (arith, c.loop-a.invariant.few)))

pub returns : goal.returns
returns c =
    let w = listing-all c.loop-a.invariant (omega (arith, length-map c.args.olds.now area_of)) in
    (w.0, omega (arith, c.loop-a.invariant.few), w.1)
