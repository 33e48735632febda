use Rattle.fmd_check.proofs.Found.{found_below, unfit-facts, unsized-facts, plan-facts}
use Rattle.fmd_check.proofs.Stages.{named-in, at-54, on-54, at-56, on-56, at-57, on-58}
use Rattle.fmd_check.specs.Plans.{unfit, unsized, plan, resolve_from}
use Rattle.fmd_parse.specs.Rows.{first_repeat, first_cbfs}
use native.Mathlib.Omega.{arith}
use mathlib.Core.List.{[]}
use mathlib.Core.Path.{◌≡◌, sym, ◌∙◌}
use Rattle.fmd_table.specs.Table.{sections_in, placed_in}
use Rattle.fmd_check.proofs.check_list.Goals as goal

pub fault_at-requires : goal.fault_at-requires
unfolding first_repeat
fault_at-requires c = omega (arith, found_below _ _ _ _ (sym c.first_repeat.ensures ∙ c.in-Some.is))

pub returns-in-Some : goal.returns-in-Some
unfolding first_repeat
returns-in-Some c =
    let e = sym c.first_repeat.ensures ∙ c.in-Some.is in
    rw (c.fault_at.ensures, named-in _ _ _ (found_below _ _ _ _ e)) (at-54 _ _ _ _ _ e)

pub fault_at-requires-in-Some-first_cbfs : goal.fault_at-requires-in-Some-first_cbfs
unfolding first_cbfs
fault_at-requires-in-Some-first_cbfs c = omega (arith, found_below _ _ _ _ (sym c.first_cbfs.ensures ∙ c.in-Some-first_cbfs.is))

pub returns-in-Some-first_cbfs : goal.returns-in-Some-first_cbfs
unfolding first_cbfs
returns-in-Some-first_cbfs c =
    let e = sym c.first_cbfs.ensures ∙ c.in-Some-first_cbfs.is in
    rw (c.fault_at-in-Some-first_cbfs.ensures, named-in _ _ _ (found_below _ _ _ _ e))
    (at-56 _ _ _ _ _ e ∙ on-54 _ _ _ _ (sym c.first_repeat.ensures ∙ c.in_default.is))

pub returns-in-Ok : goal.returns-in-Ok
returns-in-Ok c =
    let e : plan (placed_in c.args.n c.resolve.new.spots) ≡ resolve_from c.args.image.size [] (sections_in c.args.n c.args.rows.now) = c.in-Ok.ensures in
    rw (sym e)
    (c.check_map.ensures
    ∙ (on-58 _ _ _ _ (plan-facts _ _ _ _ e)
    ∙ (on-56 _ _ _ _ (sym c.first_cbfs.ensures ∙ c.in_default-first_cbfs.is) ∙ on-54 _ _ _ _ (sym c.first_repeat.ensures ∙ c.in_default.is))))

pub unfit_at-requires : goal.unfit_at-requires
unfit_at-requires c =
    let w = unfit-facts _ _ _ _ (rw c.in-Unfit.is at c.in-Err.ensures) in
    let p = c.requires in (p.0, w.0, w.1, p.2)

pub returns-in-Unfit : goal.returns-in-Unfit
returns-in-Unfit c =
    let e : unfit c.in-Err.u.at ≡ resolve_from c.args.image.size [] (sections_in c.args.n c.args.rows.now) = rw c.in-Unfit.is at c.in-Err.ensures in
    rw (sym e)
    (c.unfit_at.ensures _ _ c.resolve.new.spots
    ∙ (on-56 _ _ _ _ (sym c.first_cbfs.ensures ∙ c.in_default-first_cbfs.is) ∙ on-54 _ _ _ _ (sym c.first_repeat.ensures ∙ c.in_default.is)))

pub fault_at-requires-in-NoSize : goal.fault_at-requires-in-NoSize
fault_at-requires-in-NoSize c =
    let e : unsized c.in-Err.u.at ≡ resolve_from c.args.image.size [] (sections_in c.args.n c.args.rows.now) = rw c.in-NoSize.is at c.in-Err.ensures in
    let p = c.requires in
    omega (arith, (unsized-facts _ _ _ _ e).0, p.0)

pub returns-in-NoSize : goal.returns-in-NoSize
returns-in-NoSize c =
    let e : unsized c.in-Err.u.at ≡ resolve_from c.args.image.size [] (sections_in c.args.n c.args.rows.now) = rw c.in-NoSize.is at c.in-Err.ensures in
    let w = unsized-facts _ _ _ _ e in
    rw (c.fault_at-in-NoSize.ensures, named-in _ _ _ w.0)
    (at-57 _ _ _ _ _ w.1
    ∙ (on-56 _ _ _ _ (sym c.first_cbfs.ensures ∙ c.in_default-first_cbfs.is) ∙ on-54 _ _ _ _ (sym c.first_repeat.ensures ∙ c.in_default.is)))
