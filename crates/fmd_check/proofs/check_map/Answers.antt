use Rattle.fmd_check.proofs.Found.{found_below}
use Rattle.fmd_check.proofs.Stages.{named-in, no-map, bad-map, good-map}
use Rattle.fmd_parse.specs.Rows.{fmap_in}
use native.Mathlib.Omega.{arith}
use mathlib.Core.Path.{sym, ◌∙◌}
use Rattle.fmd_check.proofs.check_map.Goals as goal

pub no_map-requires : goal.no_map-requires
unfolding fmap_in
no_map-requires c = let p = c.requires in (p.0, p.1, p.2, found_below _ _ _ _ (sym c.find_fmap.ensures ∙ c.in-Some.is))

pub fault_at-requires : goal.fault_at-requires
unfolding fmap_in
fault_at-requires c = omega (arith, found_below _ _ _ _ (sym c.find_fmap.ensures ∙ c.in-Some.is))

pub returns-then-no_map : goal.returns-then-no_map
unfolding fmap_in
returns-then-no_map c =
    let e = sym c.find_fmap.ensures ∙ c.in-Some.is in
    rw (c.fault_at.ensures, named-in _ _ _ (found_below _ _ _ _ e)) (bad-map _ _ _ _ _ e (sym c.no_map.ensures ∙ c.if-no_map.true))

pub returns-in_default : goal.returns-in_default
returns-in_default c = no-map _ _ _ _ (sym c.find_fmap.ensures ∙ c.in_default.is)

pub returns : goal.returns
returns c = good-map _ _ _ _ _ (sym c.find_fmap.ensures ∙ c.in-Some.is) (sym c.no_map.ensures ∙ c.if-no_map.false)
