use Rattle.fmd_check.proofs.Listed.{many, area-in, section-climbs, position-fits, name_fits, area-made}
use Rattle.fmap_rules.specs.Map.{blank_area}
use Rattle.fmap_rules.specs.declared.Area.{Area}
use lib.ListN.{length, get_or}
use native.Mathlib.Omega.{arith}
use Prim.Native.Nat.{◌<◌}
use mathlib.Core.List.{List}
use mathlib.Core.Path.{sym, ap, ◌∙◌}
use Rattle.fmd_check.proofs.areas.Areas.at.Goals as goal

pub row_at-h-requires : goal.row_at-h-requires
row_at-h-requires c = omega (arith, many c.self.invariant, ap length c.self.view_is, c.requires, c.self.invariant.rows_room)

pub placed_at-q-requires : goal.placed_at-q-requires
placed_at-q-requires c = omega (arith, many c.self.invariant, ap length c.self.view_is, c.requires, c.self.invariant.spots_room)

pub position-at-requires : goal.position-at-requires
position-at-requires c =
    let g = c.self.invariant in
    let h : c.args.k < c.self.inside.count = omega (arith, many g, ap length c.self.view_is, c.requires) in
    (g.spots_room, section-climbs g _ h c.placed_at-q.ensures, position-fits g _ h c.placed_at-q.ensures)

pub area_from-requires : goal.area_from-requires
area_from-requires c =
    let g = c.self.invariant in
    let h : c.args.k < c.self.inside.count = omega (arith, many g, ap length c.self.view_is, c.requires) in
    name_fits g _ h c.placed_at-q.ensures c.row_at-h.ensures

pub returns : goal.returns
returns c =
    let g = c.self.invariant in
    let h : c.args.k < c.self.inside.count = omega (arith, many g, ap length c.self.view_is, c.requires) in
    area-made g _ h c.placed_at-q.ensures c.row_at-h.ensures _ c.area_from.ensures c.position-at.ensures
    ∙ (sym (area-in g _ h) ∙ ap (λ (areas : List Area). get_or areas c.args.k blank_area) c.self.view_is)
