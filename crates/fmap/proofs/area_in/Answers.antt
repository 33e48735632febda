use Rattle.std.proofs.Common.{arith, sym, ap, ◌∙◌, map, []}
use lib.ListN.{length-map}
use Rattle.octets.proofs.Tests.{get_d_map}
use Rattle.fmap_rules.specs.Map.{area_of, blank_area}
use Rattle.fmap.proofs.Reading.{area-none, area-there}
use Rattle.fmap.proofs.area_in.Goals as goal

pub returns-in_err-get : goal.returns-in_err-get
returns-in_err-get c =
    rw c.from_residual.ensures (area-none (map area_of c.args.areas.now) c.args.k
    (omega (arith, length-map c.args.areas.now area_of, c.in_err-get.ensures.lookup.3)))

pub returns : goal.returns
returns c =
    let at = c.in_ok-get.ensures.lookup.3 in
    area-there (map area_of c.args.areas.now) c.args.k _ (omega (arith, length-map c.args.areas.now area_of, at.0))
    (c.read_area.ensures ∙ ap area_of (at.1 []) ∙ sym (get_d_map area_of c.args.areas.now c.args.k blank_area [] at.0))
