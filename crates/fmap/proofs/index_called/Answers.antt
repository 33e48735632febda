use Rattle.std.proofs.Common.{sym, length, map}
use borrow.Author.Tests.{lt-ltb, le-ltb}
use Rattle.octets.specs.Tests.{find_ix}
use Rattle.fmap_rules.specs.Map.{area_of}
use Rattle.fmap.specs.Areas.{called}
use Rattle.fmap.proofs.Reading.{place-none, place-some}
use Rattle.fmap.proofs.index_called.Goals as goal

pub returns-in_err-find_called : goal.returns-in_err-find_called
returns-in_err-find_called c =
    let areas = map area_of c.args.areas.now in
    rw (
      c.from_residual.ensures,
      le-ltb (find_ix (called c.args.name.now) areas) (length areas)
          (place-none (called c.args.name.now) areas (sym c.in_err-find_called.ensures)),
    )

pub returns : goal.returns
returns c =
    let areas = map area_of c.args.areas.now in
    let w = place-some (called c.args.name.now) areas _ (sym c.in_ok-find_called.ensures) in
    rw (w.0, lt-ltb c.in_ok-find_called.field-0 (length areas) w.1)
