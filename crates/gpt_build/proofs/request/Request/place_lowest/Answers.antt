use mathlib.Core.Path.{sym, ◌∙◌}
use Rattle.gpt_build.proofs.Places.{handed, lowest-says-stop, lowest-says-from}
use Rattle.gpt_build.proofs.request.Request.place_lowest.Goals as goal

pub returns-in_err-first : goal.returns-in_err-first
returns-in_err-first c =
    let a = c.args.self.now in
    let w = c.from_residual.ensures in
    handed _ _ w.0 w.1
    ∙ lowest-says-stop a.disk.shape a.disk.n a.alignment c.args.table.now a.wanted a.last _ _ c.needed-size.ensures c.as_new.ensures _
    (sym c.in_err-first.ensures.refused)

pub returns : goal.returns
returns c =
    let a = c.args.self.now in
    lowest-says-from a.disk.shape a.disk.n a.alignment c.args.table.now a.wanted a.last _ _ c.needed-size.ensures c.as_new.ensures
    (sym c.in_ok-first.ensures.refused) _ c.in_ok-first.ensures.start _ c.blocks_from-blocks.ensures
