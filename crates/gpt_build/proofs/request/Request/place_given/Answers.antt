use mathlib.Core.Path.{sym, ◌∙◌}
use Rattle.std.specs.Prelude.{Some}
use Rattle.gpt_build.specs.Invariants.{rows_from72}
use Rattle.gpt_build.proofs.Places.{handed, spot-stop, given-taken, given-says-stop, given-says-short, given-says-from}
use Rattle.gpt_build.proofs.request.Request.place_given.Goals as goal

pub returns-then-run-eq0 : goal.returns-then-run-eq0
returns-then-run-eq0 c =
    let a = c.args.self.now in
    let es = c.args.table.now in
    let at = c.args.at in
    let g = a.disk.shape in
    let run = rw c.block_size.ensures.0 at c.usable_run-run.ensures in
    spot-stop g a.disk.n a.alignment es a.wanted a.last (Some at) (rows_from72 g a.disk.n a.alignment es a.wanted a.last (Some at)) 72
    (given-taken g a.disk.n a.alignment es a.wanted a.last at (sym run ∙ c.if-run-eq0.true))

pub returns-then-run-size : goal.returns-then-run-size
returns-then-run-size c =
    let a = c.args.self.now in
    given-says-short a.disk.shape a.disk.n a.alignment c.args.table.now a.wanted a.last _ _ c.needed-size.ensures c.as_new.ensures c.args.at _
    (rw c.block_size.ensures.0 at c.usable_run-run.ensures) c.if-run-eq0.false (sym c.in_ok-new.ensures) c.if-run-size.true

pub returns-in_err-new : goal.returns-in_err-new
returns-in_err-new c =
    let a = c.args.self.now in
    let w = c.from_residual.ensures in
    handed _ _ w.0 w.1
    ∙ given-says-stop a.disk.shape a.disk.n a.alignment c.args.table.now a.wanted a.last _ _ c.needed-size.ensures c.as_new.ensures c.args.at _
    (rw c.block_size.ensures.0 at c.usable_run-run.ensures) c.if-run-eq0.false _ (sym c.in_err-new.ensures)

pub returns : goal.returns
returns c =
    let a = c.args.self.now in
    rw c.block_size.ensures.0
    (given-says-from a.disk.shape a.disk.n a.alignment c.args.table.now a.wanted a.last _ _ c.needed-size.ensures c.as_new.ensures c.args.at _
    (rw c.block_size.ensures.0 at c.usable_run-run.ensures) c.if-run-eq0.false (sym c.in_ok-new.ensures) c.if-run-size.false _
    (rw c.block_size.ensures.0 at c.blocks_from-blocks.ensures))
