use mathlib.Core.Path.{sym, ◌∙◌}
use Rattle.gpt_build.specs.Answers.{request_rows}
use Rattle.gpt_build.proofs.Places.{spot-stop, rows-uneven, spot-even}
use Rattle.gpt_build.proofs.request.Request.place.Goals as goal

pub returns-then-uneven : goal.returns-then-uneven
returns-then-uneven c =
    let a = c.args.self.now in
    let es = c.args.table.now in
    spot-stop a.disk.shape a.disk.n a.alignment es a.wanted a.last a.wanted.start (request_rows a es) 71
    (rows-uneven a.disk.shape a.disk.n a.alignment es a.wanted a.last (sym c.uneven.ensures ∙ c.if-uneven.true))

pub returns-in-None : goal.returns-in-None
returns-in-None c =
    let a = c.args.self.now in
    spot-even a.disk.shape a.disk.n a.alignment c.args.table.now a.wanted a.last _ c.in-None.is (sym c.uneven.ensures ∙ c.if-uneven.false) _
    c.place_lowest.ensures

pub returns-in-Some : goal.returns-in-Some
returns-in-Some c =
    let a = c.args.self.now in
    spot-even a.disk.shape a.disk.n a.alignment c.args.table.now a.wanted a.last _ c.in-Some.is (sym c.uneven.ensures ∙ c.if-uneven.false) _
    c.place_given.ensures
