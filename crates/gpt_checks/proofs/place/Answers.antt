use mathlib.Core.Path.{sym, ap, ◌∙◌}
use native.Mathlib.Omega.{arith}
use Rattle.gpt_checks.specs.Checks.{stop_of}
use Rattle.gpt_checks.proofs.Rows.{handed}
use Rattle.gpt_checks.proofs.Judged.{add-size, add-alignment, start-stops, start-found}
use Rattle.gpt_checks.proofs.place.Goals as goal

pub returns-in_err-new-clause-refused : goal.returns-in_err-new-clause-refused
returns-in_err-new-clause-refused c =
    let a = c.args in
    let w = c.from_residual.ensures in
    handed _ _ w.0 w.1 ∙ start-stops a.disk.shape a.disk.n a.table.now a.p _ (sym c.in_err-new.ensures)

pub lowest-requires : goal.lowest-requires
lowest-requires c =
    let a = c.args in
    let e = c.last_usable.ensures in
    let m = a.disk.fits in
    let passed = sym c.in_ok-new.ensures in
    let t = a.table.now in
    (add-size a.disk.shape a.disk.n t a.p passed, add-alignment a.disk.shape a.disk.n t a.p passed, omega arith)

pub returns-clause-refused : goal.returns-clause-refused
returns-clause-refused c =
    let a = c.args in
    ap stop_of c.ok_or.ensures.value
    ∙ start-found a.disk.shape a.disk.n a.table.now a.p (sym c.in_ok-new.ensures) _ _ _ c.first_usable.ensures c.last_usable.ensures (rw c.as_table-table.ensures at c.lowest.ensures)
