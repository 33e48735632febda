use Rattle.fmd_check.proofs.Plans.{resolve-stop, resolve-on, resolve-done}
use Rattle.fmd_table.proofs.Table.{none-placed}
use native.Mathlib.Omega.{arith}
use mathlib.Core.Path.{sym, ◌∙◌}
use Rattle.fmd_check.proofs.plan.resolve.Goals as goal

pub loop-k-init : goal.loop-k-init
loop-k-init c = rw (none-placed c.args.spots.now)

pub returns-in-Err : goal.returns-in-Err
returns-in-Err c = resolve-stop _ _ _ _ _ _ (omega arith) (sym c.place_at.ensures ∙ c.in-Err.is) ∙ c.loop-k.invariant

pub loop-k-preserved : goal.loop-k-preserved
loop-k-preserved c = resolve-on _ _ _ _ _ _ _ (omega arith) (sym c.place_at.ensures ∙ c.in-Ok.is) c.put_placed.ensures ∙ c.loop-k.invariant

pub returns : goal.returns
returns c = resolve-done _ _ _ _ _ (omega arith) ∙ c.loop-k.invariant
