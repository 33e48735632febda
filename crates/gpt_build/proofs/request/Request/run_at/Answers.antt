use native.Mathlib.Omega.{arith}
use Rattle.gpt_build.proofs.request.Request.run_at.Goals as goal

pub run_at-requires : goal.run_at-requires
run_at-requires c =
    let a = c.args.self.now in
    let f = a.few in
    let e = c.last_usable.ensures in
    omega arith
