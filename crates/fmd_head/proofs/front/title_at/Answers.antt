use mathlib.Core.Path.{sym, ◌∙◌}
use native.Mathlib.Omega.{arith}
use Rattle.fmd_lex.proofs.Names.{name-size}
use Rattle.fmd_head.proofs.front.title_at.Goals as goal

pub overflow_cast-i-2 : goal.overflow_cast-i-2
overflow_cast-i-2 c =
    let n = name-size c.args.text.now c.args.t c.requires.1.ordered c.requires.1.inside (sym c.name_at.ensures ∙ c.if-not-name_at.false) in
    record { fits = omega arith }
