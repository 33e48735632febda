use Rattle.fmd_check.proofs.Found.{later-below}
use Rattle.fmd_check.proofs.Stages.{named-in, at-57, at-58, after-unfit}
use Rattle.fmd_table.proofs.Table.{length-sections}
use Prim.Native.Nat.{◌+◌}
use native.Mathlib.Omega.{arith}
use mathlib.Core.Path.{sym, ◌∙◌}
use Rattle.fmd_check.proofs.unfit_at.Goals as goal

pub fault_at-requires : goal.fault_at-requires
fault_at-requires c = let h = later-below _ c.args.rows.now _ (c.args.k + 1) _ (omega arith) (sym c.first_undecided.ensures ∙ c.in-Some.is) in omega arith

pub returns-in-Some : goal.returns-in-Some
returns-in-Some c = λ s i spots.
    let h = later-below _ c.args.rows.now _ (c.args.k + 1) _ (omega arith) (sym c.first_undecided.ensures ∙ c.in-Some.is) in
    rw (c.fault_at.ensures, named-in _ _ _ h)
    (at-57 s i _ _ _ (sym (after-unfit _ _ _ (length-sections _ _) c.requires.1 c.requires.2) ∙ sym c.first_undecided.ensures ∙ c.in-Some.is))

pub returns-in-None : goal.returns-in-None
returns-in-None c = λ s i spots.
    rw (c.fault_at-in-None.ensures, named-in _ _ _ c.requires.1)
    (at-58 s i _ _ (sym (after-unfit _ _ _ (length-sections _ _) c.requires.1 c.requires.2) ∙ sym c.first_undecided.ensures ∙ c.in-None.is))
