use mathlib.Core.Bool.{false}
use mathlib.Core.Path.{◌≡◌, refl, sym, ◌∙◌}
use Rattle.fmd_parse.proofs.RowLoops.{item}
use Rattle.fmd_parse.specs.Rows.{is_undecided, undecided}
use Rattle.fmd_parse.specs.declared.rows.Reach.{Reach}
use Rattle.fmd_parse.specs.declared.rows.Reach.TheVariants.{OfSize, UpTo, ToParentEnd, Undecided}
use Rattle.fmd_parse.proofs.rows.undecided_at.Goals as goal

pub returns-in-Undecided : goal.returns-in-Undecided
unfolding undecided
returns-in-Undecided c =
    rw (item c.args.n c.args.rows.now c.args.k c.requires.1, sym c.row_at.ensures, sym c.reach_of.ensures ∙ c.in-Undecided.is)

decided : (r : Reach) → (r ≡ Undecided → ⊥) → false ≡ is_undecided r
decided (OfSize n) d = refl
decided (UpTo o) d = refl
decided ToParentEnd d = refl
decided Undecided d = absurd (d refl)

pub returns-in_default : goal.returns-in_default
unfolding undecided
returns-in_default c = rw (item c.args.n c.args.rows.now c.args.k c.requires.1, sym c.row_at.ensures, sym c.reach_of.ensures) (decided c.reach_of.result c.in_default.not-Undecided)
