use Rattle.std.proofs.Common.{ap, ◌∙◌}
use Rattle.std.proofs.lemmas.Result.{err_from_is_err_and}
use Rattle.fmap.specs.Carry.{carry_to, carry_from, carry_images}
use Rattle.fmap.proofs.carry.Goals as goal

pub returns-in_err-at : goal.returns-in_err-at
unfolding carry_images
returns-in_err-at c =
    let p = err_from_is_err_and c.from_residual.result c.from_residual.ensures.1 in
    rw (p.1, p.2) (ap (carry_from c.args.old.now c.args.new.now) c.in_err-at.ensures)

pub returns-in_err-bt : goal.returns-in_err-bt
unfolding carry_images
returns-in_err-bt c =
    let p = err_from_is_err_and c.from_residual-in_err-bt.result c.from_residual-in_err-bt.ensures.1 in
    rw (p.1, p.2) (ap (carry_to c.args.old.now c.in_ok-at.at c.args.new.now) c.in_err-bt.ensures
    ∙ ap (carry_from c.args.old.now c.args.new.now) c.in_ok-at.ensures)

pub returns : goal.returns
unfolding carry_images
returns c =
    c.carry_at.ensures
    ∙ ap (carry_to c.args.old.now c.in_ok-at.at c.args.new.now) c.in_ok-bt.ensures
    ∙ ap (carry_from c.args.old.now c.args.new.now) c.in_ok-at.ensures
