use Rattle.std.proofs.Common.{sym, ◌∙◌}
use Rattle.octets.proofs.Puts.{put_all}
use Rattle.guid.specs.declared.Refusal.TheVariants.{NotGuidText}
use Rattle.guid.proofs.Hex.{found, missed}
use Rattle.guid.proofs.Calls.{err_is, ok_or-err, ok_or-ok, length-stored, read-text, read_done}
use Rattle.guid.proofs.put.Goals as goal

pub returns-in_err-stored : goal.returns-in_err-stored
returns-in_err-stored c =
    λ text e.
    let f = c.from_residual.ensures in
    let w = ok_or-err c.args.stored NotGuidText (sym c.ok_or.ensures.value ∙ c.in_err-stored.was) in
    rw (err_is c.from_residual.result c.in_err-stored.field-0.0 f.0 f.1, w.1)
    (read-text text c.args.guid.now c.requires (missed _ _ e w.0))

pub returns : goal.returns
returns c =
    λ text e.
    let g = c.args.guid.now in
    let f = found _ _ e (ok_or-ok c.args.stored NotGuidText (sym c.ok_or.ensures.value ∙ c.in_ok-stored.was)) in
    read_done text g _ c.requires f.0
    (c.copy_from_slice.ensures.after ∙ sym f.1 ∙ sym (put_all _ g (length-stored text f.0 ∙ sym c.requires)))
