use Rattle.std.proofs.Common.{sym, ap, ◌∙◌}
use Rattle.octets.proofs.Puts.{put_all}
use Rattle.guid.specs.Text.{reordered, grouped, text_of}
use Rattle.guid.specs.Hex.{digits_of}
use Rattle.guid.specs.declared.Refusal.TheVariants.{WrongLength}
use Rattle.guid.proofs.Calls.{err_is, ok_or-err, ok_or-ok, length-text, write-guid, write-text, write_done}
use Rattle.guid.proofs.write.Goals as goal

pub returns-in_err-guid : goal.returns-in_err-guid
returns-in_err-guid c =
    let f = c.from_residual.ensures in
    let w = ok_or-err c.as_array.result WrongLength (sym c.ok_or.ensures.value ∙ c.in_err-guid.was) in
    let h = rw w.0 at c.as_array.ensures.cases in
    rw (err_is c.from_residual.result c.in_err-guid.field-0.0 f.0 f.1, w.1) (write-guid c.args.guid.now c.args.text.now h)

pub returns-then-text-ne36 : goal.returns-then-text-ne36
returns-then-text-ne36 c =
    let h = rw (ok_or-ok c.as_array.result WrongLength (sym c.ok_or.ensures.value ∙ c.in_ok-guid.was)) at c.as_array.ensures.cases in
    write-text c.args.guid.now c.args.text.now h.long c.if-text-ne36.true

pub returns : goal.returns
unfolding text_of
returns c =
    let g = c.args.guid.now in
    let t = c.args.text.now in
    let h = rw (ok_or-ok c.as_array.result WrongLength (sym c.ok_or.ensures.value ∙ c.in_ok-guid.was)) at c.as_array.ensures.cases in
    let s = c.grouped.ensures ∙ ap grouped (c.digits_of.ensures ∙ ap digits_of (c.reordered.ensures ∙ ap reordered h.same)) in
    write_done g t _ h.long c.if-text-ne36.false
    (c.copy_from_slice.ensures.after ∙ s ∙ sym (put_all _ t (length-text g h.long ∙ sym c.if-text-ne36.false)))
