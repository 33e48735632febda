use Rattle.std.proofs.Common.{sym, ap, ◌∙◌, Some}
use Rattle.octets.specs.Tests.{all}
use Rattle.guid.specs.Hex.{is_hex_digit, bytes_of}
use Rattle.guid.specs.Text.{digits_in, dashes_in, reordered, stored_of}
use Rattle.guid.proofs.Hex.{found, missed}
use Rattle.guid.proofs.Calls.{text-short, text-other, no_dashes, all_dashes, text-digits}
use Rattle.guid.proofs.stored_of.Goals as goal

pub returns-in_err-text : goal.returns-in_err-text
returns-in_err-text c =
    let h = rw c.in_err-text.was at c.as_array.ensures.cases in
    rw (← text-short c.args.text.now h) c.from_residual.ensures

pub returns-then-ne : goal.returns-then-ne
unfolding dashes_in
returns-then-ne c =
    let w = rw c.in_ok-text.was at c.as_array.ensures.cases in
    rw (← text-other c.args.text.now w.long (no_dashes c.args.text.now _ w.same (sym c.ne.ensures ∙ c.if-ne.true)))

pub returns-in_err-bytes : goal.returns-in_err-bytes
unfolding dashes_in
returns-in_err-bytes c =
    let t = c.args.text.now in
    let w = rw c.in_ok-text.was at c.as_array.ensures.cases in
    let d = text-digits t w.long (all_dashes t _ w.same (sym c.ne.ensures ∙ c.if-ne.false)) in
    let n = missed _ _ c.bytes_of.ensures c.in_err-bytes.was in
    rw (sym d ∙ ap (all is_hex_digit) (sym (c.digits_in.ensures ∙ ap digits_in w.same)) ∙ n) c.from_residual-in_err-bytes.ensures

pub returns : goal.returns
unfolding dashes_in stored_of
returns c =
    let t = c.args.text.now in
    let w = rw c.in_ok-text.was at c.as_array.ensures.cases in
    let d = text-digits t w.long (all_dashes t _ w.same (sym c.ne.ensures ∙ c.if-ne.false)) in
    let f = found _ _ c.bytes_of.ensures c.in_ok-bytes.was in
    let e = c.digits_in.ensures ∙ ap digits_in w.same in
    rw (sym d ∙ ap (all is_hex_digit) (sym e) ∙ f.0)
    (ap Some (c.reordered.ensures ∙ ap reordered (sym f.1 ∙ ap bytes_of e)))
