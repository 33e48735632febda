use mathlib.Core.Path.{sym, ap₂, ◌∙◌}
use Prim.Native.Nat.{ℕ}
use Rattle.gpt_model.specs.Disk.{Shape}
use Rattle.gpt_string_model.specs.Calls.{build_string}
use Rattle.gpt_string.proofs.Written.{handed, refused-lent}
use Rattle.gpt_string.proofs.build_on.Goals as goal

pub write-requires : goal.write-requires
write-requires c =
    let is = c.in_ok-disk.ensures.disk in
    rw (is.0, is.1) (sym c.in_ok-disk.ensures.refused)

pub returns-in_err-disk : goal.returns-in_err-disk
returns-in_err-disk c =
    let a = c.args in
    let w = c.from_residual.ensures in
    handed _ _ w.0 w.1 _ _ ∙ refused-lent a.shape a.n a.alignment a.text.now a.head.now a.tail.now _ (sym c.in_err-disk.ensures.refused)

pub returns : goal.returns
returns c =
    let a = c.args in
    let is = c.in_ok-disk.ensures.disk in
    c.write.ensures ∙ ap₂ (λ (g : Shape) (n : ℕ). build_string g n a.alignment a.text.now a.head.now a.tail.now) is.0 is.1
