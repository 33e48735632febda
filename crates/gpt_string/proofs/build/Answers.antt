use mathlib.Core.Path.{sym, ap, ◌∙◌}
use Rattle.gpt_model.specs.Calls.{outcome, refused}
use Rattle.gpt_places.proofs.Shapes.{shape-legal}
use Rattle.gpt_checks.specs.declared.Refusal.{Refusal}
use Rattle.gpt_checks.specs.Refusals.{number_of}
use Rattle.gpt_string_model.proofs.After.{string-by, string-other}
use Rattle.gpt_string.proofs.Written.{handed, or-some, or-none}
use Rattle.gpt_string.proofs.build.Goals as goal

pub build_on-requires : goal.build_on-requires
build_on-requires c = shape-legal _ _ (sym c.shape_of.ensures ∙ or-some _ _ _ c.ok_or.ensures.value _ c.in_ok-shape.was)

pub returns : goal.returns
returns c =
    let a = c.args in
    let size = sym c.shape_of.ensures ∙ or-some _ _ _ c.ok_or.ensures.value _ c.in_ok-shape.was in
    c.build_on.ensures ∙ sym (string-by a.block a.n a.alignment a.text.now a.head.now a.tail.now _ size)

pub returns-in_err-shape : goal.returns-in_err-shape
returns-in_err-shape c =
    let a = c.args in
    let w = c.from_residual.ensures in
    let o = or-none _ _ _ c.ok_or.ensures.value _ c.in_err-shape.was in
    handed _ _ w.0 w.1 _ _
    ∙ ap (λ (r : Refusal). outcome (refused (number_of r)) a.head.now a.tail.now) o.1
    ∙ sym (string-other a.block a.n a.alignment a.text.now a.head.now a.tail.now (sym c.shape_of.ensures ∙ o.0))
