use mathlib.Core.Path.{ap, ◌∙◌}
use Rattle.gpt_model.specs.declared.Rule.{Rule}
use Rattle.gpt_model.specs.Calls.{check}
use Rattle.gpt_model.specs.Sizes.{step_by}
use Rattle.c_disk.proofs.Effects.{gpt-tells}
use Rattle.c_disk.proofs.Slots.{no_slot_0}
use Rattle.c_disk.proofs.usi_gpt_check.Goals as goal

pub offending-requires : goal.offending-requires
offending-requires c = no_slot_0 _ _ _ _ _ _ c.check.ensures

pub returns : goal.returns
returns c =
    let a = c.args in
    gpt-tells _ _ _ _ _ _ _
    (c.check.ensures ∙ ap (λ (rule : Rule). step_by a.block a.n a.head.now a.tail.now (check rule)) c.rule_of.ensures)
    (c.code.ensures ∙ c.offending.ensures.code) c.offending.ensures.values
