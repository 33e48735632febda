use mathlib.Core.Path.{◌∙◌}
use Rattle.c_disk.proofs.Effects.{gpt-tells}
use Rattle.c_disk.proofs.Lengths.{kind-wrong, unique-wrong, name-wrong, add-on}
use Rattle.c_disk.proofs.usi_gpt_add.Goals as goal

pub returns-in_default : goal.returns-in_default
returns-in_default c = kind-wrong _ _ _ _ _ c.wrong_length.ensures _ _ c.in_default.ensures.1

pub returns-in_default-try_into : goal.returns-in_default-try_into
returns-in_default-try_into c = unique-wrong _ _ _ _ _ c.wrong_length-in_default-try_into.ensures _ _ c.in_default-try_into.ensures.1

pub returns-in_default-try_into-2 : goal.returns-in_default-try_into-2
returns-in_default-try_into-2 c = name-wrong _ _ _ _ _ c.wrong_length-in_default-try_into-2.ensures _ _ c.in_default-try_into-2.ensures.1

pub returns : goal.returns
returns c =
    gpt-tells _ _ _ _ _ _ _
    (add-on _ _ _ _ _ _ (rw (c.in-Ok.ensures.1.same, c.in-Ok-try_into.ensures.1.same, c.rule_of.ensures, c.in-Ok-try_into-2.ensures.1.same)) c.add.ensures)
    (c.code.ensures ∙ c.added.ensures.code) c.added.ensures.values
