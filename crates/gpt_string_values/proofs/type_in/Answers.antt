use mathlib.Core.Path.{refl, sym, ◌∙◌}
use Rattle.guid.specs.Types.{expand}
use Rattle.gpt_string_values.proofs.Values.{guid-read, unread}
use Rattle.gpt_string_values.proofs.type_in.Goals as goal

pub returns-in-Ok : goal.returns-in-Ok
returns-in-Ok c = guid-read (expand c.args.v.now) _ _ _ refl (rw c.in-Ok.is at c.read_type.ensures)

pub returns-in-Err : goal.returns-in-Err
returns-in-Err c = sym (unread c.in-Err.field-0 _) ∙ guid-read (expand c.args.v.now) _ _ _ refl (rw c.in-Err.is at c.read_type.ensures)
