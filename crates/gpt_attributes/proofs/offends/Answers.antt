use mathlib.Core.Path.{sym}
use Rattle.gpt_model.proofs.Attributes.{present-is, earlier-is}
use Rattle.gpt_attributes.proofs.offends.Goals as goal

pub returns-in-Present : goal.returns-in-Present
returns-in-Present c = rw c.in-Present.is (sym (present-is c.args.attributes))

pub returns-in-Earlier : goal.returns-in-Earlier
returns-in-Earlier c = rw c.in-Earlier.is (sym (earlier-is c.args.attributes))
