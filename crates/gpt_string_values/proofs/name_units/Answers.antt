use mathlib.Core.Path.{◌∙◌}
use Rattle.gpt_string_values.proofs.Values.{named_none, named-on, named-all}
use Rattle.gpt_string_values.proofs.name_units.Goals as goal

pub loop-i-init : goal.loop-i-init
loop-i-init c = named_none c.args.v.now

pub loop-i-preserved : goal.loop-i-preserved
loop-i-preserved c = let l = c.loop-i in rw (l.invariant, c.from.ensures) (named-on c.args.v.now l.i c.loop-i-test.true)

pub returns : goal.returns
returns c = let l = c.loop-i in l.invariant ∙ named-all c.args.v.now l.i c.requires c.loop-i-test.false
