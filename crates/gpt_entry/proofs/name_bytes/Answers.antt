use native.Mathlib.Omega.{arith}
use Rattle.gpt_entry.proofs.Bytes.{named_none, named-on, named-all}
use Rattle.gpt_entry.proofs.name_bytes.Goals as goal

pub loop-i-init : goal.loop-i-init
loop-i-init c = named_none c.told-name

pub loop-i-preserved : goal.loop-i-preserved
loop-i-preserved c = named-on c.told-name (omega arith) c.store.ensures c.loop-i.invariant

pub returns : goal.returns
returns c = named-all c.told-name (omega arith) c.loop-i.invariant
