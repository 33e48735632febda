use mathlib.Core.Path.{sym}
use Rattle.octets.proofs.Numbers.{field-add}
use Rattle.gpt_table.proofs.rules.U128FromEntry.from_entry.Goals as goal

pub returns : goal.returns
returns c = rw (c.from.ensures, c.from-2.ensures, c.load-low.ensures, c.load-high.ensures) (sym (field-add 8 8 16 c.args.e.now))
