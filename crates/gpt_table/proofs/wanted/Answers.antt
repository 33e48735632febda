use Rattle.std.proofs.Common.{not, ap, sym, ◌∙◌}
use Rattle.gpt_table.proofs.Entries.{wanted-here, wanted-left}
use Rattle.gpt_table.proofs.wanted.Goals as goal

pub returns-then-ne : goal.returns-then-ne
returns-then-ne c = (ap not c.is_unused.ensures ∙ sym (wanted-here c.args.but c.args.i _ (sym c.ne.ensures ∙ c.if-ne.true)), (c.told-e, c.fits-e))

pub returns-else-ne : goal.returns-else-ne
returns-else-ne c = (c.if-ne.false ∙ sym (wanted-left c.args.but c.args.i c.args.e.now (sym c.ne.ensures ∙ c.if-ne.false)), (c.told-e, c.fits-e))
