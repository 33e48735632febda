use Rattle.fmd_parse.proofs.RowLoops.{item, name-inside}
use mathlib.Core.Path.{sym}
use Rattle.fmd_parse.proofs.rows.key_at.Goals as goal

pub name_of-requires : goal.name_of-requires
name_of-requires c = name-inside _ _ c.args.text.now c.requires.1 _ c.row_at.ensures c.requires.2

pub returns : goal.returns
returns c = (
  rw (item c.args.n c.args.rows.now c.args.k c.requires.2, sym c.row_at.ensures, sym c.name_of.ensures) c.key_of.ensures.0,
  c.key_of.ensures.1,
)
