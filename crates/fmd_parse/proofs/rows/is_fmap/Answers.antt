use Rattle.fmd_parse.proofs.RowLoops.{item, name-inside}
use Rattle.fmd_parse.specs.Rows.{is_fmap}
use mathlib.Core.Path.{sym}
use Rattle.fmd_parse.proofs.rows.is_fmap.Goals as goal

pub name_of-requires : goal.name_of-requires
name_of-requires c = name-inside _ _ c.args.text.now c.requires.1 _ c.row_at.ensures c.requires.2

pub returns : goal.returns
unfolding is_fmap
returns c = rw (item c.args.n c.args.rows.now c.args.k c.requires.2, sym c.row_at.ensures, sym c.name_of.ensures) c.same.ensures
