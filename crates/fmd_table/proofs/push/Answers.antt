use Rattle.fmd_table.proofs.Links.{linkable, push-linked}
use Rattle.fmd_table.proofs.push.Goals as goal

pub link-requires : goal.link-requires
link-requires c = let l = linkable _ c.args.h _ c.requires.0 c.requires.1 c.requires.2 c.requires.3 in (c.requires.0, c.requires.1, l.0, l.1)

pub returns : goal.returns
returns c = rw c.link.ensures (push-linked _ _ _ c.requires.0 c.requires.1 c.requires.2 c.requires.3)
