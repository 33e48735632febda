use mathlib.Core.Path.{refl}
use borrow.Author.Rules.{rules}
use lib.ListN.{replicate}
use Rattle.gpt_places.specs.Sides.{side_of}
use Rattle.gpt_places.proofs.Headers.{header-written}
use Rattle.gpt_places.proofs.header.of.Goals as goal

pub returns : goal.returns
returns c = (
  header-written c.args.disk.shape c.args.disk.n (side_of c.args.side) c.args.guid.now (replicate 92 0) _ _ _ _ c.args.crc _ refl c.told-guid
      c.start.ensures c.blocks-2.ensures c.table.ensures c.crc32-c.ensures c.store.ensures,
  search rules,
)
