use mathlib.Core.Path.{◌≡◌}
use lib.ListN.{length}
use Rattle.fmap_write.proofs.Fields.{header-written}
use borrow.Author.Rules.{rules}
use Rattle.fmap_write.proofs.put_header.Goals as goal

pub returns : goal.returns
returns c =
    let long : length c.args.name ≡ 32 = search rules in
    header-written c.args.size c.args.name c.args.base c.args.minor long c.args.at _ _ _ _ _ _ _
    c.copy.ensures c.store.ensures c.store-2.ensures c.copy-2.ensures c.store-3.ensures
