use mathlib.Core.Path.{◌≡◌}
use native.Mathlib.Omega.{arith}
use lib.ListN.{length}
use Rattle.fmap_rules.proofs.Written.{length-area}
use Rattle.fmap_write.proofs.Fields.{area-written}
use borrow.Author.Rules.{rules}
use Rattle.fmap_write.proofs.put_area.Goals as goal

pub copy-requires : goal.copy-requires
copy-requires c =
    let long : length c.args.a.name ≡ 32 = search rules in
    omega arith

pub returns : goal.returns
returns c =
    let long : length c.args.a.name ≡ 32 = search rules in (
      area-written c.args.a c.args.at _ _ _ _ _ long c.store.ensures c.store-2.ensures c.copy.ensures c.store-3.ensures,
      length-area c.args.a long,
    )
