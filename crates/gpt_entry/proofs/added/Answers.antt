use mathlib.Core.Path.{◌≡◌}
use native.Mathlib.Omega.{arith}
use lib.ListN.{length}
use Rattle.gpt_entry.proofs.Bytes.{six-writes}
use borrow.Author.Rules.{rules}
use Rattle.gpt_entry.proofs.added.Goals as goal

pub copy-requires : goal.copy-requires
copy-requires c = let long : length c.args.p.kind ≡ 16 = search rules in omega arith

pub copy-requires-2 : goal.copy-requires-2
copy-requires-2 c =
    let long : length c.args.p.unique ≡ 16 = search rules in
    omega arith

pub returns : goal.returns
returns c =
    let a = c.args in
    six-writes a.p a.first.0 _ _ _ _ _ _ c.requires.0 c.copy.ensures c.copy-2.ensures
    c.store.ensures c.store-2.ensures c.store-3.ensures
    (rw c.name_bytes.ensures.0 at c.copy-3.ensures)
