use Rattle.std.proofs.Common.{rules}
use Rattle.guid.proofs.Table.{short_found}
use Rattle.guid.proofs.short_type.Goals as goal

pub returns-in_err-short : goal.returns-in_err-short
returns-in_err-short c =
    let t = c.short_types in
    rw (← short_found c.args.text.now t.result t.ensures, ← c.named.ensures, c.in_err-short.was) (search rules)

pub returns : goal.returns
returns c =
    let t = c.short_types in
    rw (← short_found c.args.text.now t.result t.ensures, ← c.named.ensures, c.in_ok-short.was) (search rules)
