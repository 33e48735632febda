use borrow.Author.Rules.{rules}
use mathlib.Core.Path.{sym, ◌∙◌}
use Rattle.octets.specs.Tests.{◌and◌}
use Rattle.text_words.proofs.Names.{sized_range}
use Rattle.fmd_lex.specs.Names.{good_name}
use Rattle.fmd_lex.proofs.is_name.Goals as goal

pub bounds-w-0 : goal.bounds-w-0
bounds-w-0 c =
    let z = sized_range 31 c.args.w.now (sym c.is_sized.ensures ∙ c.if-is_sized.true) in
    search rules

pub returns-then-is_sized : goal.returns-then-is_sized
unfolding good_name ◌and◌
returns-then-is_sized c = search rules

pub returns-else-is_sized : goal.returns-else-is_sized
unfolding good_name ◌and◌
returns-else-is_sized c = search rules
