use borrow.Author.Rules.{rules}
use Rattle.octets.specs.Tests.{◌and◌, ◌or◌}
use Rattle.fmd_lex.specs.Chars.{is_sign, is_word}
use Rattle.fmd_lex.proofs.is_word.Goals as goal

pub returns-in-35 : goal.returns-in-35
unfolding is_word is_sign ◌and◌ ◌or◌
returns-in-35 c = search rules

pub returns-in-64 : goal.returns-in-64
unfolding is_word is_sign ◌and◌ ◌or◌
returns-in-64 c = search rules

pub returns-in-123 : goal.returns-in-123
unfolding is_word is_sign ◌and◌ ◌or◌
returns-in-123 c = search rules

pub returns-in-125 : goal.returns-in-125
unfolding is_word is_sign ◌and◌ ◌or◌
returns-in-125 c = search rules

pub returns-in-40 : goal.returns-in-40
unfolding is_word is_sign ◌and◌ ◌or◌
returns-in-40 c = search rules

pub returns-in-41 : goal.returns-in-41
unfolding is_word is_sign ◌and◌ ◌or◌
returns-in-41 c = search rules

pub returns-in_default : goal.returns-in_default
unfolding is_word is_sign ◌and◌ ◌or◌
returns-in_default c = search rules
