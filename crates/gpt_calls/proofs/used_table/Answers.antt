use borrow.Author.Rules.{rules}
use Rattle.gpt_calls.proofs.Found.{lengths-are}
use Rattle.gpt_calls.proofs.used_table.Goals as goal

pub entries_in-requires : goal.entries_in-requires
entries_in-requires c = ((lengths-are c.args.shape c.args.head.now c.args.tail.now c.requires.0).0, search rules)

pub entries_in-requires-in-Backup : goal.entries_in-requires-in-Backup
entries_in-requires-in-Backup c = ((lengths-are c.args.shape c.args.head.now c.args.tail.now c.requires.0).1, search rules)
