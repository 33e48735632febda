use lib.ListN.{length}
use borrow.Author.Tests.{le-leb, lt-leb}
use Rattle.octets.specs.Tests.{◌and◌}
use Rattle.text_words.proofs.is_sized.Goals as goal

pub returns-then-w-ge1 : goal.returns-then-w-ge1
unfolding ◌and◌
returns-then-w-ge1 c = rw (le-leb 1 (length c.args.w.now) c.if-w-ge1.true)

pub returns-else-w-ge1 : goal.returns-else-w-ge1
unfolding ◌and◌
returns-else-w-ge1 c = rw (lt-leb 1 (length c.args.w.now) c.if-w-ge1.false)
