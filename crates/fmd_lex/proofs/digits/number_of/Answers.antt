use Rattle.text_words.proofs.Numerals.{value-in}
use Rattle.fmd_lex.proofs.digits.number_of.Goals as goal

pub slice_bounds-scaled-count : goal.slice_bounds-scaled-count
slice_bounds-scaled-count c = (value-in 4294967295 c.args.w.now c.numeral_of.ensures c.in-Ok.is).1

pub slice_bounds-scaled-start : goal.slice_bounds-scaled-start
slice_bounds-scaled-start c = (value-in 4294967295 c.args.w.now c.numeral_of.ensures c.in-Ok.is).1

pub scaled-requires : goal.scaled-requires
scaled-requires c = (value-in 4294967295 c.args.w.now c.numeral_of.ensures c.in-Ok.is).0
