-- The number of each refusal of a layout text.
use Rattle.std.specs.Prelude.{ℕ}
use Rattle.fmd_head.specs.declared.Refusal.{Refusal}
use Rattle.fmd_head.specs.declared.Refusal.TheVariants.{TooLong, OutOfGrammar, BadNumber, BadName, NameTwice}
use Rattle.fmd_head.specs.declared.Refusal.TheVariants.{TooMany, BadFlag, Undecided, Unfit, NoMapSection}

abbrev pub number_of : Refusal → ℕ
-- R17: 50: layout text too long
number_of TooLong = 50
-- R18: 51 / 52 / 53: text out of grammar / bad number / bad name
number_of OutOfGrammar = 51
number_of BadNumber = 52
number_of BadName = 53
-- R19: 54 / 55: section name used twice / too many sections or levels
number_of NameTwice = 54
number_of TooMany = 55
-- R20: 56: unknown or repeated flag, or CBFS on a section with children
number_of BadFlag = 56
-- R21: 57 / 58: size undecided / section does not fit
number_of Undecided = 57
number_of Unfit = 58
-- R22: 59: no section FMAP, or it has children or is too small
number_of NoMapSection = 59
