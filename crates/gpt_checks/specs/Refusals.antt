-- W15: When an answer is an enum, a definition states this paper's number and values for each enum case. Definitions only.
use Rattle.std.specs.Prelude.{ℕ}
use Rattle.gpt_checks.specs.declared.Refusal.{Refusal}
use Rattle.gpt_checks.specs.declared.Refusal.TheVariants.{BlockSize, WrongLength, BlockCount, NoDiskGuid, NeitherGood, NotTheSame, NoSuchSlot}
use Rattle.gpt_checks.specs.declared.Refusal.TheVariants.{SlotUnused, NoSize, Alignment, NoType, NoUniqueGuid, BadName, NameTaken}
use Rattle.gpt_checks.specs.declared.Refusal.TheVariants.{AttributeBits, NoUnusedSlot, NoRoom}

-- l7 (6 for another block size), then R4 to R13, in the order there, with e5 (27 for any other alignment, after 20), a4 (26, after 23 and before 24)
-- and k6 (28 in adding, after 26 and before 24)
abbrev pub number_of : Refusal → ℕ
number_of BlockSize = 6
number_of WrongLength = 1
number_of BlockCount = 2
number_of NoDiskGuid = 3
number_of NeitherGood = 10
number_of NotTheSame = 11
number_of NoSuchSlot = 12
number_of SlotUnused = 13
number_of NoSize = 20
number_of Alignment = 27
number_of NoType = 21
number_of NoUniqueGuid = 22
number_of BadName = 23
number_of NameTaken = 26
number_of AttributeBits = 28
number_of NoUnusedSlot = 24
number_of NoRoom = 25
