-- Names and flags of a layout text.
use Rattle.std.specs.Prelude.{Bool, cond, not, List, ℕ, get_or, Option, Some, None}
use Rattle.octets.specs.Ascii.{ascii}
use Rattle.octets.specs.Tests.{◌and◌}
use Rattle.octets.specs.Bytes.{same}
use Rattle.text_words.specs.Classes.{is_digit}
use Rattle.text_words.specs.Names.{is_sized}
use Rattle.fmd_lex.specs.declared.Flag.{Flag}
use Rattle.fmd_lex.specs.declared.Flag.TheVariants.{Cbfs, Preserve}

-- L6: A name has 1 to 31 bytes and does not begin with a digit (else 53).
unfoldable pub good_name : List ℕ → Bool
good_name w = is_sized 31 w and not (is_digit (get_or w 0 0))

-- L2: flags in parentheses (CBFS, PRESERVE, ..); a flag word is compared whole and exactly
abbrev pub cbfs : List ℕ
cbfs = ascii "CBFS"

abbrev pub preserve : List ℕ
preserve = ascii "PRESERVE"

unfoldable pub flag_of : List ℕ → Option Flag
flag_of w = cond (same w cbfs) (Some Cbfs) (cond (same w preserve) (Some Preserve) None)
