-- Signs, and the bytes of words.
use Rattle.std.specs.Prelude.{Bool, not, ℕ, eqb}
use Prim.Native.Char.{code}
use Rattle.octets.specs.Ascii.{ascii}
use Rattle.octets.specs.Tests.{◌and◌, any}
use Rattle.text_words.specs.Classes.{is_graphic}

unfoldable pub is_sign : ℕ → Bool
is_sign b = any (eqb b) (ascii "@{}()")

-- L5: A word ends at a blank or one of @ { } ( ) #; other bytes outside 21 to 7E hex end a word too.
-- So a byte of a word is one of 21 to 7E hex that is no sign and no #.
unfoldable pub is_word : ℕ → Bool
is_word b = is_graphic b and not (is_sign b) and not (eqb b (code "#"))
