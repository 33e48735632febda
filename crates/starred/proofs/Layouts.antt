-- Samples 7 and 8.
use mathlib.Core.Path.{refl}
use Rattle.octets.specs.Tests.{◌and◌, ◌or◌}
use Rattle.octets.specs.Bytes.{part}
use Rattle.text_words.specs.Classes.{is_blank, is_digit, digit_of}
use Rattle.text_words.specs.Numerals.{up_to, digits_from, some_digits, after_zero, numeral_of}
use Rattle.fmd_lex.specs.Chars.{is_sign, is_word}
use Rattle.fmd_lex.specs.Tokens.{sign_kind, skip_from, word_from, token_here, token_at}
use Rattle.fmd_lex.specs.Numbers.{capped, scaled, number_in}
use Rattle.fmd_lex.specs.Names.{good_name}
use Rattle.fmd_head.specs.Heads.{amount_at, named_at, flags_at, offset_at, size_at, head_at}
use Rattle.fmd_head.specs.Images.{title_at, address_at, length_at, open_at, image_at}
use Rattle.fmd_parse.specs.Layouts.{section_from, list_from, layout_of}
use Rattle.starred.specs.Claims.{Sample7, Sample8}

pub sample7 : Sample7
unfolding layout_of image_at title_at address_at length_at open_at list_from section_from head_at named_at flags_at offset_at size_at amount_at number_in
    scaled capped numeral_of some_digits digits_from up_to digit_of good_name is_digit token_at token_here sign_kind skip_from word_from is_blank is_sign is_word
    part ◌and◌ ◌or◌
sample7 = refl

pub sample8 : Sample8
unfolding layout_of image_at title_at address_at length_at open_at list_from section_from head_at named_at flags_at offset_at size_at amount_at number_in
    scaled capped numeral_of after_zero some_digits digits_from up_to digit_of good_name is_digit token_at token_here sign_kind skip_from word_from is_blank is_sign
    is_word part ◌and◌ ◌or◌
sample8 = (refl, refl)
