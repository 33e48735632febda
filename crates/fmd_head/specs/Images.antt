-- The image of a layout text, up to its opening brace. Readers as in Heads, means of proof.
use Rattle.std.specs.Prelude.{cond, not, List, ℕ, ◌-◌, leb, Some, None, Ok, Err}
use Rattle.octets.specs.Tests.{◌and◌}
use Rattle.fmd_lex.specs.Tokens.{word_kind, token_bytes}
use Rattle.fmd_lex.specs.Names.{good_name}
use Rattle.fmd_lex.specs.declared.Token.{Token}
use Rattle.fmd_head.specs.Heads.{ReadPart, read, refused_at, onward, next, is_kind, amount_at}
use Rattle.fmd_head.specs.declared.TextImage.{TextImage}
use Rattle.fmd_head.specs.declared.Refusal.TheVariants.{OutOfGrammar, BadNumber, BadName}

-- L1: An image: name, optional @address, size (an image length in range, else 52), braces.

-- the name
unfoldable pub title_at : List ℕ → Token → ReadPart TextImage
title_at s t =
    cond (not (is_kind word_kind t)) (refused_at OutOfGrammar t.start)
    (cond (not (good_name (token_bytes s t))) (refused_at BadName t.start)
    (read (record { address = None; size = 0; place = t.start; length = t.end - t.start }) (next s t)))

-- the optional @address
abbrev pub set_address : ℕ → TextImage → TextImage
set_address n i = record { address = Some n; size = i.size; place = i.place; length = i.length }

abbrev pub with_address : TextImage → ReadPart ℕ → ReadPart TextImage
with_address i (Ok r) = read (set_address r.0 i) r.1
with_address i (Err f) = Err f

unfoldable pub address_at : List ℕ → Token → TextImage → ReadPart TextImage
address_at s t i = cond (is_kind 64 t) (with_address i (amount_at s (next s t))) (read i t)

-- the size; Q4: A flash image is 98 to 16,777,216 bytes.
abbrev pub set_length : ℕ → TextImage → TextImage
set_length n i = record { address = i.address; size = n; place = i.place; length = i.length }

abbrev pub with_length : TextImage → Token → ReadPart ℕ → ReadPart TextImage
with_length i t (Ok r) = cond (leb 98 r.0 and leb r.0 16777216) (read (set_length r.0 i) r.1) (refused_at BadNumber t.start)
with_length i t (Err f) = Err f

unfoldable pub length_at : List ℕ → Token → TextImage → ReadPart TextImage
length_at s t i = with_length i t (amount_at s t)

-- the opening brace
unfoldable pub open_at : List ℕ → Token → TextImage → ReadPart TextImage
open_at s t i = cond (is_kind 123 t) (read i (next s t)) (refused_at OutOfGrammar t.start)

unfoldable pub image_at : List ℕ → Token → ReadPart TextImage
image_at s t = onward (title_at s t) (λ i u. onward (address_at s u i) (λ j v. onward (length_at s v j) (λ k w. open_at s w k)))
