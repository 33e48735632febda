-- Laws of a word, and of blanks and comments, over the byte at a place.
use Prim.Native.Nat.{ℕ, suc, ◌+◌, ◌≤◌, ◌<◌}
use Rattle.std.specs.List.{prefix_len, take_while}
use Rattle.std.proofs.lemmas.List.Folds.{length-prefix_len}
use mathlib.Core.Path.{◌≡◌}
use mathlib.Core.List.{List, [], ◌∷◌}
use mathlib.Core.Bool.{Bool, true, false, cond}
use native.Mathlib.Numerals.{add-one}
use native.Mathlib.Omega.{arith}
use lib.ListN.{length, drop, get_or, drop_of_length-le}
use lib.Seq.{drop-cons}
use borrow.Author.Tests.{ne_eqb}
use Rattle.octets.specs.Tests.{◌or◌}
use Rattle.text_words.specs.Classes.{is_blank}
use Rattle.fmd_lex.specs.Chars.{is_word}
use Rattle.fmd_lex.specs.Tokens.{skip_from, word_from}
use Rattle.fmd_lex.specs.Invariants.{Within}
use Rattle.fmd_lex.specs.declared.Token.{Token}

module _ (s : List ℕ) (i : ℕ) where
  pub word_in : i < length s → is_word (get_or s i 0) ≡ true → word_from (drop (i + 1) s) (i + 1) ≡ word_from (drop i s) i
  unfolding word_from
  word_in h e = rw (drop-cons s i 0 h, e, add-one)

  pub word_out : i < length s → is_word (get_or s i 0) ≡ false → i ≡ word_from (drop i s) i
  unfolding word_from
  word_out h e = rw (drop-cons s i 0 h, e)

  pub word-stop : length s ≤ i → i ≡ word_from (drop i s) i
  unfolding word_from
  word-stop h = rw (drop_of_length-le s {i = i} h)

  pub skip-lf : i < length s → get_or s i 0 ≡ 10 → skip_from false (drop (i + 1) s) (i + 1) ≡ skip_from true (drop i s) i
  unfolding skip_from
  skip-lf h e = rw (drop-cons s i 0 h, e, add-one)

  pub skip-comment : i < length s → (get_or s i 0 ≡ 10 → ⊥) → skip_from true (drop (i + 1) s) (i + 1) ≡ skip_from true (drop i s) i
  unfolding skip_from
  skip-comment h e = rw (drop-cons s i 0 h, ne_eqb (get_or s i 0) 10 e, add-one)

  pub skip-hash : i < length s → get_or s i 0 ≡ 35 → skip_from true (drop (i + 1) s) (i + 1) ≡ skip_from false (drop i s) i
  unfolding skip_from is_blank ◌or◌
  skip-hash h e = rw (drop-cons s i 0 h, e, add-one)

  pub skip-blank : i < length s → is_blank (get_or s i 0) ≡ true → skip_from false (drop (i + 1) s) (i + 1) ≡ skip_from false (drop i s) i
  unfolding skip_from
  skip-blank h e = rw (drop-cons s i 0 h, e, add-one)

  pub skip_stop : i < length s → is_blank (get_or s i 0) ≡ false → (get_or s i 0 ≡ 35 → ⊥) → i ≡ skip_from false (drop i s) i
  unfolding skip_from
  skip_stop h e f = rw (drop-cons s i 0 h, e, ne_eqb (get_or s i 0) 35 f)

  pub skip-end : (c : Bool) → length s ≤ i → i ≡ skip_from c (drop i s) i
  unfolding skip_from
  skip-end true h = rw (drop_of_length-le s {i = i} h)
  skip-end false h = rw (drop_of_length-le s {i = i} h)

-- what lies at or after a place lies at or after an earlier one
pub earlier : {n a b : ℕ} {t : Token} → Within n a t → b ≤ a → Within n b t
earlier w h = record { after = omega arith; ordered = w.ordered; inside = w.inside; filled = w.filled }
