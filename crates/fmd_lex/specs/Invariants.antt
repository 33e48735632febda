-- Invariants of the code, for its proofs: no part of what is to be believed.
use Rattle.std.specs.Prelude.{◌≡◌, ℕ, ◌≤◌, ◌<◌}
use Rattle.fmd_lex.specs.Tokens.{word_kind, kind_number}
use Rattle.fmd_lex.specs.declared.Token.{Token}

-- a token lies in a text of n bytes, at or after the place `at`; a word has one byte at least
pub record Within (n at : ℕ) (t : Token) : Type 0 where
  pub after : at ≤ t.start
  pub ordered : t.start ≤ t.end
  pub inside : t.end ≤ n
  pub filled : kind_number t.kind ≡ word_kind → t.start < t.end
