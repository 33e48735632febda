-- Laws of names.
use mathlib.Core.Path.{◌≡◌}
use mathlib.Core.Bool.{true}
use mathlib.Core.List.{List}
use Prim.Native.Nat.{ℕ, ◌-◌, ◌≤◌}
use native.Mathlib.Omega.{arith}
use lib.ListN.{length}
use Rattle.octets.proofs.Bools.{and_l}
use Rattle.octets.proofs.Parts.{length_part}
use Rattle.text_words.proofs.Names.{sized_range}
use Rattle.fmd_lex.specs.Names.{good_name}
use Rattle.fmd_lex.specs.Tokens.{token_bytes}
use Rattle.fmd_lex.specs.declared.Token.{Token}

-- a token that is a name has 1 to 31 bytes
pub name-size : (s : List ℕ) (t : Token) → t.start ≤ t.end → t.end ≤ length s → good_name (token_bytes s t) ≡ true
    → (1 ≤ t.end - t.start) × (t.end - t.start ≤ 31)
unfolding good_name
name-size s t o i e =
    let n = length_part s t.start (t.end - t.start) (omega arith) in
    let z = sized_range 31 (token_bytes s t) (and_l _ _ e) in
    (omega arith, omega arith)
