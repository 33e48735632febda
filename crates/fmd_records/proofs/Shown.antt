-- Laws of the lines that show records.
use mathlib.Core.Path.{◌≡◌, ap}
use mathlib.Core.List.{List, [], ◌∷◌, ◌++◌, map}
use Prim.Native.Nat.{ℕ, ◌+◌, ◌≤◌}
use native.Mathlib.Omega.{arith}
use lib.ListN.{replicate}
use Rattle.octets.specs.Bytes.{flat}
use Rattle.text_out.specs.Text.{hex_digits, Puts}
use Rattle.text_out.proofs.Digits.{length-hex}
use Rattle.text_out.proofs.Puts.{puts_then}
use Rattle.std.proofs.Common.{Result}
use Rattle.fmd.specs.Calls.{number_of, image_in, list_of, list_text}
use Rattle.fmd.specs.declared.Image.{Image}
use Rattle.fmd.specs.declared.Refusal.{Refusal}
use Rattle.fmd.specs.declared.SectionRecord.{SectionRecord}
use Rattle.fmd_lines.specs.Lines.{numbers_text}
use Rattle.fmd_records.specs.Records.{pattern, hex_bytes, record_line, answer_line, record_lines, records_of}

pub byte_put : (n at r : ℕ) (xs ys : List ℕ) → Puts at (hex_digits 2 n) r xs ys → (r ≤ at + 2) × Puts at (hex_digits 2 n) r xs ys
byte_put n at r xs ys p = (omega (arith, p.0, length-hex 2 n), p)

pub record-put : (s : SectionRecord) (at a b r : ℕ) (xs ys zs us : List ℕ) → (a ≡ at + 23) × Puts at (numbers_text s) a xs ys
    → (b ≤ a + 64) × Puts a (hex_bytes s.name) b ys zs → Puts b (10 ∷ []) r zs us → (r ≤ at + 88) × Puts at (record_line s) r xs us
unfolding record_line
record-put s at a b r xs ys zs us p q t =
    (omega (arith, p.0, q.0, t.0), puts_then _ _ _ _ _ _ _ _ (puts_then _ _ _ _ _ _ _ _ p.1 q.1) t)

-- what is shown of a list of the pattern that was lent
pub records-are : (s : List ℕ) (r : Result Image Refusal) (zs : List SectionRecord) → list_of r zs ≡ list_text s (replicate 128 pattern)
    → answer_line (image_in r).count (number_of r) ++ flat (map record_line zs) ≡ records_of s
unfolding records_of
records-are s r zs e = ap record_lines e
