-- Laws of lines: what functions that put text one after the other leave.
use mathlib.Core.Path.{◌≡◌, ap}
use mathlib.Core.List.{List, [], ◌∷◌, map}
use Prim.Native.Nat.{ℕ, ◌+◌, ◌*◌, ◌≤◌}
use native.Mathlib.Omega.{arith}
use lib.ListN.{length, take}
use lib.Seq.{length-take-le, take_all}
use Rattle.octets.specs.Ascii.{ascii}
use Rattle.octets.specs.Bytes.{flat}
use Rattle.text_out.specs.Text.{hex_digits, decimal_digits, Puts}
use Rattle.text_out.proofs.Digits.{length-hex, length-decimal}
use Rattle.text_out.proofs.Puts.{puts_then, puts-as, Each, each_all}
use Rattle.fmap_rules.specs.Map.{name_length}
use Rattle.fmd.specs.declared.Image.{Image}
use Rattle.fmd.specs.declared.SectionRecord.{SectionRecord}
use Rattle.fmd_lines.specs.Lines.{hex_field, name_text, numbers_text, section_line, image_line, numbered_line}

pub hex-field-put : (width n at a r : ℕ) (xs ys zs : List ℕ) → Puts at (hex_digits width n) a xs ys → Puts a (ascii " ") r ys zs
    → (r ≡ at + width + 1) × Puts at (hex_field width n) r xs zs
unfolding hex_field
hex-field-put width n at a r xs ys zs p q = (omega (arith, p.0, q.0, length-hex width n), puts_then _ _ _ _ _ _ _ _ p q)

pub numbers-put : (s : SectionRecord) (at a b r : ℕ) (xs ys zs us : List ℕ) → (a ≡ at + 8 + 1) × Puts at (hex_field 8 s.position.0) a xs ys
    → (b ≡ a + 8 + 1) × Puts a (hex_field 8 s.size) b ys zs → (r ≡ b + 4 + 1) × Puts b (hex_field 4 s.flags) r zs us
    → (r ≡ at + 23) × Puts at (numbers_text s) r xs us
unfolding numbers_text
numbers-put s at a b r xs ys zs us p q t =
    (omega (arith, p.0, q.0, t.0), puts_then _ _ _ _ _ _ _ _ (puts_then _ _ _ _ _ _ _ _ p.1 q.1) t.1)

pub name-put : (stored : List ℕ) (k at r : ℕ) (xs ys : List ℕ) → length stored ≡ 32 → (k ≡ name_length stored) × (k ≤ length stored)
    → Puts at (take k stored) r xs ys → (r ≤ at + 32) × Puts at (name_text stored) r xs ys
unfolding name_text
name-put stored k at r xs ys l h p =
    let m = length-take-le k stored h.1 in
    (omega (arith, p.0, h.1), puts-as _ _ _ _ _ _ (ap (λ (i : ℕ). take i stored) h.0) p)

pub section-put : (s : SectionRecord) (at a b r : ℕ) (xs ys zs us : List ℕ) → (a ≡ at + 23) × Puts at (numbers_text s) a xs ys
    → (b ≤ a + 32) × Puts a (name_text s.name) b ys zs → Puts b (10 ∷ []) r zs us → (r ≤ at + 56) × Puts at (section_line s) r xs us
unfolding section_line
section-put s at a b r xs ys zs us p q t =
    (omega (arith, p.0, q.0, t.0), puts_then _ _ _ _ _ _ _ _ (puts_then _ _ _ _ _ _ _ _ p.1 q.1) t)

pub image-put : (i : Image) (at a b c d r : ℕ) (xs ys zs us vs ws : List ℕ) → (a ≤ at + 32) × Puts at (name_text i.name) a xs ys
    → Puts a (ascii " ") b ys zs → (c ≡ b + 8 + 1) × Puts b (hex_field 8 i.size) c zs us → Puts c (hex_digits 16 i.address) d us vs
    → Puts d (10 ∷ []) r vs ws → (r ≤ at + 59) × Puts at (image_line i) r xs ws
unfolding image_line
image-put i at a b c d r xs ys zs us vs ws p q t u v = (
  omega (arith, p.0, q.0, t.0, u.0, v.0, length-hex 16 i.address),
  puts_then _ _ _ _ _ _ _ _ (puts_then _ _ _ _ _ _ _ _ (puts_then _ _ _ _ _ _ _ _ (puts_then _ _ _ _ _ _ _ _ p.1 q) t.1) u) v,
)

pub numbered-put : (word : List ℕ) (n at a b c r : ℕ) (xs ys zs us vs : List ℕ) → Puts at word a xs ys → Puts a (ascii " ") b ys zs
    → Puts b (decimal_digits n) c zs us → Puts c (10 ∷ []) r us vs
    → (r ≤ at + length word + 5) × Puts at (numbered_line word n) r xs vs
unfolding numbered_line
numbered-put word n at a b c r xs ys zs us vs p q t u = (
  omega (arith, p.0, q.0, t.0, u.0, length-decimal n),
  puts_then _ _ _ _ _ _ _ _ (puts_then _ _ _ _ _ _ _ _ (puts_then _ _ _ _ _ _ _ _ p q) t) u,
)

-- a text for each element of a list
pub each-whole : {A : Type 0} (f : A → List ℕ) (w : ℕ) {items : List A} {at : ℕ} {old new : List ℕ} {end i : ℕ} → length items ≤ i → i ≤ length items
    → Each f w items at old new end i → (end ≤ at + w * length items) × Puts at (flat (map f items)) end old new
each-whole f w {items} g h q =
    let p = each_all f w (length items) h g q in
    (p.0, puts-as _ _ _ _ _ _ (ap (λ us. flat (map f us)) (take_all (length items) items (omega arith))) p.1)
