-- Laws of the listing: what a lent section list says of the text.
use mathlib.Core.Path.{◌≡◌, refl, sym, ap, ap₂, ◌∙◌}
use mathlib.Core.List.{List, ◌++◌, map}
use Prim.Native.Nat.{ℕ, ◌≤◌}
use native.Mathlib.Omega.{arith}
use lib.ListN.{length, take, drop, length-map}
use lib.Seq.{take_at}
use Rattle.octets.specs.Ascii.{ascii}
use Rattle.octets.specs.Bytes.{flat}
use Rattle.std.proofs.Common.{Result, Ok, Err}
use Rattle.fmd_check.specs.Check.{Checked, fault, good, check_text}
use Rattle.fmd_check.specs.Claims.{CheckedFacts}
use Rattle.fmd_check.proofs.Facts.{check-facts}
use Rattle.fmd_check.proofs.Shape.{length-areas}
use Rattle.fmd.specs.Calls.{Listed, refusal_number, image_of, said_by, layout_in, list_record, list_by, layout_for, list_text, image_in, list_of}
use Rattle.fmd.specs.declared.Image.{Image}
use Rattle.fmd.specs.declared.Refusal.{Refusal}
use Rattle.fmd.specs.declared.SectionRecord.{SectionRecord}
use Rattle.fmd_lines.specs.Lines.{section_line, image_line, numbered_line, lines_of, listing_of}

-- ---- an image has as many sections as it says, and at most 128

count-by : (s : List ℕ) (j : Checked) → CheckedFacts s j → ((said_by s j).image.count ≡ length (said_by s j).areas) × ((said_by s j).image.count ≤ 128)
unfolding image_of
count-by s (fault n p) f = (refl, omega arith)
count-by s (good i l ps m) a = (sym (length-areas s l ps ∙ a.fitted.count), a.tree.room)

count-is : (s : List ℕ) → ((layout_in s).image.count ≡ length (layout_in s).areas) × ((layout_in s).image.count ≤ 128)
unfolding layout_in
count-is s = count-by s (check_text s) (check-facts s)

-- ---- a list of 128 sections that was lent

module _ (s : List ℕ) (ys zs : List SectionRecord) (n : length ys ≡ 128) where
  lent_is : (r : Result Image Refusal) → list_of r zs ≡ list_text s ys → list_of r zs ≡ list_by (layout_in s) ys
  unfolding list_text layout_for
  lent_is r e = e ∙ ap (λ (k : ℕ). list_by (layout_for s k) ys) n

  pub count_small : (r : Result Image Refusal) → list_of r zs ≡ list_text s ys → (image_in r).count ≤ 128
  count_small r e = omega (arith, ap (λ (x : Listed). x.image.count) (lent_is r e), (count-is s).1)

  pub refused-lines : (r : Refusal) → list_of (Err r) zs ≡ list_text s ys → numbered_line (ascii "refused") (refusal_number r) ≡ listing_of s
  unfolding listing_of
  refused-lines r e = ap (λ (x : Listed). lines_of (layout_in s) x.answer) (lent_is (Err r) e)

  module _ (i : Image) (e : list_of (Ok i) zs ≡ list_text s ys) where
    lent : list_of (Ok i) zs ≡ list_by (layout_in s) ys
    lent = lent_is (Ok i) e

    sections-are : take i.count zs ≡ map list_record (layout_in s).areas
    sections-are =
        let xs = map list_record (layout_in s).areas in
        rw (ap (λ (x : Listed). x.image.count) lent, ap (λ (x : Listed). x.sections) lent)
        (take_at xs (drop (length xs) ys) (layout_in s).image.count (length-map (layout_in s).areas list_record ∙ sym (count-is s).0))

    pub accepted-lines : image_line i ++ flat (map section_line (take i.count zs)) ≡ listing_of s
    unfolding listing_of
    accepted-lines =
        ap₂ ◌++◌ (ap (λ (x : Listed). image_line x.image) lent) (ap (λ (xs : List SectionRecord). flat (map section_line xs)) sections-are)
        ∙ ap (λ (x : Listed). lines_of (layout_in s) x.answer) lent

    pub so-many : i.count ≡ length (take i.count zs)
    so-many = rw sections-are (ap (λ (x : Listed). x.image.count) lent ∙ ((count-is s).0 ∙ sym (length-map (layout_in s).areas list_record)))
