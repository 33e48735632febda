-- A layout text listed: as sections, and as the bytes of records.
use mathlib.Core.Path.{◌≡◌, sym, ap, ◌∙◌}
use mathlib.Core.Logic.{◌≢◌}
use mathlib.Core.List.{List, map}
use mathlib.Core.Option.{none}
use Prim.Native.Nat.{ℕ}
use lib.ListN.{length}
use borrow.Author.Tests.{eq-eqb, ne_eqb}
use Rattle.std.proofs.Common.{Option, Result, Ok, Err, IsErrAnd}
use Rattle.octets.specs.Bytes.{put, flat}
use Rattle.fmap_rules.specs.Written.{area_bytes}
use Rattle.fmd_head.specs.Refusals.{number_of as text_number}
use Rattle.fmd_head.specs.declared.Refusal.{Refusal as TextRefusal}
use Rattle.fmd_check.specs.Check.{Checked, fault, check_text}
use Rattle.fmd.specs.Calls.{Read, said_by, layout_in, list_record, filled, layout_for, list_of, list_text, recorded, record_text}
use Rattle.fmd.specs.declared.Image.{Image}
use Rattle.fmd.specs.declared.Refusal.TheVariants.{WrongLength, OfText}
use Rattle.fmd.specs.declared.SectionRecord.{SectionRecord}

-- what `?` hands on of an error
pub stopped : {A E : Type 0} (r : Result A E) {e d : E} → IsErrAnd r (λ y. y ≡ e) → e ≡ d → r ≡ Err d
stopped (Ok a) p q = absurd p
stopped (Err y) p q = ap Err (p ∙ q)

-- ---- a list or bytes of another length

pub list-wrong : (s : List ℕ) (ys : List SectionRecord) → length ys ≢ 128 → list_of (Err WrongLength) ys ≡ list_text s ys
unfolding list_text layout_for
list-wrong s ys h = rw (ne_eqb (length ys) 128 h)

pub records-wrong : (s bs : List ℕ) → length bs ≢ 5376 → recorded (Err WrongLength) bs ≡ record_text s bs
unfolding record_text
records-wrong s bs h = rw (ne_eqb (length bs) 5376 h)

-- ---- what the text says is j, with the image x

module _ (s : List ℕ) (j : Checked) (c : j ≡ check_text s) (x : Image)
    (e : ◌≡◌ {A = Read} (record { answer = none; image = x }) (record { answer = (said_by s j).answer; image = (said_by s j).image })) where
  pub list-good : (old new : List SectionRecord) → length old ≡ 128 → new ≡ filled (map list_record (said_by s j).areas) old
      → list_of (Ok x) new ≡ list_text s old
  unfolding list_text layout_for layout_in
  list-good old new h p = rw (eq-eqb (length old) 128 h, sym c, p) (ap (λ (y : Read). record { answer = y.answer; image = y.image; sections = filled (map list_record (said_by s j).areas) old }) e)

  pub records-good : (old new : List ℕ) → length old ≡ 5376 → new ≡ put 0 (flat (map area_bytes (said_by s j).areas)) old
      → recorded (Ok x) new ≡ record_text s old
  unfolding record_text layout_in
  records-good old new h p = rw (eq-eqb (length old) 5376 h, sym c, p) (ap (λ (y : Read). record { answer = y.answer; image = y.image; records = put 0 (flat (map area_bytes (said_by s j).areas)) old }) e)

-- ---- a refused text

module _ (s : List ℕ) (r : TextRefusal) (p : Option ℕ) (c : fault (text_number r) p ≡ check_text s) where
  pub list-fault : (ys : List SectionRecord) → length ys ≡ 128 → list_of (Err (OfText r)) ys ≡ list_text s ys
  unfolding list_text layout_for layout_in
  list-fault ys h = rw (eq-eqb (length ys) 128 h, sym c)

  pub records-fault : (bs : List ℕ) → length bs ≡ 5376 → recorded (Err (OfText r)) bs ≡ record_text s bs
  unfolding record_text layout_in put
  records-fault bs h = rw (eq-eqb (length bs) 5376 h, sym c)
