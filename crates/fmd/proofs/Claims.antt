-- What users rely on besides the equations of the calls.
use Rattle.std.specs.Prelude.{Option as Optional, Some, None}
use mathlib.Core.Path.{◌≡◌, refl, sym, ap, subst, ◌∙◌}
use mathlib.Core.List.{List}
use mathlib.Core.Option.{Option, none, some}
use Prim.Native.Nat.{ℕ, ◌≤◌, ◌<◌, ◌^◌}
use native.Mathlib.Omega.{arith}
use lib.Dec.{eqb}
use lib.ListN.{length}
use borrow.Author.Tests.{eqb-true}
use Rattle.octets.proofs.Bools.{choice, some-none}
use Rattle.fmap_rules.specs.Written.{Writable}
use Rattle.fmap_rules.specs.declared.Area.{Area}
use Rattle.fmap_rules.specs.declared.ImagePosition.{ImagePosition}
use Rattle.fmap.specs.Written.{Holds}
use Rattle.fmap.proofs.Written.{map-holds}
use Rattle.fmd_parse.specs.Trees.{AddressFits}
use Rattle.fmd_check.specs.Check.{Checked, fault, good, check_text}
use Rattle.fmd_check.specs.Claims.{CheckedFacts}
use Rattle.fmd_check.proofs.Facts.{check-facts}
use Rattle.fmd_check.proofs.Shape.{area-at}
use Rattle.fmd_check.specs.Areas.{area_from, area_at}
use Rattle.fmd_check.proofs.Nested.{areas-nested}
use Rattle.fmd_check.proofs.Stands.{areas-stand}
use Rattle.fmd.specs.Calls.{Said, address_of, image_of, said_by, layout_in, Written, with_map, write_by, write_text}
use Rattle.fmd.specs.Claims.{SectionsFitted, SectionsNested, SectionsInOrder, SaidIsWritable, WrittenHolds, WrittenAtFmap, RefusedStays}
use Rattle.fmd.proofs.Writable.{writable}

-- ---- what an accepted text says

pub record Sayable (x : Said) : Type 0 where
  pub writes : Writable x.image.size x.at.0 x.image.name 1 x.areas
  pub low : 98 ≤ x.image.size
  pub high : x.image.size ≤ 16777216
  pub base : x.image.address < 256 ^ 8

base-fits : (a : Optional ℕ) → AddressFits a → address_of a < 256 ^ 8
base-fits (Some n) h = omega arith
base-fits None h = omega arith

sayable : (s : List ℕ) (j : Checked) → CheckedFacts s j → (said_by s j).answer ≡ none → Sayable (said_by s j)
unfolding image_of
sayable s (fault n p) f e = absurd (some-none e)
sayable s (good i l ps m) f e =
    record { writes = writable s i l ps m f; low = f.image.low; high = f.image.high; base = base-fits i.address f.image.address }

-- ---- the image with the map of what it says

module _ (x : Said) (image : List ℕ) (f : Sayable x) (e : length image ≡ x.image.size) where
  abbrev Held : ImagePosition → List ℕ → Type 0
  Held at new = Holds at.0 x.image.name x.image.address 1 x.areas image new

  holds : Held x.at (with_map x image)
  holds = map-holds image x.at.0 x.image.name x.image.address 1 x.areas (rw e f.writes) f.base (rw e f.low) (rw e f.high)

-- ---- the calls

pub sections-fitted : SectionsFitted
unfolding layout_in image_of
sections-fitted s i l ps m e = let f = subst (CheckedFacts s) e (check-facts s) in rw e f.fitted

pub sections-nested : SectionsNested
unfolding layout_in image_of
sections-nested s i l ps m e =
    let f = subst (CheckedFacts s) e (check-facts s) in rw e (areas-nested s i.size l ps f.tree f.fitted)

pub sections-in-order : SectionsInOrder
unfolding layout_in
sections-in-order s i l ps m e k h =
    let f = subst (CheckedFacts s) e (check-facts s) in rw e (areas-stand s i.size l ps f.tree f.fitted k h)

pub said : (s : List ℕ) → (layout_in s).answer ≡ none → Sayable (layout_in s)
unfolding layout_in
said s e = sayable s (check_text s) (check-facts s) e

pub said-is-writable : SaidIsWritable
said-is-writable s e = (said s e).writes

module _ (image : List ℕ) (x : Said) where
  abbrev Wrote : Written → Type 0
  Wrote w = (length image ≡ x.image.size) × Holds w.at.0 x.image.name x.image.address 1 x.areas image w.image

  wrote : (o : Option ℕ) → x.answer ≡ o → (x.answer ≡ none → Sayable x) → (write_by x image o).answer ≡ none → Wrote (write_by x image o)
  wrote (some n) q f e = absurd (some-none e)
  wrote none q f e =
      choice (λ (w : Written). w.answer ≡ none → Wrote w) (eqb (length image) x.image.size) _ _
      (λ b _. (eqb-true _ _ b, holds x image (f q) (eqb-true _ _ b))) (λ _ a. absurd (some-none a)) e

  wrote_at : (o : Option ℕ) → (write_by x image o).answer ≡ none → (write_by x image o).at ≡ x.at
  wrote_at (some n) e = absurd (some-none e)
  wrote_at none e =
      choice (λ (w : Written). w.answer ≡ none → w.at ≡ x.at) (eqb (length image) x.image.size) _ _ (λ _ _. refl) (λ _ a. absurd (some-none a)) e

  stays : (o : Option ℕ) (n : ℕ) → (write_by x image o).answer ≡ some n → (write_by x image o).image ≡ image
  stays (some k) n e = refl
  stays none n e =
      choice (λ (w : Written). w.answer ≡ some n → w.image ≡ image) (eqb (length image) x.image.size) _ _
      (λ _ a. absurd (some-none (sym a))) (λ _ a. refl) e

pub written-holds : WrittenHolds
unfolding write_text
written-holds s image e = wrote image (layout_in s) (layout_in s).answer refl (said s) e

pub written-at-fmap : WrittenAtFmap
unfolding write_text layout_in area_at area_from
written-at-fmap s image i l ps m e a =
    let f = subst (CheckedFacts s) e (check-facts s) in
    ap (λ (p : ImagePosition). p.0) (wrote_at image (layout_in s) (layout_in s).answer a)
    ∙ rw e (sym (ap (λ (x : Area). x.place.start.0) (area-at s l ps m (omega (arith, f.there, f.fitted.count)))))

pub refused-stays : RefusedStays
unfolding write_text
refused-stays s image n e = stays image (layout_in s) (layout_in s).answer n e
