-- What a listing leaves in the records: the sections, or, after a refusal, what stood there.
use mathlib.Core.Path.{◌≡◌, refl, sym, ap, ◌∙◌}
use mathlib.Core.List.{List, [], map}
use mathlib.Core.Option.{none, some}
use Prim.Native.Nat.{ℕ, ◌+◌, ◌-◌, ◌≤◌, ◌<◌}
use native.Mathlib.Omega.{arith}
use lib.Dec.{eqb}
use lib.ListN.{length, get_or, drop, length-append, length-drop, length-map, get_or-append}
use lib.Seq.{get_or-append-add, get_or-drop}
use borrow.Author.Tests.{eqb-true}
use Rattle.octets.specs.Bytes.{put, flat}
use Rattle.octets.proofs.Bools.{choice, some-none}
use Rattle.octets.proofs.Tests.{get_d_map}
use Rattle.fmap_rules.specs.Map.{blank_area}
use Rattle.fmap_rules.specs.Written.{area_bytes}
use Rattle.fmap_rules.specs.declared.Area.{Area}
use Rattle.fmd_check.specs.Check.{Checked, fault, good, check_text}
use Rattle.fmd.specs.Calls.{Said, said_by, layout_in, layout_for, list_record, filled, list_text, Recorded, record_text}
use Rattle.fmd.specs.Claims.{blank_listed, Fills, ListedFills, RefusedListStays, RefusedRecordsStay}
use Rattle.fmd.specs.declared.SectionRecord.{SectionRecord}
use Rattle.fmd.proofs.Claims.{said}

-- ---- a refusal

none_said : (s : List ℕ) (j : Checked) (n : ℕ) → (said_by s j).answer ≡ some n → (said_by s j).areas ≡ []
none_said s (fault k p) n e = refl
none_said s (good i l ps m) n e = absurd (some-none (sym e))

no-areas : (s : List ℕ) (n : ℕ) → (layout_in s).answer ≡ some n → (layout_in s).areas ≡ []
unfolding layout_in
no-areas s n e = none_said s (check_text s) n e

pub refused-list-stays : RefusedListStays
unfolding list_text layout_for
refused-list-stays s ys n e =
    choice (λ (x : Said). x.answer ≡ some n → filled (map list_record x.areas) ys ≡ ys) (eqb (length ys) 128) _ _
    (λ _ a. ap (λ (us : List Area). filled (map list_record us) ys) (no-areas s n a)) (λ _ _. refl) e

pub refused-records-stay : RefusedRecordsStay
unfolding record_text put
refused-records-stay s bs n e =
    choice (λ (x : Recorded). x.answer ≡ some n → x.records ≡ bs) (eqb (length bs) 5376) _ _
    (λ _ a. ap (λ (us : List Area). put 0 (flat (map area_bytes us)) bs) (no-areas s n a)) (λ _ _. refl) e

-- ---- a list that is filled

module _ (areas : List Area) (ys : List SectionRecord) (h : length areas ≤ length ys) where
  abbrev zs : List SectionRecord
  zs = filled (map list_record areas) ys

  many : length (map list_record areas) ≡ length areas
  many = length-map areas list_record

  section-at : (k : ℕ) → k < length areas → get_or zs k blank_listed ≡ list_record (get_or areas k blank_area)
  section-at k g =
      get_or-append (map list_record areas) _ blank_listed k (omega (arith, many)) ∙ get_d_map list_record areas k blank_listed blank_area g

  unused-at : (k : ℕ) → length areas ≤ k → get_or zs k blank_listed ≡ get_or ys k blank_listed
  unused-at k g =
      let n : ℕ = length (map list_record areas) in
      let e : n + (k - n) ≡ k = omega (arith, many) in
      ap (λ (i : ℕ). get_or zs i blank_listed) (sym e)
      ∙ (get_or-append-add (map list_record areas) (drop n ys) (k - n) blank_listed
      ∙ (get_or-drop n ys (k - n) blank_listed ∙ ap (λ (i : ℕ). get_or ys i blank_listed) e))

  fills : Fills areas ys zs
  fills =
      record {
        same_length = length-append (map list_record areas) (drop (length (map list_record areas)) ys)
            ∙ omega (arith, many, length-drop (length (map list_record areas)) ys);
        positions = λ k g. ap (λ (x : SectionRecord). x.position) (section-at k g);
        sizes = λ k g. ap (λ (x : SectionRecord). x.size) (section-at k g);
        flags = λ k g. ap (λ (x : SectionRecord). x.flags) (section-at k g);
        names = λ k g. ap (λ (x : SectionRecord). x.name) (section-at k g);
        unused = unused-at;
      }

pub listed-fills : ListedFills
unfolding list_text layout_for
listed-fills s ys e =
    choice (λ (x : Said). x.answer ≡ none → Fills (layout_in s).areas ys (filled (map list_record x.areas) ys)) (eqb (length ys) 128) _ _
    (λ b a. fills (layout_in s).areas ys (omega (arith, eqb-true (length ys) 128 b, (said s a).writes.few))) (λ _ a. absurd (some-none a)) e
