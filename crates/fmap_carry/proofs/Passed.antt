-- What holds where no row refuses.
use mathlib.Core.Path.{◌≡◌, sym, ap, ◌∙◌}
use mathlib.Core.Bool.{true, false, not}
use mathlib.Core.List.{List}
use mathlib.Core.Option.{Option, none, some}
use Prim.Native.Nat.{ℕ, ◌<◌}
use lib.ListN.{length, get_or}
use borrow.Author.Tests.{le-leb, leb-true, eqb-true, not-false}
use Rattle.octets.specs.Tests.{any, all, pairs, find_ix}
use Rattle.octets.specs.Rows.{refusal}
use Rattle.octets.specs.Bytes.{rest}
use Rattle.octets.proofs.Bools.{and-skip, not_f}
use Rattle.octets.proofs.Tests.{all-get, all-make, any_none, find_ix-get}
use Rattle.octets.proofs.Rows.{passes, pick-false}
use Rattle.fmap_rules.specs.declared.Area.{Area}
use Rattle.fmap_rules.specs.Map.{areas_of, blank_area, named, good_map}
use Rattle.fmap_rules.proofs.Good.{good-areas, ends-in}
use Rattle.fmap_carry.specs.Carry.{preserved, with_name, target, missing, other_size, clear, on_map, carry_rows, carried, unless_refused, carry_areas}
use Rattle.fmap_carry.specs.Invariants.{Fitting, ends_in}

module _ (olds news : List Area) (e : refusal (carry_rows olds news) ≡ none) where
  pub present : (i : ℕ) → i < length olds → preserved (get_or olds i blank_area) ≡ true → any (named (get_or olds i blank_area).name) news ≡ true
  unfolding missing
  present i h p = not-false _ (and-skip _ _ p (any_none (missing news) olds blank_area (passes 60 (carry_rows olds news) e) i h))

  pub size_same : (i : ℕ) → i < length olds → preserved (get_or olds i blank_area) ≡ true
      → (get_or olds i blank_area).place.size ≡ (target news (get_or olds i blank_area)).size
  unfolding other_size
  size_same i h p = eqb-true _ _ (not-false _ (and-skip _ _ p (any_none (other_size news) olds blank_area (passes 61 (carry_rows olds news) e) i h)))

  pub all_apart : pairs (clear news) olds ≡ true
  all_apart = not_f _ (passes 62 (carry_rows olds news) e)

  pub fitting : (old_length new_length : ℕ) → all (ends_in old_length) olds ≡ true → all (ends_in new_length) news ≡ true
      → Fitting old_length new_length news olds
  unfolding with_name ends_in
  fitting old_length new_length a b i h p =
      let k = (find_ix-get (named (get_or olds i blank_area).name) news blank_area (present i h p)).0 in
      record {
        from = leb-true _ _ (all-get (ends_in old_length) olds blank_area a i h);
        to = leb-true _ _ (all-get (ends_in new_length) news blank_area b (find_ix (named (get_or olds i blank_area).name) news) k);
        size = size_same i h p;
      }

-- ---- no row holds

pub judge-free : (olds news : List Area) → any (missing news) olds ≡ false → any (other_size news) olds ≡ false → pairs (clear news) olds ≡ true
    → any (on_map news) olds ≡ false → none ≡ refusal (carry_rows olds news)
judge-free olds news a b d f = sym (pick-false _ 60 _ a ∙ pick-false _ 61 _ b ∙ pick-false _ 62 _ (ap not d) ∙ pick-false _ 63 _ f)

-- ---- the outcome

module _ (old : List ℕ) (olds : List Area) (new : List ℕ) (news : List Area) where
  pub refuses : (k : ℕ) → some k ≡ refusal (carry_rows olds news) → record { answer = some k; image = new } ≡ carry_areas old olds new news
  unfolding carry_areas
  refuses k e = ap (λ (o : Option ℕ). unless_refused o (carried old news olds new) new) e

  pub accepts : (image : List ℕ) → none ≡ refusal (carry_rows olds news) → image ≡ carried old news olds new
      → record { answer = none; image = image } ≡ carry_areas old olds new news
  unfolding carry_areas
  accepts image e f =
      ap (λ (l : List ℕ). record { answer = none; image = l }) f ∙ ap (λ (o : Option ℕ). unless_refused o (carried old news olds new) new) e

-- the areas of a good map end in the image
pub good-ends-of : (image : List ℕ) (at : ℕ) → good_map image at ≡ true → all (ends_in (length image)) (areas_of (rest at image)) ≡ true
unfolding ends_in
good-ends-of image at g =
    all-make (ends_in (length image)) (areas_of (rest at image)) blank_area
    (λ i h. le-leb _ _ (ends-in (length image) at (areas_of (rest at image)) (good-areas image at g) i h))
