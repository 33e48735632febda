-- What a good map gives.
use mathlib.Core.Path.{◌≡◌, refl, sym, ap, ◌∙◌}
use mathlib.Core.Bool.{Bool, true, false, not}
use mathlib.Core.List.{List}
use mathlib.Core.Option.{Option, none, some}
use Prim.Native.Nat.{ℕ, ◌+◌, ◌≤◌, ◌<◌}
use native.Mathlib.Omega.{arith}
use lib.ListN.{length, get_or}
use borrow.Author.Tests.{ltb-false, eqb-false, ne_eqb, le-ltb}
use Rattle.octets.specs.Tests.{any, pairs}
use Rattle.octets.specs.Rows.{refusal}
use Rattle.octets.specs.Bytes.{rest}
use Rattle.octets.proofs.Bools.{not_t, not_f}
use Rattle.octets.proofs.Rows.{passes, pick_true, pick-false, refusal-before, refusal-append, refusal-first}
use Rattle.octets.proofs.Tests.{any_none, any_false, pairs-get, pairs-make}
use Rattle.octets.proofs.Parts.{length_rest}
use Rattle.fmap_rules.specs.declared.Area.{Area}
use Rattle.fmap_rules.specs.Map.{signed, count_of, map_size, areas_of, blank_area, end_of, legal_name, named, disjoint_or_nested, empty}
use Rattle.fmap_rules.specs.Map.{ends_past, misnamed, other_name, good_places, header_rows, area_rows, map_rows, good_map_header, good_areas, good_map}
use Rattle.fmap_rules.specs.Map.{holds_map}
use Rattle.fmap_rules.proofs.Rules.{holds-none, none-holds}
use Rattle.fmap_rules.proofs.Signature.{short-unsigned}

-- what lets a map's bytes be read; m is the bytes from its position on
pub record Fits (m : List ℕ) : Type 0 where
  pub header : 56 ≤ length m
  pub some : 1 ≤ count_of m
  pub few : count_of m ≤ 128
  pub whole : map_size (count_of m) ≤ length m

pub rows_fit : (len : ℕ) (m : List ℕ) → refusal (header_rows len m) ≡ none → Fits m
rows_fit len m e =
    let s : count_of m ≡ 0 → ⊥ = eqb-false (count_of m) 0 (passes 6 (header_rows len m) e) in
    record {
      header = ltb-false _ _ (passes 2 (header_rows len m) e);
      some = omega (arith, s);
      few = ltb-false _ _ (passes 7 (header_rows len m) e);
      whole = ltb-false _ _ (passes 8 (header_rows len m) e);
    }

module _ (len : ℕ) (m : List ℕ) (g : good_map_header len m ≡ true) where
  header-rows : refusal (header_rows len m) ≡ none
  unfolding good_map_header
  header-rows = holds-none (header_rows len m) g

  pub header-fits : Fits m
  header-fits = rows_fit len m header-rows

  pub header-signed : signed m ≡ true
  header-signed = not_f _ (passes 1 (header_rows len m) header-rows)

-- ---- a good map

module _ (image : List ℕ) (at : ℕ) (g : good_map image at ≡ true) where
  map-rows : (refusal (header_rows (length image) (rest at image)) ≡ none) × (refusal (area_rows (length image) at (areas_of (rest at image))) ≡ none)
  unfolding good_map
  map-rows = refusal-before (header_rows (length image) (rest at image)) (area_rows (length image) at (areas_of (rest at image)))
      (holds-none (map_rows image at) g)

  pub good-header : good_map_header (length image) (rest at image) ≡ true
  unfolding good_map_header
  good-header = none-holds _ map-rows.0

  pub good-areas : good_areas (length image) at (areas_of (rest at image)) ≡ true
  unfolding good_areas
  good-areas = none-holds _ map-rows.1

  pub good-fits : Fits (rest at image)
  good-fits = header-fits (length image) (rest at image) good-header

  pub good-within : at + map_size (count_of (rest at image)) ≤ length image
  good-within = omega (arith, good-fits.whole, good-fits.some, length_rest image at)

pub map-good : (image : List ℕ) (at : ℕ) → good_map_header (length image) (rest at image) ≡ true
    → good_areas (length image) at (areas_of (rest at image)) ≡ true
    → good_map image at ≡ true
unfolding good_map good_map_header good_areas
map-good image at h a =
    none-holds (map_rows image at) (refusal-append (header_rows (length image) (rest at image)) (area_rows (length image) at (areas_of (rest at image)))
    (holds-none _ h) ∙ holds-none _ a)

-- ---- the first rule that a map at a position breaks

pub unsigned-first : (image : List ℕ) (at : ℕ) → signed (rest at image) ≡ false → refusal (map_rows image at) ≡ some 1
unsigned-first image at e = pick_true _ 1 _ (ap not e)

pub past_end : (image : List ℕ) (at : ℕ) → length image < at → some 1 ≡ refusal (map_rows image at)
past_end image at h = sym (unsigned-first image at (short-unsigned (rest at image) (omega (arith, length_rest image at))))

-- m is the bytes from the position on
module _ (image : List ℕ) (at : ℕ) (m : List ℕ) (q : m ≡ rest at image) where
  pub by-header : (k : ℕ) → some k ≡ refusal (header_rows (length image) m) → some k ≡ refusal (map_rows image at)
  by-header k e =
      sym (refusal-first (header_rows (length image) (rest at image)) (area_rows (length image) at (areas_of (rest at image))) k
      (ap (λ (l : List ℕ). refusal (header_rows (length image) l)) (sym q) ∙ sym e))

  pub by-areas : (o : Option ℕ) → none ≡ refusal (header_rows (length image) m) → o ≡ refusal (area_rows (length image) at (areas_of m))
      → o ≡ refusal (map_rows image at)
  by-areas o e f =
      f
      ∙ ap (λ (l : List ℕ). refusal (area_rows (length image) at (areas_of l))) q
      ∙ sym (refusal-append (header_rows (length image) (rest at image)) (area_rows (length image) at (areas_of (rest at image)))
      (ap (λ (l : List ℕ). refusal (header_rows (length image) l)) (sym q) ∙ sym e))

-- an unsigned position has no good map
pub unsigned-bad : (image : List ℕ) (at : ℕ) → signed (rest at image) ≡ false → good_map image at ≡ false
unsigned-bad image at e = go (good_map image at) refl
  where
    go : (t : Bool) → good_map image at ≡ t → t ≡ false
    go true g = sym (header-signed _ _ (good-header image at g)) ∙ e
    go false g = refl

-- ---- what the areas of a good map are

module _ (len at : ℕ) (areas : List Area) (g : good_areas len at areas ≡ true) where
  area-rows : refusal (area_rows len at areas) ≡ none
  unfolding good_areas
  area-rows = holds-none (area_rows len at areas) g

  pub holder : any (holds_map at (length areas)) areas ≡ true
  holder = not_f _ (passes 13 (area_rows len at areas) area-rows)

  pub ends-in : (i : ℕ) → i < length areas → end_of (get_or areas i blank_area).place ≤ len
  unfolding ends_past
  ends-in i h = ltb-false _ _ (any_none (ends_past len) areas blank_area (passes 11 (area_rows len at areas) area-rows) i h)

  pub legal : (i : ℕ) → i < length areas → legal_name (get_or areas i blank_area).name ≡ true
  unfolding misnamed
  legal i h = not_f _ (any_none misnamed areas blank_area (passes 12 (area_rows len at areas) area-rows) i h)

  pub names_differ : (i j : ℕ) → i < j → j < length areas → named (get_or areas i blank_area).name (get_or areas j blank_area) ≡ false
  unfolding other_name
  names_differ i j h k = not_t _ (pairs-get other_name areas blank_area (not_f _ (passes 14 (area_rows len at areas) area-rows)) i j h k)

-- what makes areas good
module _ (len at : ℕ) (areas : List Area)
    (some : (i : ℕ) → i < length areas → 1 ≤ (get_or areas i blank_area).place.size)
    (within : (i : ℕ) → i < length areas → end_of (get_or areas i blank_area).place ≤ len)
    (legals : (i : ℕ) → i < length areas → legal_name (get_or areas i blank_area).name ≡ true)
    (held : any (holds_map at (length areas)) areas ≡ true)
    (differ : (i j : ℕ) → i < j → j < length areas → named (get_or areas i blank_area).name (get_or areas j blank_area) ≡ false)
    (apart : (i j : ℕ) → i < j → j < length areas → disjoint_or_nested (get_or areas i blank_area).place (get_or areas j blank_area).place ≡ true)
  where
    none-empty : any empty areas ≡ false
    unfolding empty
    none-empty = any_false empty areas blank_area (λ i h. ne_eqb (get_or areas i blank_area).place.size 0 (λ e. omega (arith, e, some i h)))

    none-past : any (ends_past len) areas ≡ false
    unfolding ends_past
    none-past = any_false (ends_past len) areas blank_area (λ i h. le-ltb len _ (within i h))

    none-misnamed : any misnamed areas ≡ false
    unfolding misnamed
    none-misnamed = any_false misnamed areas blank_area (λ i h. ap not (legals i h))

    all-differ : pairs other_name areas ≡ true
    unfolding other_name
    all-differ = pairs-make other_name areas blank_area (λ i j h k. ap not (differ i j h k))

    all_apart : pairs good_places areas ≡ true
    unfolding good_places
    all_apart = pairs-make good_places areas blank_area apart

    pub areas-good : good_areas len at areas ≡ true
    unfolding good_areas
    areas-good =
        none-holds (area_rows len at areas)
        (pick-false _ 10 _ none-empty ∙ pick-false _ 11 _ none-past ∙ pick-false _ 12 _ none-misnamed ∙ pick-false _ 13 _ (ap not held)
        ∙ pick-false _ 14 _ (ap not all-differ) ∙ pick-false _ 15 _ (ap not all_apart))
