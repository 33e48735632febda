-- What stands at a position that is given, and a carry by two of them.
use mathlib.Core.Path.{◌≡◌, refl, sym, ap, ◌∙◌}
use mathlib.Core.Logic.{◌⊎◌, inl, inr}
use mathlib.Core.Bool.{true, false, not, true≢false}
use mathlib.Core.List.{List, [], ◌∷◌, ◌++◌}
use mathlib.Core.Option.{Option, none, some}
use Prim.Native.Nat.{ℕ, ◌≤◌}
use native.Mathlib.Omega.{arith}
use Rattle.octets.specs.Rows.{row, refusal}
use Rattle.octets.specs.Bytes.{rest}
use borrow.Author.Tests.{ltb-false}
use Rattle.octets.proofs.Bools.{or-false-r, not_f, bool_cases}
use Rattle.octets.proofs.Rows.{pick_true, pick-false, passes, refusal-append, refusal-first, refusal-before, refusal-holds}
use lib.ListN.{length}
use Rattle.fmap_rules.specs.Map.{areas_of, map_rows, good_map}
use Rattle.fmap_rules.proofs.Rules.{map-no-zero}
use Rattle.fmap_rules.proofs.Good.{unsigned-first}
use Rattle.fmap_carry.specs.Carry.{Outcome, unless_refused, carry_rows, carried, carry_areas}
use Rattle.fmap.specs.Find.{accepted, refused, reply, out_of_range, signed_at}
use Rattle.fmap.specs.Faults.{fault_at}
use Rattle.fmap.specs.Carry.{place_rows, carry_at_rows, carry_at}
use Rattle.fmap.proofs.Finding.{reply-accepted, signed-short}

-- ---- the first rule

module _ (image : List ℕ) (at : ℕ) where
  pub fault-40 : out_of_range (length image) ≡ true → refused 40 ≡ fault_at image at
  unfolding fault_at
  fault-40 a = ap (λ (o : Option ℕ). reply o (refusal (map_rows image at))) (sym (pick_true _ 40 _ a))

  module _ (a : out_of_range (length image) ≡ false) where
    pub fault-looked : (o : Option ℕ) → o ≡ refusal (map_rows image at) → accepted o ≡ fault_at image at
    unfolding fault_at
    fault-looked o e =
        ap (λ (x : Option ℕ). accepted x) e
        ∙ ap (λ (x : Option ℕ). reply x (refusal (map_rows image at))) (sym (pick-false (out_of_range (length image)) 40 none a))

-- no rule has the number 0
pub rule-some : (image : List ℕ) (at : ℕ) → fault_at image at ≡ accepted (some 0) → ⊥
unfolding fault_at
rule-some image at e = by_rows (refusal (row (out_of_range (length image)) 40 ∷ [])) e
  where
    by_rows : (o : Option ℕ) → reply o (refusal (map_rows image at)) ≡ accepted (some 0) → ⊥
    by_rows none e =
        let q : refusal (map_rows image at) ≡ some 0 = (reply-accepted none (refusal (map_rows image at)) (some 0) e).1 in
        true≢false (sym (refusal-holds 0 (map_rows image at) q) ∙ map-no-zero image at)
    by_rows (some k) e = let z : ◌≡◌ {A = ℕ} 0 1 = cc in omega arith

-- ---- positions behind the image

behind : (image : List ℕ) (at : ℕ) → out_of_range (length image) ≡ false → 16777216 ≤ at → refusal (map_rows image at) ≡ some 1
unfolding signed_at out_of_range
behind image at w h =
    let l : length image ≤ 16777216 = ltb-false _ _ (or-false-r _ _ w) in
    unsigned-first image at (signed-short image at (omega arith))

pub fault-behind : (image : List ℕ) (at bt : ℕ) → 16777216 ≤ at → 16777216 ≤ bt → fault_at image at ≡ fault_at image bt
fault-behind image at bt a b = go (bool_cases (out_of_range (length image)))
  where
    go : (out_of_range (length image) ≡ true) ⊎ (out_of_range (length image) ≡ false) → fault_at image at ≡ fault_at image bt
    go (inl w) = sym (fault-40 image at w) ∙ fault-40 image bt w
    go (inr w) = sym (fault-looked image at w (some 1) (sym (behind image at w a))) ∙ fault-looked image bt w (some 1) (sym (behind image bt w b))

-- ---- what stands at a position

module _ (image : List ℕ) (at : ℕ) where
  pub place-40 : out_of_range (length image) ≡ true → some 40 ≡ refusal (place_rows image at)
  place-40 a = sym (pick_true _ 40 _ a)

  module _ (a : out_of_range (length image) ≡ false) where
    pub place-41 : signed_at image at ≡ false → some 41 ≡ refusal (place_rows image at)
    place-41 b = sym (pick-false _ 40 _ a ∙ pick_true _ 41 _ (ap not b))

    module _ (b : signed_at image at ≡ true) where
      pub place-42 : good_map image at ≡ false → some 42 ≡ refusal (place_rows image at)
      place-42 d = sym (pick-false _ 40 _ a ∙ pick-false _ 41 _ (ap not b) ∙ pick_true _ 42 _ (ap not d))

      pub place-good : good_map image at ≡ true → none ≡ refusal (place_rows image at)
      place-good d = sym (pick-false _ 40 _ a ∙ pick-false _ 41 _ (ap not b) ∙ pick-false _ 42 _ (ap not d))

  pub good-there : refusal (place_rows image at) ≡ none → good_map image at ≡ true
  good-there e = not_f _ (passes 42 (place_rows image at) e)

-- ---- a carry by two positions

module _ (old : List ℕ) (at : ℕ) (new : List ℕ) (bt : ℕ) where
  rows-give : (o : Option ℕ) → o ≡ refusal (carry_at_rows old at new bt)
      → unless_refused o (carried old (areas_of (rest bt new)) (areas_of (rest at old)) new) new ≡ carry_at old at new bt
  unfolding carry_at
  rows-give o e = ap (λ (x : Option ℕ). unless_refused x (carried old (areas_of (rest bt new)) (areas_of (rest at old)) new) new) e

  pub old-stops : (k : ℕ) → some k ≡ refusal (place_rows old at) → record { answer = some k; image = new } ≡ carry_at old at new bt
  old-stops k e =
      rows-give (some k) (sym (refusal-first (place_rows old at) (place_rows new bt ++ carry_rows (areas_of (rest at old)) (areas_of (rest bt new))) k
      (sym e)))

  module _ (a : refusal (place_rows old at) ≡ none) where
    pub new-stops : (k : ℕ) → some k ≡ refusal (place_rows new bt) → record { answer = some k; image = new } ≡ carry_at old at new bt
    new-stops k e =
        rows-give (some k)
        (sym (refusal-append (place_rows old at) (place_rows new bt ++ carry_rows (areas_of (rest at old)) (areas_of (rest bt new))) a
        ∙ refusal-first (place_rows new bt) (carry_rows (areas_of (rest at old)) (areas_of (rest bt new))) k (sym e)))

    pub both-stand : refusal (place_rows new bt) ≡ none → carry_areas old (areas_of (rest at old)) new (areas_of (rest bt new)) ≡ carry_at old at new bt
    unfolding carry_areas
    both-stand b =
        rows-give (refusal (carry_rows (areas_of (rest at old)) (areas_of (rest bt new))))
        (sym (refusal-append (place_rows old at) (place_rows new bt ++ carry_rows (areas_of (rest at old)) (areas_of (rest bt new))) a
        ∙ refusal-append (place_rows new bt) (carry_rows (areas_of (rest at old)) (areas_of (rest bt new))) b))

-- ---- an accepted carry by two positions

was_free : (o : Option ℕ) (done new image : List ℕ) → unless_refused o done new ≡ record { answer = none; image = image } → o ≡ none
was_free none done new image e = refl
was_free (some k) done new image e = let z : ◌≡◌ {A = ℕ} 0 1 = cc (ap (λ (r : Outcome). r.answer) e) in absurd (omega arith)

module _ (old : List ℕ) (at : ℕ) (new : List ℕ) (bt : ℕ) (image : List ℕ) (e : carry_at old at new bt ≡ record { answer = none; image = image }) where
  none-refused : refusal (carry_at_rows old at new bt) ≡ none
  unfolding carry_at
  none-refused = was_free (refusal (carry_at_rows old at new bt)) (carried old (areas_of (rest bt new)) (areas_of (rest at old)) new) new image e

  pub old-stands : refusal (place_rows old at) ≡ none
  old-stands = (refusal-before (place_rows old at) (place_rows new bt ++ carry_rows (areas_of (rest at old)) (areas_of (rest bt new))) none-refused).0

  others-stand : (refusal (place_rows new bt) ≡ none) × (refusal (carry_rows (areas_of (rest at old)) (areas_of (rest bt new))) ≡ none)
  others-stand =
      refusal-before (place_rows new bt) (carry_rows (areas_of (rest at old)) (areas_of (rest bt new)))
      (refusal-before (place_rows old at) (place_rows new bt ++ carry_rows (areas_of (rest at old)) (areas_of (rest bt new))) none-refused).1

  pub old-good : good_map old at ≡ true
  old-good = good-there old at old-stands

  pub new-good : good_map new bt ≡ true
  new-good = good-there new bt others-stand.0

  pub new-stands : refusal (place_rows new bt) ≡ none
  new-stands = others-stand.0

  pub rows_pass : refusal (carry_rows (areas_of (rest at old)) (areas_of (rest bt new))) ≡ none
  rows_pass = others-stand.1

  pub by-the-areas : carry_areas old (areas_of (rest at old)) new (areas_of (rest bt new)) ≡ record { answer = none; image = image }
  by-the-areas = both-stand old at new bt old-stands others-stand.0 ∙ e
