-- What users rely on besides the equations of the calls.
use mathlib.Core.Path.{◌≡◌, refl, sym, ap, ◌∙◌}
use mathlib.Core.Bool.{Bool, true, false, true≢false}
use mathlib.Core.List.{List}
use mathlib.Core.Option.{Option, none, some}
use Prim.Native.Nat.{ℕ, ◌-◌, ◌≤◌, ◌<◌}
use native.Mathlib.Nat.{sub-zero, zero-add}
use native.Mathlib.Omega.{arith}
use lib.ListN.{length}
use lib.Dec.{ltb}
use borrow.Author.Tests.{ltb-false}
use Rattle.octets.specs.Rows.{refusal}
use Rattle.octets.specs.Bytes.{rest}
use Rattle.octets.proofs.Bools.{some-none}
use Rattle.octets.proofs.Puts.{length-put}
use Rattle.fmap_rules.specs.declared.ImagePosition.{ImagePosition}
use Rattle.fmap_rules.specs.Map.{position, areas_of, good_map}
use Rattle.fmap_rules.specs.Written.{map_bytes}
use Rattle.fmap_rules.proofs.Good.{good-within, good-header, header-signed}
use Rattle.fmap_rules.proofs.Written.{written-is-good}
use Rattle.fmap_carry.specs.Carry.{Outcome, unless_refused, carried}
use Rattle.fmap_carry.specs.Claims.{Arrived}
use Rattle.fmap_carry.proofs.Passed.{good-ends-of}
use Rattle.fmap_carry.proofs.Accepted.{accepted as accepted-areas}
use Rattle.fmap.specs.Lowest.{first_from, lowest, some_below}
use Rattle.fmap.specs.Find.{Reply, accepted, refused, signed_at, find_map}
use Rattle.fmap.specs.Carry.{carry_at_rows, carry_at, carry_to, carry_from, carry_images}
use Rattle.fmap.specs.Claims.{FindsLowest, CarriedOver, CarryArrives, WrittenIsFound, RefusedCarryStays, RefusedImagesStay}
use Rattle.fmap.proofs.Lowest.{first-skip, first-stop, first-before}
use Rattle.fmap.proofs.Finding.{found-length, found-good, found-lowest, finds, in-range}
use Rattle.fmap.proofs.Places.{old-good, new-good, by-the-areas}

-- ---- carrying

pub arrives : (old : List ℕ) (at : ℕ) (new : List ℕ) (bt : ℕ) (image : List ℕ) → carry_at old at new bt ≡ record { answer = none; image = image }
    → Arrived old (areas_of (rest at old)) new (areas_of (rest bt new)) image
arrives old at new bt image e =
    accepted-areas old (areas_of (rest at old)) new (areas_of (rest bt new)) image
    (good-ends-of old at (old-good old at new bt image e)) (good-ends-of new bt (new-good old at new bt image e)) (by-the-areas old at new bt image e)

module _ (old new image : List ℕ) where
  two : (p q : ImagePosition) → find_map old ≡ accepted p → find_map new ≡ accepted q → carry_at old p.0 new q.0 ≡ record { answer = none; image = image }
      → CarriedOver old new image
  two p q a b e = record { from = p; to = q; old_found = a; new_found = b; arrived = arrives old p.0 new q.0 image e }

  one : (p : ImagePosition) → find_map old ≡ accepted p → (g : Reply ImagePosition) → find_map new ≡ g
      → carry_to old p new g ≡ record { answer = none; image = image }
      → CarriedOver old new image
  one p a (accepted q) b e = two p q a b e
  one p a (refused k) b e = let z : ◌≡◌ {A = ℕ} 0 1 = cc (ap (λ (o : Outcome). o.answer) e) in absurd (omega arith)

  start : (g : Reply ImagePosition) → find_map old ≡ g → carry_from old new g ≡ record { answer = none; image = image } → CarriedOver old new image
  start (accepted p) a e = one p a (find_map new) refl e
  start (refused k) a e = let z : ◌≡◌ {A = ℕ} 0 1 = cc (ap (λ (o : Outcome). o.answer) e) in absurd (omega arith)

pub carry-arrives : CarryArrives
unfolding carry_images
carry-arrives old new image e = start old new image (find_map old) refl e

-- ---- a carry that is refused

stays : (o : Option ℕ) (done new : List ℕ) (n : ℕ) → (unless_refused o done new).answer ≡ some n → (unless_refused o done new).image ≡ new
stays none done new n e = absurd (some-none (sym e))
stays (some k) done new n e = refl

pub refused-carry-stays : RefusedCarryStays
unfolding carry_at
refused-carry-stays old at new bt n e =
    stays (refusal (carry_at_rows old at new bt)) (carried old (areas_of (rest bt new)) (areas_of (rest at old)) new) new n e

pub refused-images-stay : RefusedImagesStay
unfolding carry_images
refused-images-stay old new n e = from (find_map old) e
  where
    to : (p : ImagePosition) (g : Reply ImagePosition) → (carry_to old p new g).answer ≡ some n → (carry_to old p new g).image ≡ new
    to p (accepted q) e = refused-carry-stays old p.0 new q.0 n e
    to p (refused k) e = refl

    from : (g : Reply ImagePosition) → (carry_from old new g).answer ≡ some n → (carry_from old new g).image ≡ new
    from (accepted p) e = to p (find_map new) e
    from (refused k) e = refl

-- ---- a good map with no lower good one is what a search finds

module _ (image : List ℕ) (at : ℕ) (g : good_map image at ≡ true) where
  below : at < length image
  below = omega (arith, good-within image at g)

  pub is_signed : signed_at image at ≡ true
  unfolding signed_at
  is_signed = header-signed _ _ (good-header image at g)

  some-signed : some_below (length image) (signed_at image) ≡ true
  unfolding lowest
  some-signed = go (ltb (first_from (length image) 0 (signed_at image)) (length image)) refl
    where
      go : (t : Bool) → ltb (first_from (length image) 0 (signed_at image)) (length image) ≡ t → t ≡ true
      go true w = refl
      go false w =
          let l : length image ≤ first_from (length image) 0 (signed_at image) = ltb-false _ _ w in
          let b = below in
          absurd (true≢false (sym is_signed ∙ first-before (length image) 0 (signed_at image) at (omega arith) (omega arith)))

  lowest-is : ((j : ℕ) → j < at → good_map image j ≡ false) → lowest (length image) (good_map image) ≡ at
  unfolding lowest
  lowest-is none_lower =
      let b = below in
      ap (λ (k : ℕ). first_from k 0 (good_map image)) (sym (sub-zero (length image)))
      ∙ first-skip at (length image) 0 (good_map image) (omega arith) (λ j x y. none_lower j (omega (arith, y)))
      ∙ ap (λ (k : ℕ). first_from (length image - k) k (good_map image)) (zero-add at)
      ∙ first-stop (length image) at (good_map image) b g

  pub found-there : 98 ≤ length image → length image ≤ 16777216 → ((j : ℕ) → j < at → good_map image j ≡ false) → find_map image ≡ accepted (position at)
  found-there lo hi none_lower = sym (finds image at (in-range (length image) lo hi) some-signed below (lowest-is none_lower))

pub finds-lowest : FindsLowest
finds-lowest image p = (
  λ e. let l = found-length image p e in record { low = l.0; high = l.1; good = found-good image p e; none_lower = found-lowest image p e },
  λ w. found-there image p.0 w.good w.low w.high w.none_lower,
)

pub written-is-found : WrittenIsFound
written-is-found image at name base minor areas w lo hi none_lower =
    let l = length-put at (map_bytes (length image) name base minor areas) image in
    found-there _ at (written-is-good image at name base minor areas w).good (omega arith) (omega arith) none_lower
