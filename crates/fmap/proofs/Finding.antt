-- From one signature to the next, and what is found.
use mathlib.Core.Path.{◌≡◌, refl, sym, ap, subst, ◌∙◌}
use Rattle.std.specs.Prelude.{Option as Maybe, Some, None, IfSome}
use Rattle.std.specs.Option.{option_map_or}
use mathlib.Core.Bool.{Bool, true, false, not, true≢false}
use mathlib.Core.List.{List}
use mathlib.Core.Option.{Option, none, some}
use Prim.Native.Nat.{ℕ, ◌+◌, ◌-◌, ◌≤◌, ◌<◌}
use native.Mathlib.Nat.{sub-zero}
use native.Mathlib.Omega.{arith}
use lib.ListN.{length, get_or, take, drop, length-take, length-drop}
use lib.Dec.{eqb, leb}
use borrow.Author.Tests.{lt-ltb, le-ltb, ltb-true, ltb-false, leb-true, leb-false, eqb-true, eqb-false}
use Rattle.octets.specs.Tests.{any}
use Rattle.octets.specs.Rows.{refusal}
use Rattle.octets.specs.Bytes.{part, same}
use Rattle.octets.proofs.Tests.{any_none}
use Rattle.octets.proofs.Parts.{get_d_part, rest-slice}
use Rattle.octets.proofs.Equal.{same_true, same_length}
use Rattle.octets.proofs.Rows.{pick_true, pick-false, passes}
use Rattle.octets.proofs.Bools.{or-il, or-ir, or-false-l, or-false-r, or-false-i, not_f}
use Rattle.fmap_rules.specs.declared.ImagePosition.{ImagePosition}
use Rattle.fmap_rules.specs.Map.{position, signature, signed, good_map}
use Rattle.fmap_rules.proofs.Good.{unsigned-bad}
use Rattle.fmap_rules.proofs.Signature.{signed_part}
use Rattle.fmap.specs.Lowest.{first_from, lowest, some_below}
use Rattle.fmap.specs.Find.{accepted, refused, reply, out_of_range, signed_at, find_rows, find_map}
use Rattle.fmap.proofs.Lowest.{first-skip, first-before, first-least, first-hit, first-bound, first-stop, first-end}

-- ---- the signature

pub signed-short : (image : List ℕ) (at : ℕ) → length image < at + 8 → signed_at image at ≡ false
unfolding signed_at part
signed-short image at h =
    signed_part image at
    ∙ same_length (part at 8 image) signature (λ e. let l = length-take 8 (drop at image) in let d = length-drop at image in omega (arith, e, l, d))

-- by the image's bytes from a position on, as a lent part
pub signed-slice : (image : List ℕ) (at : ℕ) (r t : Bool) → r ≡ signed (take (length image - at) (drop at image)) → r ≡ t → signed_at image at ≡ t
unfolding signed_at
signed-slice image at r t e q = sym (e ∙ ap signed (rest-slice at image)) ∙ q

-- eight bytes whose last is no byte of the signature hold no start of one
pub unsigned : (image : List ℕ) (i j : ℕ) → any (eqb (get_or image (i + 7) 0)) signature ≡ false → i ≤ j → j < i + 8 → signed_at image j ≡ false
unfolding signed_at
unsigned image i j h a b = signed_part image j ∙ go (same (part j 8 image) signature) refl
  where
    go : (t : Bool) → same (part j 8 image) signature ≡ t → t ≡ false
    go false w = refl
    go true w =
        let k = i + 7 - j in
        let e : j + k ≡ i + 7 = omega arith in
        let g : get_or image (i + 7) 0 ≡ get_or signature k 0 =
        ap (λ (x : ℕ). get_or image x 0) (sym e) ∙ sym (get_d_part image j 8 k (omega arith)) ∙ ap (λ (l : List ℕ). get_or l k 0) (same_true _ _ w) in
        absurd (eqb-false _ _ (any_none (eqb (get_or image (i + 7) 0)) signature 0 h k (omega arith)) g)

-- from its third byte to its sixth the signature has no underscore
underscore : ℕ → Bool
underscore k = eqb 95 (get_or signature k 0)

none_between : first_from 4 2 underscore ≡ 6
unfolding first_from underscore
none_between = refl

first-letter : (k : ℕ) → 2 ≤ k → k < 6 → eqb 95 (get_or signature k 0) ≡ false
unfolding underscore
first-letter k a b = first-before 4 2 underscore k a (omega (arith, none_between))

-- a byte of a signature
letter_at : (image : List ℕ) (at k : ℕ) → signed_at image at ≡ true → k < 8 → get_or image (at + k) 0 ≡ get_or signature k 0
unfolding signed_at
letter_at image at k e h =
    sym (get_d_part image at 8 k h) ∙ ap (λ (l : List ℕ). get_or l k 0) (same_true (part at 8 image) signature (sym (signed_part image at) ∙ e))

-- two signatures share two bytes at most
pub apart : (image : List ℕ) (at j : ℕ) → signed_at image at ≡ true → at < j → j < at + 6 → signed_at image j ≡ false
apart image at j e h k = go (signed_at image j) refl
  where
    clash : (a b : ℕ) → signed_at image j ≡ true → a < 8 → b < 8 → j + a ≡ at + b → eqb (get_or signature a 0) (get_or signature b 0) ≡ false → ⊥
    clash a b w la lb q d =
        eqb-false _ _ d (sym (letter_at image j a w la) ∙ ap (λ (x : ℕ). get_or image x 0) q ∙ letter_at image at b e lb)

    go : (t : Bool) → signed_at image j ≡ t → t ≡ false
    go false w = refl
    go true w = near (eqb j (at + 1)) refl
      where
        near : (u : Bool) → eqb j (at + 1) ≡ u → true ≡ false
        near true v = let q : j ≡ at + 1 = eqb-true _ _ v in absurd (clash 1 2 w (omega arith) (omega arith) (omega arith) refl)
        near false v =
            let q : j ≡ at + 1 → ⊥ = eqb-false _ _ v in
            let b = j - at in
            let d : eqb 95 (get_or signature b 0) ≡ false = first-letter b (omega arith) (omega arith) in
            absurd (clash 0 b w (omega arith) (omega arith) (omega arith) d)

-- ---- from one signature to the next

unsigned-none : (image : List ℕ) (at : ℕ) → signed_at image at ≡ false → good_map image at ≡ false
unfolding signed_at
unsigned-none image at e = unsigned-bad image at e

pub signed-whole : (image : List ℕ) (at : ℕ) → signed_at image at ≡ true → at + 8 ≤ length image
signed-whole image at e = go (leb (at + 8) (length image)) refl
  where
    go : (t : Bool) → leb (at + 8) (length image) ≡ t → at + 8 ≤ length image
    go true w = leb-true _ _ w
    go false w = absurd (true≢false (sym e ∙ signed-short image at (leb-false _ _ w)))

module _ (image : List ℕ) (from r : ℕ) (h : from ≤ length image) (e : r ≡ first_from (length image - from) from (signed_at image)) where
  -- no good map before the next signature
  pub next-good : first_from (length image - from) from (good_map image) ≡ first_from (length image - r) r (good_map image)
  next-good =
      let l : from ≤ r = omega (arith, first-least (length image - from) from (signed_at image)) in
      let u : r ≤ length image = omega (arith, first-bound (length image - from) from (signed_at image)) in
      let q : from + (r - from) ≡ r = omega arith in
      first-skip (r - from) (length image) from (good_map image) (omega arith)
      (λ j a b. unsigned-none image j (first-before (length image - from) from (signed_at image) j a (omega arith)))
      ∙ ap (λ (k : ℕ). first_from (length image - k) k (good_map image)) q

  pub next-signed : r < length image → signed_at image r ≡ true
  next-signed l = ap (signed_at image) e ∙ first-hit (length image - from) from (signed_at image) (omega arith)

-- ---- the rows of finding

module _ (image : List ℕ) where
  pub find-40 : out_of_range (length image) ≡ true → refused 40 ≡ find_map image
  unfolding find_map
  find-40 a = ap (λ (o : Option ℕ). reply o (position (lowest (length image) (good_map image)))) (sym (pick_true _ 40 _ a))

  module _ (a : out_of_range (length image) ≡ false) where
    pub find-41 : some_below (length image) (signed_at image) ≡ false → refused 41 ≡ find_map image
    unfolding find_map
    find-41 b = ap (λ (o : Option ℕ). reply o (position (lowest (length image) (good_map image)))) (sym (pick-false _ 40 _ a ∙ pick_true _ 41 _ (ap not b)))

    module _ (b : some_below (length image) (signed_at image) ≡ true) where
      pub find-42 : some_below (length image) (good_map image) ≡ false → refused 42 ≡ find_map image
      unfolding find_map
      find-42 d =
          ap (λ (o : Option ℕ). reply o (position (lowest (length image) (good_map image))))
          (sym (pick-false _ 40 _ a ∙ pick-false _ 41 _ (ap not b) ∙ pick_true _ 42 _ (ap not d)))

      pub find_at : some_below (length image) (good_map image) ≡ true → accepted (position (lowest (length image) (good_map image))) ≡ find_map image
      unfolding find_map
      find_at d =
          ap (λ (o : Option ℕ). reply o (position (lowest (length image) (good_map image))))
          (sym (pick-false _ 40 _ a ∙ pick-false _ 41 _ (ap not b) ∙ pick-false _ 42 _ (ap not d)))

pub too_short : (len : ℕ) → len < 98 → out_of_range len ≡ true
unfolding out_of_range
too_short len h = or-il _ _ (lt-ltb len 98 h)

pub too_long : (len : ℕ) → 16777216 < len → out_of_range len ≡ true
unfolding out_of_range
too_long len h = or-ir _ _ (lt-ltb 16777216 len h)

pub in-range : (len : ℕ) → 98 ≤ len → len ≤ 16777216 → out_of_range len ≡ false
unfolding out_of_range
in-range len a b = or-false-i _ _ (le-ltb len 98 a) (le-ltb 16777216 len b)

pub first-lowest : (image : List ℕ) (p : ℕ → Bool) (r : ℕ) → r ≡ first_from (length image - 0) 0 p → r ≡ lowest (length image) p
unfolding lowest
first-lowest image p r e = e ∙ ap (λ (k : ℕ). first_from k 0 p) (sub-zero (length image))

module _ (image : List ℕ) (p : ℕ → Bool) (r : ℕ) (e : r ≡ first_from (length image - 0) 0 p) where
  pub some-below : r < length image → some_below (length image) p ≡ true
  some-below h = lt-ltb (lowest (length image) p) (length image) (omega (arith, first-lowest image p r e))

  pub none_below : length image ≤ r → some_below (length image) p ≡ false
  none_below h = le-ltb (lowest (length image) p) (length image) (omega (arith, first-lowest image p r e))

-- what is told of the next signature, by whether there is one
module _ (n : ℕ) {o : Maybe ImagePosition} {r : ℕ} (e : option_map_or (λ p. p.0) o n ≡ r) where
  pub next-at : (p : ImagePosition) → o ≡ Some p → p.0 ≡ r
  next-at p q = sym (ap (λ (x : Maybe ImagePosition). option_map_or (λ p. p.0) x n) q) ∙ e

  pub next-none : o ≡ None → n ≡ r
  next-none q = sym (ap (λ (x : Maybe ImagePosition). option_map_or (λ p. p.0) x n) q) ∙ e

pub next-within : {o : Maybe ImagePosition} (n : ℕ) (p : ImagePosition) → o ≡ Some p → IfSome o (λ p. p.0 < n) → p.0 < n
next-within n p q h = subst (λ (x : Maybe ImagePosition). IfSome x (λ p. p.0 < n)) q h

-- what the loop of `find` knows at a position: no good map before it
pub record Looking (image : List ℕ) (at : ℕ) : Type 0 where
  pub bound : at ≤ length image
  pub rest-decides : lowest (length image) (good_map image) ≡ first_from (length image - at) at (good_map image)
  pub at-signed : at < length image → signed_at image at ≡ true

pub looking-starts : (image : List ℕ) (r : ℕ) → r ≡ first_from (length image - 0) 0 (signed_at image) → r ≤ length image → Looking image r
unfolding lowest
looking-starts image r e b =
    record {
      bound = b;
      rest-decides = ap (λ (k : ℕ). first_from k 0 (good_map image)) (sym (sub-zero (length image))) ∙ next-good image 0 r (omega arith) e;
      at-signed = next-signed image 0 r (omega arith) e;
    }

module _ (image : List ℕ) (at : ℕ) (l : Looking image at) where
  pub room : at < length image → at + 8 ≤ length image
  room h = signed-whole image at (l.at-signed h)

  pub looking-goes : (r : ℕ) → at < length image → good_map image at ≡ false → r ≡ first_from (length image - (at + 6)) (at + 6) (signed_at image)
      → r ≤ length image
      → Looking image r
  looking-goes r h g e b =
      let w = room h in
      record {
        bound = b;
        rest-decides = l.rest-decides ∙ first-skip 6 (length image) at (good_map image) (omega arith) none ∙ next-good image (at + 6) r (omega arith) e;
        at-signed = next-signed image (at + 6) r (omega arith) e;
      }
    where
      none : (j : ℕ) → at ≤ j → j < at + 6 → good_map image j ≡ false
      none j a b = here (eqb j at) refl
        where
          here : (t : Bool) → eqb j at ≡ t → good_map image j ≡ false
          here true w = ap (good_map image) (eqb-true _ _ w) ∙ g
          here false w = let q : j ≡ at → ⊥ = eqb-false _ _ w in unsigned-none image j (apart image at j (l.at-signed h) (omega arith) b)

  pub looking-hits : at < length image → good_map image at ≡ true → lowest (length image) (good_map image) ≡ at
  looking-hits h g = l.rest-decides ∙ first-stop (length image) at (good_map image) h g

  pub looking-ends : length image ≤ at → some_below (length image) (good_map image) ≡ false
  looking-ends h = le-ltb (lowest (length image) (good_map image)) (length image)
      (omega (arith, l.rest-decides ∙ first-end (length image) at (good_map image) h))

-- the position that is found
pub finds : (image : List ℕ) (at : ℕ) → out_of_range (length image) ≡ false → some_below (length image) (signed_at image) ≡ true
    → at < length image → lowest (length image) (good_map image) ≡ at → accepted (position at) ≡ find_map image
finds image at a s h e =
    ap (λ (k : ℕ). accepted (position k)) (sym e)
    ∙ find_at image a s (lt-ltb (lowest (length image) (good_map image)) (length image) (omega (arith, e)))

pub within : (len : ℕ) → out_of_range len ≡ false → (98 ≤ len) × (len ≤ 16777216)
unfolding out_of_range
within len w = (ltb-false len 98 (or-false-l _ _ w), ltb-false 16777216 len (or-false-r _ _ w))

-- ---- what is found is a good map, and none below it is

pub reply-accepted : {A : Type 0} (o : Option ℕ) (a b : A) → reply o a ≡ accepted b → (o ≡ none) × (a ≡ b)
reply-accepted none a b e = (refl, cc)
reply-accepted (some k) a b e = let z : ◌≡◌ {A = ℕ} 0 1 = cc in absurd (omega arith)

module _ (image : List ℕ) (p : ImagePosition) (e : find_map image ≡ accepted p) where
  opened : (refusal (find_rows image) ≡ none) × (position (lowest (length image) (good_map image)) ≡ p)
  unfolding find_map
  opened = reply-accepted (refusal (find_rows image)) (position (lowest (length image) (good_map image))) p e

  place : lowest (length image) (good_map image) ≡ p.0
  place = ap (λ (x : ImagePosition). x.0) opened.1

  below : lowest (length image) (good_map image) < length image
  below = ltb-true _ _ (not_f _ (passes 42 (find_rows image) opened.0))

  pub found-length : (98 ≤ length image) × (length image ≤ 16777216)
  found-length = within (length image) (passes 40 (find_rows image) opened.0)

  pub found-good : good_map image p.0 ≡ true
  unfolding lowest
  found-good = ap (good_map image) (sym place) ∙ first-hit (length image) 0 (good_map image) (omega (arith, below))

  pub found-lowest : (j : ℕ) → j < p.0 → good_map image j ≡ false
  unfolding lowest
  found-lowest j h = first-before (length image) 0 (good_map image) j (omega arith) (omega (arith, place))
