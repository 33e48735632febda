-- What is found by a name, by the image's bytes.
use mathlib.Core.Path.{◌≡◌, sym, ap, subst, ◌∙◌}
use mathlib.Core.Logic.{◌⊎◌, inl, inr}
use mathlib.Core.Bool.{Bool, true, false, cond}
use mathlib.Core.List.{List}
use mathlib.Core.Option.{none, some}
use Prim.Native.Nat.{ℕ, ◌+◌, ◌≤◌, ◌<◌}
use native.Mathlib.Nat.{add-zero}
use native.Mathlib.Omega.{arith}
use lib.Dec.{ltb}
use lib.ListN.{length, get_or}
use lib.Seq.{ext_get_or}
use borrow.Author.Tests.{ltb-true, ltb-false, lt-ltb}
use Rattle.octets.specs.Tests.{find_ix}
use Rattle.octets.specs.Bytes.{part, rest, same}
use Rattle.octets.proofs.Bools.{bool_cases}
use Rattle.octets.proofs.Tests.{any-make, find_ix-get}
use Rattle.octets.proofs.Parts.{length_part, get_d_part, part-part}
use Rattle.octets.proofs.Equal.{same_true, same_refl}
use Rattle.fmap_rules.specs.declared.ImagePosition.{ImagePosition}
use Rattle.fmap_rules.specs.declared.Area.{Area}
use Rattle.fmap_rules.specs.Map.{areas_of, blank_area, name_length, legal_name, good_map}
use Rattle.fmap.specs.Find.{accepted, find_map}
use Rattle.fmap.specs.Areas.{called, index_by, index_named}
use Rattle.fmap.specs.InBytes.{record_of, count_in, name_in, CalledAt}
use Rattle.fmap.specs.Claims.{NamedByBytes}
use Rattle.fmap.proofs.Finding.{found-good}
use Rattle.fmap.proofs.Named.{first_passes, picked}
use Rattle.fmap.proofs.NameBytes.{wide, few, letter, nothing}
use Rattle.fmap.proofs.InBytes.{there as listed-there, back, name_is, area-room, area-legal, differ}

-- a byte of a name that stands there
byte_of : (image : List ℕ) (r : ℕ) (name : List ℕ) → part (r + 8) (length name) image ≡ name
    → (i : ℕ) → i < length name → get_or image (r + 8 + i) 0 ≡ get_or name i 0
byte_of image r name s i g = sym (get_d_part image (r + 8) (length name) i g) ∙ ap (λ (x : List ℕ). get_or x i 0) s

-- the record that begins at r has a name whose bytes before the zeros are these
called_at : (image : List ℕ) (r : ℕ) (name : List ℕ) → r + 8 + 32 ≤ length image → legal_name (name_in image r) ≡ true
    → part 0 (name_length (name_in image r)) (name_in image r) ≡ name → CalledAt image r name
called_at image r name h e q =
    let k = name_length (name_in image r) in
    let f : k ≤ 31 = few image (r + 8) h e in
    let w : length (name_in image r) ≡ 32 = wide image (r + 8) h e in
    let l : length name ≡ k = ap length (sym q) ∙ length_part (name_in image r) 0 k (omega arith) in
    let s : part (r + 8) (length name) image ≡ name =
    ap (λ (n : ℕ). part (r + 8) n image) l
    ∙ ap (λ (n : ℕ). part n k image) (sym (add-zero (r + 8)))
    ∙ sym (part-part 0 k (r + 8) 32 image (omega arith))
    ∙ q in
    record {
      letters = s;
      no_zero = λ i g z.
          let b : get_or image (r + 8 + i) 0 ≡ get_or name i 0 = byte_of image r name s i g in
          let c = (letter image (r + 8) h e i (omega arith)).0 in
          omega arith;
      then_zero = ap (λ (n : ℕ). get_or image (r + 8 + n) 0) l ∙ nothing image (r + 8) h e k (omega arith) (omega arith);
    }

-- and what stands there up to a zero, without one, is those bytes
module _ (image : List ℕ) (r : ℕ) (name : List ℕ) (h : r + 8 + 32 ≤ length image) (e : legal_name (name_in image r) ≡ true) (c : CalledAt image r name) where
  long : length name ≡ name_length (name_in image r)
  long = go (bool_cases (ltb (length name) (name_length (name_in image r)))) (bool_cases (ltb (name_length (name_in image r)) (length name)))
    where
      go : (ltb (length name) (name_length (name_in image r)) ≡ true) ⊎ (ltb (length name) (name_length (name_in image r)) ≡ false)
          → (ltb (name_length (name_in image r)) (length name) ≡ true) ⊎ (ltb (name_length (name_in image r)) (length name) ≡ false)
          → length name ≡ name_length (name_in image r)
      go (inl a) b =
          let x = (letter image (r + 8) h e (length name) (ltb-true _ _ a)).0 in
          let z = c.then_zero in
          absurd (omega arith)
      go (inr a) (inl b) =
          let w = ltb-true (name_length (name_in image r)) (length name) b in
          let f : name_length (name_in image r) ≤ 31 = few image (r + 8) h e in
          absurd (c.no_zero (name_length (name_in image r)) w
          (sym (byte_of image r name c.letters (name_length (name_in image r)) w)
          ∙ nothing image (r + 8) h e (name_length (name_in image r)) (omega arith) (omega arith)))
      go (inr a) (inr b) =
          let x = ltb-false (length name) (name_length (name_in image r)) a in
          let y = ltb-false (name_length (name_in image r)) (length name) b in
          omega arith

  spelled : part 0 (name_length (name_in image r)) (name_in image r) ≡ name
  spelled =
      let l = long in
      let f : name_length (name_in image r) ≤ 31 = few image (r + 8) h e in
      part-part 0 (name_length (name_in image r)) (r + 8) 32 image (omega arith)
      ∙ ap (λ (n : ℕ). part n (name_length (name_in image r)) image) (add-zero (r + 8))
      ∙ ap (λ (n : ℕ). part (r + 8) n image) (sym l)
      ∙ c.letters

  -- the 32 bytes, each by the name
  byte-is : (i : ℕ) → i < 32 → get_or (name_in image r) i 0 ≡ cond (ltb i (length name)) (get_or name i 0) 0
  byte-is i g = get_d_part image (r + 8) 32 i g ∙ go (bool_cases (ltb i (length name)))
    where
      go : (ltb i (length name) ≡ true) ⊎ (ltb i (length name) ≡ false) → get_or image (r + 8 + i) 0 ≡ cond (ltb i (length name)) (get_or name i 0) 0
      go (inl a) = rw a (byte_of image r name c.letters i (ltb-true i (length name) a))
      go (inr a) =
          let x = ltb-false i (length name) a in
          let l = long in
          rw a (nothing image (r + 8) h e i (omega arith) g)

module _ (image name : List ℕ) (p : ImagePosition) (k : ℕ) (f : find_map image ≡ accepted p) (e : index_named image name ≡ accepted (some k)) where
  abbrev areas : List Area
  areas = areas_of (rest p.0 image)

  good : good_map image p.0 ≡ true
  good = found-good image p f

  chosen : (ltb (find_ix (called name) areas) (length areas) ≡ true) × (find_ix (called name) areas ≡ k)
  unfolding index_named
  chosen = picked (find_ix (called name) areas) (length areas) k (sym (ap (index_by image (find_ix (called name))) f) ∙ e)

  there : find_ix (called name) areas < length areas
  there = ltb-true _ _ chosen.0

  in_map : k < count_in image p.0
  in_map = back image p.0 good k (subst (λ (i : ℕ). i < length areas) chosen.1 there)

  hit : called name (get_or areas k blank_area) ≡ true
  hit = subst (λ (i : ℕ). called name (get_or areas i blank_area) ≡ true) chosen.1 (first_passes (called name) areas there)

  is-called : CalledAt image (record_of p.0 k) name
  unfolding called
  is-called =
      called_at image (record_of p.0 k) name (area-room image p.0 good k in_map) (area-legal image p.0 good k in_map)
      (same_true _ _ (ap (λ (x : List ℕ). same (part 0 (name_length x) x) name) (sym (name_is image p.0 good k in_map)) ∙ hit))

-- ---- record k has the name: it is the one that is found

module _ (image name : List ℕ) (p : ImagePosition) (k : ℕ) (found : find_map image ≡ accepted p) (b : k < count_in image p.0)
    (c : CalledAt image (record_of p.0 k) name) where
  abbrev listed : List Area
  listed = areas_of (rest p.0 image)

  is-good : good_map image p.0 ≡ true
  is-good = found-good image p found

  in_list : k < length listed
  in_list = listed-there image p.0 is-good k b

  passes : called name (get_or listed k blank_area) ≡ true
  unfolding called
  passes =
      ap (λ (x : List ℕ). same (part 0 (name_length x) x) name) (name_is image p.0 is-good k b)
      ∙ ap (λ (x : List ℕ). same x name)
      (spelled image (record_of p.0 k) name (area-room image p.0 is-good k b) (area-legal image p.0 is-good k b) c)
      ∙ same_refl name

  first : (find_ix (called name) listed < length listed) × (called name (get_or listed (find_ix (called name) listed) blank_area) ≡ true)
  first = find_ix-get (called name) listed blank_area (any-make (called name) listed blank_area k in_list passes)

  -- another record of that name would have the same 32 bytes
  one_name : (j : ℕ) → j < count_in image p.0 → called name (get_or listed j blank_area) ≡ true
      → name_in image (record_of p.0 j) ≡ name_in image (record_of p.0 k)
  unfolding called
  one_name j a q =
      let room = area-room image p.0 is-good in
      let legal = area-legal image p.0 is-good in
      let d =
      called_at image (record_of p.0 j) name (room j a) (legal j a)
      (same_true _ _ (ap (λ (x : List ℕ). same (part 0 (name_length x) x) name) (sym (name_is image p.0 is-good j a)) ∙ q)) in
      let wj = wide image (record_of p.0 j + 8) (room j a) (legal j a) in
      let wk = wide image (record_of p.0 k + 8) (room k b) (legal k b) in
      ext_get_or 0 (name_in image (record_of p.0 j)) (name_in image (record_of p.0 k)) (wj ∙ sym wk)
      (λ i g.
      byte-is image (record_of p.0 j) name (room j a) (legal j a) d i (omega arith)
      ∙ sym (byte-is image (record_of p.0 k) name (room k b) (legal k b) c i (omega arith)))

  first-is : find_ix (called name) listed ≡ k
  first-is = go (bool_cases (ltb i k)) (bool_cases (ltb k i))
    where
      i : ℕ
      i = find_ix (called name) listed

      a : i < count_in image p.0
      a = back image p.0 is-good i first.0

      go : (ltb i k ≡ true) ⊎ (ltb i k ≡ false) → (ltb k i ≡ true) ⊎ (ltb k i ≡ false) → i ≡ k
      go (inl x) y = absurd (differ image p.0 is-good i k (ltb-true _ _ x) b (one_name i a first.1))
      go (inr x) (inl y) = absurd (differ image p.0 is-good k i (ltb-true _ _ y) a (sym (one_name i a first.1)))
      go (inr x) (inr y) = let u = ltb-false i k x in let v = ltb-false k i y in omega arith

  is-found : index_named image name ≡ accepted (some k)
  unfolding index_named
  is-found =
      ap (index_by image (find_ix (called name))) found
      ∙ ap (λ (i : ℕ). accepted (cond (ltb i (length listed)) (some i) none)) first-is
      ∙ ap (λ (t : Bool). accepted (cond t (some k) none)) (lt-ltb k (length listed) in_list)

pub named-by-bytes : NamedByBytes
named-by-bytes image name p k f =
    (λ e. (in_map image name p k f e, is-called image name p k f e), λ w. is-found image name p k f w.0 w.1)
