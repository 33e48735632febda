-- Fields written at their byte positions read back; the fields of an entry that a call makes or changes.
use mathlib.Core.Path.{◌≡◌, refl, sym, ap, ◌∙◌}
use mathlib.Core.Bool.{Bool, true}
use mathlib.Core.List.{List, [], ◌∷◌, ◌++◌}
use Prim.Native.Nat.{ℕ, zero, suc, ◌+◌, ◌-◌, ◌*◌, ◌^◌, ◌≤◌, ◌<◌}
use native.Mathlib.Nat.{not-suc-le-zero, le_of_suc-le-suc}
use native.Mathlib.Omega.{arith}
use lib.Dec.{leb}
use lib.ListN.{length, get_or, drop, length-append}
use borrow.Author.Tests.{leb-true}
use Rattle.octets.specs.Tests.{◌and◌, all}
use Rattle.octets.specs.Bytes.{le, unle, part, put, zeros}
use Rattle.octets.proofs.Bools.{and_l, and_r}
use Rattle.octets.proofs.Numbers.{length-le, unle-le}
use Rattle.octets.proofs.Parts.{length-zeros}
use Rattle.octets.proofs.Puts.{length-put, then, put_all, put-comm, part-put-below, part-put-above, part-put-same}
use Rattle.gpt_model.specs.Table.{write_all, type_of, unique_of, first_of, last_of, attributes_of, partition_name_of, name_bytes}
use Rattle.gpt_model.specs.declared.NewPartition.{NewPartition}
use Rattle.gpt_model.specs.Calls.{new_fields, new_entry}

pub part-put-at : (vs xs : List ℕ) (at k : ℕ) → length vs ≡ k → at + k ≤ length xs → part at k (put at vs xs) ≡ vs
part-put-at vs xs at k e h =
    ap (λ (m : ℕ). part at m (put at vs xs)) (sym e) ∙ part-put-same vs xs at (omega arith)

-- ---- fields

pub length-write_all : (fs : List (ℕ × List ℕ)) (xs : List ℕ) → length (write_all fs xs) ≡ length xs
length-write_all [] xs = refl
length-write_all (f ∷ fs) xs = length-write_all fs (put f.0 f.1 xs) ∙ length-put f.0 f.1 xs

-- every field stands at k or behind
abbrev pub behind : ℕ → List (ℕ × List ℕ) → Bool
behind k fs = all (λ f. leb k f.0) fs

pub part-behind : (fs : List (ℕ × List ℕ)) (xs : List ℕ) (at k : ℕ) → behind (at + k) fs ≡ true → part at k (write_all fs xs) ≡ part at k xs
part-behind [] xs at k h = refl
part-behind (f ∷ fs) xs at k h =
    part-behind fs (put f.0 f.1 xs) at k (and_r _ _ h) ∙ part-put-above f.1 xs at k f.0 (leb-true _ _ (and_l _ _ h))

-- field i reads back where all later ones stand behind it
pub field-reads : (fs : List (ℕ × List ℕ)) (xs : List ℕ) (i at k : ℕ) (vs : List ℕ) → i < length fs → get_or fs i (0, []) ≡ (at, vs)
    → behind (at + k) (drop (suc i) fs) ≡ true → length vs ≡ k → at + k ≤ length xs → part at k (write_all fs xs) ≡ vs
field-reads [] xs i at k vs h e b l r = absurd (not-suc-le-zero h)
field-reads (f ∷ fs) xs zero at k vs h e b l r =
    part-behind fs (put f.0 f.1 xs) at k b
    ∙ ap (λ (g : ℕ × List ℕ). part at k (put g.0 g.1 xs)) e
    ∙ part-put-at vs xs at k l r
field-reads (f ∷ fs) xs (suc i) at k vs h e b l r =
    field-reads fs (put f.0 f.1 xs) i at k vs (le_of_suc-le-suc h) e b l (omega (arith, length-put f.0 f.1 xs))

-- a write before all fields may be made first
pub put-before : (fs : List (ℕ × List ℕ)) (vs xs : List ℕ) (at k : ℕ) → length vs ≡ k → behind (at + k) fs ≡ true
    → put at vs (write_all fs xs) ≡ write_all fs (put at vs xs)
put-before [] vs xs at k e h = refl
put-before (f ∷ fs) vs xs at k e h =
    let w : at + k ≤ f.0 = leb-true _ _ (and_l _ _ h) in
    put-before fs vs (put f.0 f.1 xs) at k e (and_r _ _ h)
    ∙ ap (write_all fs) (sym (put-comm vs f.1 xs at f.0 (omega arith)))

-- ---- a new entry

pub length-name : (units : List ℕ) → length (name_bytes units) ≡ 2 * length units
length-name [] = refl
length-name (u ∷ us) = length-append (le 2 u) (name_bytes us) ∙ omega (arith, length-le 2 u, length-name us)

module _ (p : NewPartition) (s : ℕ) where
  abbrev fs : List (ℕ × List ℕ)
  fs = new_fields p s

  pub length-new : length (new_entry p s) ≡ 128
  length-new = length-write_all fs (zeros 128) ∙ length-zeros 128

  pub new-type : length p.kind ≡ 16 → type_of (new_entry p s) ≡ p.kind
  unfolding ◌and◌
  new-type e = field-reads fs (zeros 128) 0 0 16 p.kind (omega arith) refl refl e (omega (arith, length-zeros 128))

  pub new-unique : length p.unique ≡ 16 → unique_of (new_entry p s) ≡ p.unique
  unfolding ◌and◌
  new-unique e = field-reads fs (zeros 128) 1 16 16 p.unique (omega arith) refl refl e (omega (arith, length-zeros 128))

  pub new-first-bytes : part 32 8 (new_entry p s) ≡ le 8 s
  unfolding ◌and◌
  new-first-bytes = field-reads fs (zeros 128) 2 32 8 (le 8 s) (omega arith) refl refl (length-le 8 s) (omega (arith, length-zeros 128))

  pub new-first : s < 256 ^ 8 → first_of (new_entry p s) ≡ s
  new-first h = ap unle new-first-bytes ∙ unle-le 8 s h

  pub new-last-bytes : part 40 8 (new_entry p s) ≡ le 8 (s + p.size - 1)
  unfolding ◌and◌
  new-last-bytes =
      field-reads fs (zeros 128) 3 40 8 (le 8 (s + p.size - 1)) (omega arith) refl refl (length-le 8 (s + p.size - 1)) (omega (arith, length-zeros 128))

  pub new-last : s + p.size - 1 < 256 ^ 8 → last_of (new_entry p s) ≡ s + p.size - 1
  new-last h = ap unle new-last-bytes ∙ unle-le 8 (s + p.size - 1) h

  pub new-attributes : part 48 8 (new_entry p s) ≡ le 8 p.attributes
  unfolding ◌and◌
  new-attributes =
      field-reads fs (zeros 128) 4 48 8 (le 8 p.attributes) (omega arith) refl refl (length-le 8 p.attributes) (omega (arith, length-zeros 128))

  pub new-name : length p.name ≡ 36 → partition_name_of (new_entry p s) ≡ name_bytes p.name
  new-name e =
      field-reads fs (zeros 128) 5 56 72 (name_bytes p.name) (omega arith) refl refl (length-name p.name ∙ omega arith) (omega (arith, length-zeros 128))

  -- its 128 bytes are the fields, one behind the other
  pub new-whole : length p.kind ≡ 16 → length p.unique ≡ 16 → length p.name ≡ 36
      → new_entry p s ≡ p.kind ++ p.unique ++ le 8 s ++ le 8 (s + p.size - 1) ++ le 8 p.attributes ++ name_bytes p.name
  new-whole lt lu ln =
      let z = zeros 128 in
      let x1 = p.kind in
      let x2 = x1 ++ p.unique in
      let x3 = x2 ++ le 8 s in
      let x4 = x3 ++ le 8 (s + p.size - 1) in
      let x5 = x4 ++ le 8 p.attributes in
      let l2 : length x2 ≡ 32 = length-append x1 p.unique ∙ omega arith in
      let l3 : length x3 ≡ 40 = length-append x2 (le 8 s) ∙ omega (arith, length-le 8 s) in
      let l4 : length x4 ≡ 48 = length-append x3 (le 8 (s + p.size - 1)) ∙ omega (arith, length-le 8 (s + p.size - 1)) in
      let l5 : length x5 ≡ 56 = length-append x4 (le 8 p.attributes) ∙ omega (arith, length-le 8 p.attributes) in
      let l6 : length (x5 ++ name_bytes p.name) ≡ 128 = length-append x5 (name_bytes p.name) ∙ omega (arith, length-name p.name) in
      let p2 = then z x1 _ p.unique _ 0 16 refl refl (omega arith) in
      let p3 = then z x2 _ (le 8 s) _ 0 32 p2 refl (omega (arith, l2)) in
      let p4 = then z x3 _ (le 8 (s + p.size - 1)) _ 0 40 p3 refl (omega (arith, l3)) in
      let p5 = then z x4 _ (le 8 p.attributes) _ 0 48 p4 refl (omega (arith, l4)) in
      then z x5 _ (name_bytes p.name) _ 0 56 p5 refl (omega (arith, l5)) ∙ put_all _ z (l6 ∙ sym (length-zeros 128))

-- ---- an entry whose last block is set, and one whose name is set

module _ (e : List ℕ) (len : length e ≡ 128) (l : ℕ) where
  abbrev sized : List ℕ
  sized = put 40 (le 8 l) e

  pub length-sized : length sized ≡ 128
  length-sized = length-put 40 (le 8 l) e ∙ len

  pub sized-type : type_of sized ≡ type_of e
  sized-type = part-put-above (le 8 l) e 0 16 40 (omega arith)

  pub sized-unique : unique_of sized ≡ unique_of e
  sized-unique = part-put-above (le 8 l) e 16 16 40 (omega arith)

  pub sized-first : first_of sized ≡ first_of e
  sized-first = ap unle (part-put-above (le 8 l) e 32 8 40 (omega arith))

  pub sized-last : l < 256 ^ 8 → last_of sized ≡ l
  sized-last h = ap unle (part-put-at (le 8 l) e 40 8 (length-le 8 l) (omega arith)) ∙ unle-le 8 l h

  pub sized-attributes : attributes_of sized ≡ attributes_of e
  sized-attributes = ap unle (part-put-below (le 8 l) e 48 8 40 (omega (arith, length-le 8 l)))

  pub sized-name : partition_name_of sized ≡ partition_name_of e
  sized-name = part-put-below (le 8 l) e 56 72 40 (omega (arith, length-le 8 l))

-- bytes behind the last block
module _ (e : List ℕ) (bytes : List ℕ) (at : ℕ) (behind : 48 ≤ at) where
  pub behind-type : type_of (put at bytes e) ≡ type_of e
  behind-type = part-put-above bytes e 0 16 at (omega arith)

  pub behind-unique : unique_of (put at bytes e) ≡ unique_of e
  behind-unique = part-put-above bytes e 16 16 at (omega arith)

  pub behind-first : first_of (put at bytes e) ≡ first_of e
  behind-first = ap unle (part-put-above bytes e 32 8 at (omega arith))

  pub behind-last : last_of (put at bytes e) ≡ last_of e
  behind-last = ap unle (part-put-above bytes e 40 8 at (omega arith))

module _ (e : List ℕ) (len : length e ≡ 128) (bytes : List ℕ) where
  abbrev named : List ℕ
  named = put 56 bytes e

  pub length-named : length named ≡ 128
  length-named = length-put 56 bytes e ∙ len

  pub named-attributes : attributes_of named ≡ attributes_of e
  named-attributes = ap unle (part-put-above bytes e 48 8 56 (omega arith))

  pub named-name : length bytes ≡ 72 → partition_name_of named ≡ bytes
  named-name l = part-put-at bytes e 56 72 l (omega arith)
