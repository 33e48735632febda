-- Laws of text put into a buffer.
use mathlib.Core.Path.{◌≡◌, refl, sym, ap, ◌∙◌}
use mathlib.Core.List.{List, [], ◌∷◌, ◌++◌, map, append-nil, append_assoc}
use Prim.Native.Nat.{ℕ, ◌+◌, ◌*◌, ◌≤◌, ◌<◌}
use native.Mathlib.Nat.{add-zero, mul-suc}
use native.Mathlib.Numerals.{add-one}
use native.Mathlib.Omega.{arith}
use lib.ListN.{length, get_or, take, length-append}
use lib.Seq.{take-suc}
use Rattle.io.specs.Counts.{IsPrefixLen}
use Rattle.io.proofs.Counting.{prefix_len_of_le}
use Rattle.octets.specs.Bytes.{part, put, flat}
use Rattle.octets.proofs.Puts.{length-put, put-put, part-put-same}
use Rattle.text_out.specs.Text.{Puts}

-- one text after the other
pub puts_then : (us vs xs ys zs : List ℕ) (at a r : ℕ) → Puts at us a xs ys → Puts a vs r ys zs → Puts at (us ++ vs) r xs zs
puts_then us vs xs ys zs at a r p q = (
  rw length-append (omega (arith, p.0, q.0)),
  q.1 ∙ rw (p.0, p.1) (put-put us vs xs at),
)

-- the same text by another name
pub puts-as : (us vs xs ys : List ℕ) (at r : ℕ) → us ≡ vs → Puts at us r xs ys → Puts at vs r xs ys
puts-as us vs xs ys at r e p = (p.0 ∙ ap (λ (l : List ℕ). at + length l) e, p.1 ∙ ap (λ (l : List ℕ). put at l xs) e)

-- what stands at the start of the buffer
pub puts-start : (us vs xs ys : List ℕ) (r : ℕ) → us ≡ vs → Puts 0 us r xs ys → r ≤ length xs → IsPrefixLen r ys × (take r ys ≡ vs)
unfolding part
puts-start us vs xs ys r e p h =
    let l : length ys ≡ length xs = ap length p.1 ∙ length-put 0 us xs in
    let n : r ≡ length us = omega (arith, p.0) in
    (prefix_len_of_le r ys (omega arith), rw (n, p.1) (part-put-same us xs 0 (omega (arith, n))) ∙ e)

-- ---- a text for each of the first elements, of at most w bytes
module _ {A : Type 0} (f : A → List ℕ) (w : ℕ) where
  flat-snoc : (xs : List A) (x : A) → flat (map f (xs ++ (x ∷ []))) ≡ flat (map f xs) ++ f x
  flat-snoc [] x = append-nil (f x)
  flat-snoc (y ∷ ys) x = ap (λ (l : List ℕ). f y ++ l) (flat-snoc ys x) ∙ sym (append_assoc (f y) (flat (map f ys)) (f x))

  -- those of i elements, up to end
  pub record Each (items : List A) (at : ℕ) (old new : List ℕ) (end i : ℕ) : Type 0 where
    pub short : end ≤ at + w * i
    pub puts : Puts at (flat (map f (take i items))) end old new

  pub each_none : (items : List A) (at : ℕ) (old : List ℕ) → Each items at old old at 0
  unfolding put
  each_none items at old = record { short = omega arith; puts = (sym (add-zero at), refl) }

  pub each_on : {items : List A} {at : ℕ} {old new next : List ℕ} {end r i : ℕ} (d : A) → i < length items
      → (r ≤ end + w) × Puts end (f (get_or items i d)) r new next → Each items at old new end i → Each items at old next r (i + 1)
  each_on {items} {at} {old} {new} {next} {end} {r} {i} d h p q =
      record {
        short = rw (add-one, mul-suc) (omega (arith, p.0, q.short));
        puts = puts-as _ _ _ _ _ _ (sym (rw (add-one, take-suc items i d h) (flat-snoc (take i items) (get_or items i d))))
            (puts_then _ _ _ _ _ _ _ _ q.puts p.1);
      }

  pub each-length : {items : List A} {at : ℕ} {old new : List ℕ} {end i : ℕ} → Each items at old new end i → length new ≡ length old
  each-length q = ap length q.puts.1 ∙ length-put _ _ _

  pub each_all : {items : List A} {at : ℕ} {old new : List ℕ} {end i : ℕ} (count : ℕ) → i ≤ count → count ≤ i → Each items at old new end i
      → (end ≤ at + w * count) × Puts at (flat (map f (take count items))) end old new
  each_all {items} {at} {old} {new} {end} {i} count h g q =
      let e : i ≡ count = omega arith in
      (rw e at q.short, rw e at q.puts)
