-- Attribute bits: which numbers offend a rule, bit by bit and by one division, which is what code asks, and which used entry is the first to offend.
use mathlib.Core.Path.{◌≡◌, sym, ap, subst, ◌∙◌}
use mathlib.Core.Logic.{◌⊎◌, inl, inr, ⊎_elim, ◌≢◌, ◌↔◌}
use mathlib.Core.Bool.{Bool, true, false, not, cond}
use mathlib.Core.List.{List, []}
use Prim.Native.Nat.{ℕ, zero, suc, ◌+◌, ◌-◌, ◌*◌, ◌/◌, ◌%◌, ◌^◌, ◌≤◌, ◌<◌}
use native.Mathlib.Nat.{mod-one, mod-lt, pow-suc, div-add-mod', div-div-eq-div-mul, div-eq_of_lt-le, suc-mul}
use native.Mathlib.Decide.{ℕ_discrete, dec_lt}
use native.Mathlib.Omega.{arith}
use lib.Dec.{eqb, lit<}
use lib.ListN.{length}
use lib.Arith.{mod-mul}
use borrow.Author.Tests.{eqb-true, eqb-false, eq-eqb, ne_eqb}
use Rattle.octets.specs.Tests.{◌and◌, any, find_ix}
use Rattle.octets.proofs.Bools.{and_l, and_r, and_i, and-false-l, and-t, bool_cases, not_t, clash}
use Rattle.octets.proofs.Tests.{any_none, find_ix-get, find_ix-before}
use Rattle.octets.proofs.Chunks.{length-chunks}
use Rattle.gpt_model.specs.Table.{entries}
use Rattle.gpt_model.specs.Ranges.{all_from}
use Rattle.gpt_model.specs.Attributes.{bit_of, lowest_bit, offends, used_offends, first_offending}
use Rattle.gpt_model.specs.declared.Rule.{Rule}
use Rattle.gpt_model.specs.declared.Rule.TheVariants.{Present, Earlier}
use Rattle.gpt_model.specs.Stored.{WantsZero, BitSet, BreaksRule, EntryOffends, NoneOffends}
use Rattle.gpt_model.specs.AttributeClaims.{OffendsByBits, StringAttributesPass}
use Rattle.gpt_model.proofs.Room.{all_from-get, all_from-fails}
use Rattle.gpt_model.proofs.Entries.{entry_at}
use Rattle.gpt_model.proofs.StoredTable.{used-is, attributes-is}

-- ---- one bit

pow_pos : (k : ℕ) → 0 < 2 ^ k
pow_pos zero = lit< tt
pow_pos (suc k) = rw pow-suc (let h : 0 < 2 ^ k = pow_pos k in omega arith)

bit-set : (b x : ℕ) → (bit_of b x ≡ 1) ↔ BitSet b x
bit-set b x = (to, from)
  where
    to : bit_of b x ≡ 1 → BitSet b x
    to e =
        let y : ℕ = x / 2 ^ b in
        let odd : y ≡ 2 * (y / 2) + 1 = omega arith in
        (y / 2, x % 2 ^ b, sym (div-add-mod' x (2 ^ b)) ∙ ap (λ (k : ℕ). k * 2 ^ b + x % 2 ^ b) odd, mod-lt x (pow_pos b))

    from : BitSet b x → bit_of b x ≡ 1
    from w =
        let k : ℕ = 2 * w.0 + 1 in
        let is : x ≡ k * 2 ^ b + w.1 = w.2 in
        let less : w.1 < 2 ^ b = w.3 in
        let next = suc-mul k (2 ^ b) in
        let quotient : x / 2 ^ b ≡ k = div-eq_of_lt-le (2 ^ b) (omega arith) (omega arith) in
        omega arith

-- ---- a number offends a rule

wants : (rule : Rule) (b : ℕ) → WantsZero rule b ↔ ((lowest_bit rule ≤ b) × (b < lowest_bit rule + (48 - lowest_bit rule)))
wants Present b = (λ w. (w.0, let h = w.1 in omega arith), λ w. (w.0, let h = w.1 in omega arith))
wants Earlier b = (λ w. (w.0, let h = w.1 in omega arith), λ w. (w.0, let h = w.1 in omega arith))

module _ (rule : Rule) (x : ℕ) where
  abbrev all_zero : Bool
  all_zero = all_from (λ i. eqb (bit_of i x) 0) (lowest_bit rule) (48 - lowest_bit rule)

  breaks-get : all_zero ≡ false → BreaksRule rule x
  breaks-get e =
      let w = all_from-fails (λ i. eqb (bit_of i x) 0) (lowest_bit rule) (48 - lowest_bit rule) e in
      let n : bit_of w.0 x ≢ 0 = eqb-false (bit_of w.0 x) 0 w.3 in
      let l : bit_of w.0 x < 2 = mod-lt (x / 2 ^ w.0) (lit< tt) in
      (w.0, (wants rule w.0).1 (w.1, w.2), (bit-set w.0 x).0 (omega arith))

  breaks-make : BreaksRule rule x → all_zero ≡ true → ⊥
  breaks-make w e =
      let v = (wants rule w.0).0 w.1 in
      let z : bit_of w.0 x ≡ 0 = eqb-true _ _ (all_from-get (λ i. eqb (bit_of i x) 0) (lowest_bit rule) (48 - lowest_bit rule) e w.0 v.0 v.1) in
      let one = (bit-set w.0 x).1 w.2 in
      absurd (omega arith)

pub offends_by_bits : OffendsByBits
unfolding offends
offends_by_bits rule x =
    (λ e. breaks-get rule x (not_t _ e), λ w. ⊎_elim (λ q. absurd (breaks-make rule x w q)) (λ q. ap not q) (bool_cases (all_zero rule x)))

pub keeps-iff : (rule : Rule) (x : ℕ) → (offends rule x ≡ false) ↔ (¬ BreaksRule rule x)
keeps-iff rule x = (
  λ e w. clash ((offends_by_bits rule x).1 w) e,
  λ n. ⊎_elim (λ q. absurd (n ((offends_by_bits rule x).0 q))) (λ q. q) (bool_cases (offends rule x)),
)

-- k4: A table passing the earlier rule passes the present one.
pub earlier-breaks : (x : ℕ) → BreaksRule Present x → BreaksRule Earlier x
earlier-breaks x w = (w.0, (let l = w.1.0 in omega arith, w.1.1), w.2)

pub earlier-keeps : (x : ℕ) → offends Earlier x ≡ false → offends Present x ≡ false
earlier-keeps x e = (keeps-iff Present x).1 (λ w. (keeps-iff Earlier x).0 e (earlier-breaks x w))

-- ---- the k bits from lo on, by one division

both_zero : (p q : ℕ) → Dec (p ≡ 0) → Dec (q ≡ 0) → (eqb p 0 and eqb q 0) ≡ eqb (q * 2 + p) 0
both_zero p q (yes a) (yes b) = and_i _ _ (eq-eqb p 0 a) (eq-eqb q 0 b) ∙ sym (eq-eqb (q * 2 + p) 0 (omega arith))
both_zero p q (yes a) (no b) = sym (and-t (eq-eqb p 0 a) (sym (ne_eqb q 0 b))) ∙ sym (ne_eqb (q * 2 + p) 0 (λ z. b (omega arith)))
both_zero p q (no a) d = and-false-l _ _ (ne_eqb p 0 a) ∙ sym (ne_eqb (q * 2 + p) 0 (λ z. a (omega arith)))

bits-by-division : (x lo k : ℕ) → all_from (λ i. eqb (bit_of i x) 0) lo k ≡ eqb (x / 2 ^ lo % 2 ^ k) 0
unfolding all_from
bits-by-division x lo zero = sym (eq-eqb _ 0 (mod-one (x / 2 ^ lo)))
bits-by-division x lo (suc k) =
    let y : ℕ = x / 2 ^ lo in
    let half : x / 2 ^ suc lo ≡ x / 2 ^ lo / 2 = ap (λ (d : ℕ). x / d) (pow-suc 2 lo) ∙ sym (div-div-eq-div-mul x (2 ^ lo) 2) in
    ap (λ (z : Bool). eqb (y % 2) 0 and z) (bits-by-division x (suc lo) k ∙ ap (λ (z : ℕ). eqb (z % 2 ^ k) 0) half)
    ∙ both_zero (y % 2) (y / 2 % 2 ^ k) (ℕ_discrete (y % 2) 0) (ℕ_discrete (y / 2 % 2 ^ k) 0)
    ∙ ap (λ (z : ℕ). eqb z 0) (sym (ap (λ (d : ℕ). y % d) (pow-suc 2 k) ∙ mod-mul y (pow_pos k) (lit< tt)))

pub present-is : (x : ℕ) → offends Present x ≡ not (eqb (x / 8 % 35184372088832) 0)
unfolding offends
present-is x = ap not (bits-by-division x 3 45)

pub earlier-is : (x : ℕ) → offends Earlier x ≡ not (eqb (x / 2 % 140737488355328) 0)
unfolding offends
earlier-is x = ap not (bits-by-division x 1 47)

-- what stands above 64 bits is not looked at
pub offends-low : (rule : Rule) (x : ℕ) → offends rule (x % 256 ^ 8) ≡ offends rule x
offends-low Present x =
    let is : x % 18446744073709551616 / 8 % 35184372088832 ≡ x / 8 % 35184372088832 = omega arith in
    present-is (x % 256 ^ 8) ∙ ap (λ (y : ℕ). not (eqb y 0)) is ∙ sym (present-is x)
offends-low Earlier x =
    let is : x % 18446744073709551616 / 2 % 140737488355328 ≡ x / 2 % 140737488355328 = omega arith in
    earlier-is (x % 256 ^ 8) ∙ ap (λ (y : ℕ). not (eqb y 0)) is ∙ sym (earlier-is x)

pub string_attributes_pass : StringAttributesPass
string_attributes_pass = (present-is 0, present-is 4)

-- ---- the entries of a table

module _ (rule : Rule) (es : List ℕ) where
  pub offends-is : (i : ℕ) → i < 128 → (used_offends rule (entry_at es i) ≡ true) ↔ EntryOffends rule es i
  offends-is i h = (
    λ e. (
      h,
      sym (used-is es i h) ∙ not_t _ (and_l _ _ e),
      (offends_by_bits rule _).0 (ap (offends rule) (sym (attributes-is es i h)) ∙ and_r _ _ e),
    ),
    λ w. and_i _ _ (ap not (used-is es i h ∙ w.1)) (ap (offends rule) (attributes-is es i h) ∙ (offends_by_bits rule _).1 w.2),
  )

  pub keeps-is : (i : ℕ) → i < 128 → used_offends rule (entry_at es i) ≡ false → ¬ EntryOffends rule es i
  keeps-is i h e w = clash ((offends-is i h).1 w) e

  abbrev First : ℕ → Type 0
  First i = EntryOffends rule es i × ((j : ℕ) → j < i → ¬ EntryOffends rule es j)

  -- none offends, or one is the first
  abbrev Cases : Type 0
  Cases = ((first_offending rule es ≡ 0) × NoneOffends rule es) ⊎ ((i : ℕ) × (first_offending rule es ≡ suc i) × First i)

  pub first-cases : Cases
  unfolding first_offending
  first-cases = go (bool_cases (any (used_offends rule) (entries es)))
    where
      long : length (entries es) ≡ 128
      long = length-chunks 128 128 es

      go : (any (used_offends rule) (entries es) ≡ true) ⊎ (any (used_offends rule) (entries es) ≡ false)
          → Cases
      go (inl q) =
          let i : ℕ = find_ix (used_offends rule) (entries es) in
          let f = find_ix-get (used_offends rule) (entries es) [] q in
          let h : i < 128 = omega (arith, f.0, long) in
          inr (
            i,
            ap (λ (b : Bool). cond b (suc i) 0) q,
            ((offends-is i h).0 f.1, λ j l. keeps-is j (omega arith) (find_ix-before (used_offends rule) (entries es) [] j l)),
          )
      go (inr q) = inl (
        ap (λ (b : Bool). cond b (suc (find_ix (used_offends rule) (entries es))) 0) q,
        λ i w. let h = w.0 in keeps-is i w.0 (any_none (used_offends rule) (entries es) [] q i (omega (arith, long))) w,
      )

  pub first-none : (first_offending rule es ≡ 0) ↔ NoneOffends rule es
  first-none = (λ e. ⊎_elim (λ w. w.1) (λ w. let z = w.1 in absurd (omega arith)) first-cases, λ n. ⊎_elim (λ w. w.0) (λ w. absurd (n w.0 w.2.0)) first-cases)

  pub first_some : (i : ℕ) → (first_offending rule es ≡ suc i) ↔ First i
  first_some i = (to first-cases, from first-cases)
    where
      to : Cases → first_offending rule es ≡ suc i → First i
      to (inl w) e = let z = w.0 in absurd (omega arith)
      to (inr w) e = let z = w.1 in let same : w.0 ≡ i = omega arith in subst First same w.2

      from : Cases → First i → first_offending rule es ≡ suc i
      from (inl w) f = absurd (w.1 i f.0)
      from (inr w) f = go (dec_lt w.0 i) (dec_lt i w.0)
        where
          go : Dec (w.0 < i) → Dec (i < w.0) → first_offending rule es ≡ suc i
          go (yes l) d = absurd (f.1 w.0 l w.2.0)
          go (no n) (yes l) = absurd (w.2.1 i l f.0)
          go (no n) (no m) = let z = w.1 in omega arith
