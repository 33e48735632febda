-- Laws of hex digits: a byte at a time, and along lists.
use mathlib.Core.Path.{◌≡◌, refl, sym, ap, ap₂, subst, ◌∙◌}
use mathlib.Core.Logic.{◌⊎◌, inl, inr}
use mathlib.Core.Bool.{Bool, true, false, cond}
use mathlib.Core.List.{List, [], ◌∷◌, map}
use Prim.Native.Nat.{ℕ, zero, suc, ◌+◌, ◌-◌, ◌*◌, ◌/◌, ◌%◌, ◌≤◌, ◌<◌}
use native.Mathlib.Omega.{arith}
use lib.Dec.{leb, ltb}
use lib.ListN.{length, get_or, set}
use borrow.Author.Tests.{leb-true, ltb-true, ltb-false, le-leb, lt-leb, lt-ltb, le-ltb}
use Rattle.std.specs.Prelude.{Option, Some, None}
use Rattle.std.specs.Bool.{then_some}
use Rattle.std.proofs.lemmas.Bool.{cases_lt, cases_eq}
use Rattle.octets.specs.Tests.{◌and◌, all}
use Rattle.octets.proofs.Bools.{and_l, and_r, and_i, and-false-l, bool_cases, clash}
use Rattle.octets.proofs.Tests.{all-get, all-make}
use Rattle.octets.proofs.Filled.{Filled, filled_on}
use Rattle.guid.specs.Claims.{are_bytes}
use Rattle.guid.specs.Hex.{hex_value, is_hex_digit, bytes_of, hex_digit_of, digits_of, upper}

-- ---- ranges

module _ (lo hi b : ℕ) where
  pub inside : lo ≤ b → b ≤ hi → (leb lo b and leb b hi) ≡ true
  inside h k = and_i _ _ (le-leb lo b h) (le-leb b hi k)

  pub before : b < lo → (leb lo b and leb b hi) ≡ false
  before h = and-false-l _ _ (lt-leb lo b h)

  pub after : hi < b → (leb lo b and leb b hi) ≡ false
  unfolding ◌and◌
  after h = go (leb lo b)
    where
      go : (t : Bool) → (t and leb b hi) ≡ false
      go true = lt-leb b hi h
      go false = refl

-- ---- the value of a byte, range by range

module _ (b : ℕ) where
  pub value-decimal : 48 ≤ b → b ≤ 57 → b - 48 ≡ hex_value b
  unfolding hex_value
  value-decimal h k = rw (inside 48 57 b h k)

  pub value-upper : 65 ≤ b → b ≤ 70 → b - 55 ≡ hex_value b
  unfolding hex_value
  value-upper h k = rw (after 48 57 b (omega arith), inside 65 70 b h k) (omega arith)

  pub value-lower : 97 ≤ b → b ≤ 102 → b - 87 ≡ hex_value b
  unfolding hex_value
  value-lower h k = rw (after 48 57 b (omega arith), after 65 70 b (omega arith), inside 97 102 b h k) (omega arith)

  pub value_none : (leb 48 b and leb b 57) ≡ false → (leb 65 b and leb b 70) ≡ false → (leb 97 b and leb b 102) ≡ false → 16 ≡ hex_value b
  unfolding hex_value
  value_none p q r = rw (p, q, r)

-- ---- what `value` answers

none_within : (lo hi b : ℕ) → (lo ≤ b → b ≤ hi → ⊥) → (leb lo b and leb b hi) ≡ false
none_within lo hi b f = go (bool_cases (leb lo b and leb b hi))
  where
    go : (leb lo b and leb b hi ≡ true) ⊎ (leb lo b and leb b hi ≡ false) → (leb lo b and leb b hi) ≡ false
    go (inl t) = absurd (f (leb-true lo b (and_l _ _ t)) (leb-true b hi (and_r _ _ t)))
    go (inr n) = n

module _ (b : ℕ) where
  pub value_some : (v : ℕ) → v ≡ hex_value b → v < 16 → Some v ≡ then_some (is_hex_digit b) (hex_value b)
  value_some v e h = rw (← e, lt-ltb v 16 h)

  pub value_other : (48 ≤ b → b ≤ 57 → ⊥) → (65 ≤ b → b ≤ 70 → ⊥) → (97 ≤ b → b ≤ 102 → ⊥) → None ≡ then_some (is_hex_digit b) (hex_value b)
  value_other f g h = rw (← value_none b (none_within 48 57 b f) (none_within 65 70 b g) (none_within 97 102 b h))

-- a test's value, by what was found
module _ {A : Type 0} (t : Bool) (v : A) {r : Option A} (e : r ≡ then_some t v) where
  pub found : {x : A} → r ≡ Some x → (t ≡ true) × (v ≡ x)
  found {x} f = go t (sym e ∙ f)
    where
      go : (s : Bool) → then_some s v ≡ Some x → (s ≡ true) × (v ≡ x)
      go true y = (refl, cc)
      go false y = absurd (cc)

  pub missed : r ≡ None → t ≡ false
  missed f = go t (sym e ∙ f)
    where
      go : (s : Bool) → then_some s v ≡ None → s ≡ false
      go true y = absurd (cc)
      go false y = refl

-- ---- a digit and its value

pub value-digit : (n : ℕ) → n < 16 → hex_value (hex_digit_of n) ≡ n
unfolding hex_digit_of
value-digit n h = go (bool_cases (ltb n 10))
  where
    go : (ltb n 10 ≡ true) ⊎ (ltb n 10 ≡ false) → hex_value (cond (ltb n 10) (48 + n) (65 + (n - 10))) ≡ n
    go (inl e) = rw e (let k : n < 10 = ltb-true n 10 e in sym (value-decimal (48 + n) (omega arith) (omega arith)) ∙ omega arith)
    go (inr e) = rw e (let k : 10 ≤ n = ltb-false n 10 e in sym (value-upper (65 + (n - 10)) (omega arith) (omega arith)) ∙ omega arith)

pub digit-is : (n : ℕ) → n < 16 → is_hex_digit (hex_digit_of n) ≡ true
digit-is n h = rw (value-digit n h) (lt-ltb n 16 h)

-- what is written for a digit of either case
pub digit_value : (b : ℕ) → is_hex_digit b ≡ true → hex_digit_of (hex_value b) ≡ upper b
unfolding hex_digit_of upper
digit_value b d = go (bool_cases (leb 48 b and leb b 57)) (bool_cases (leb 65 b and leb b 70)) (bool_cases (leb 97 b and leb b 102))
  where
    go : (leb 48 b and leb b 57 ≡ true) ⊎ (leb 48 b and leb b 57 ≡ false) → (leb 65 b and leb b 70 ≡ true) ⊎ (leb 65 b and leb b 70 ≡ false)
        → (leb 97 b and leb b 102 ≡ true) ⊎ (leb 97 b and leb b 102 ≡ false) → hex_digit_of (hex_value b) ≡ upper b
    go (inl p) q r =
        let lo : 48 ≤ b = leb-true 48 b (and_l _ _ p) in
        let hi : b ≤ 57 = leb-true b 57 (and_r _ _ p) in
        let v = value-decimal b lo hi in
        rw (lt-ltb (hex_value b) 10 (omega arith), before 97 122 b (omega arith)) (omega arith)
    go (inr p) (inl q) r =
        let lo : 65 ≤ b = leb-true 65 b (and_l _ _ q) in
        let hi : b ≤ 70 = leb-true b 70 (and_r _ _ q) in
        let v = value-upper b lo hi in
        rw (le-ltb (hex_value b) 10 (omega arith), before 97 122 b (omega arith)) (omega arith)
    go (inr p) (inr q) (inl r) =
        let lo : 97 ≤ b = leb-true 97 b (and_l _ _ r) in
        let hi : b ≤ 102 = leb-true b 102 (and_r _ _ r) in
        let v = value-lower b lo hi in
        rw (le-ltb (hex_value b) 10 (omega arith), inside 97 122 b lo (omega arith)) (omega arith)
    go (inr p) (inr q) (inr r) = let v = value_none b p q r in let k : hex_value b < 16 = ltb-true (hex_value b) 16 d in absurd (omega arith)

-- ---- along lists

pub length_digits : (bs : List ℕ) → length (digits_of bs) ≡ 2 * length bs
unfolding digits_of
length_digits [] = refl
length_digits (b ∷ bs) = omega (arith, length_digits bs)

pub digits_are : (bs : List ℕ) → are_bytes bs ≡ true → all is_hex_digit (digits_of bs) ≡ true
unfolding digits_of
digits_are [] e = refl
digits_are (b ∷ bs) e =
    let k : b < 256 = ltb-true b 256 (and_l _ _ e) in
    and_i _ _ (digit-is (b / 16) (omega arith)) (and_i _ _ (digit-is (b % 16) (omega arith)) (digits_are bs (and_r _ _ e)))

pub bytes-digits : (bs : List ℕ) → are_bytes bs ≡ true → bytes_of (digits_of bs) ≡ bs
unfolding digits_of bytes_of
bytes-digits [] e = refl
bytes-digits (b ∷ bs) e =
    let k : b < 256 = ltb-true b 256 (and_l _ _ e) in
    let h = value-digit (b / 16) (omega arith) in
    let l = value-digit (b % 16) (omega arith) in
    ap₂ ◌∷◌ (omega arith) (bytes-digits bs (and_r _ _ e))

pub length-bytes : (k : ℕ) (ds : List ℕ) → length ds ≡ 2 * k → length (bytes_of ds) ≡ k
unfolding bytes_of
length-bytes k [] l = omega arith
length-bytes k (h ∷ []) l = absurd (omega arith)
length-bytes zero (h ∷ m ∷ ds) l = absurd (omega arith)
length-bytes (suc k) (h ∷ m ∷ ds) l = ap suc (length-bytes k ds (omega arith))

pub digits-bytes : (k : ℕ) (ds : List ℕ) → length ds ≡ 2 * k → all is_hex_digit ds ≡ true → digits_of (bytes_of ds) ≡ map upper ds
unfolding bytes_of digits_of
digits-bytes k [] l e = refl
digits-bytes k (h ∷ []) l e = absurd (omega arith)
digits-bytes zero (h ∷ m ∷ ds) l e = absurd (omega arith)
digits-bytes (suc k) (h ∷ m ∷ ds) l e =
    let a = and_l _ _ e in
    let b = and_l _ _ (and_r _ _ e) in
    let x : hex_value h < 16 = ltb-true (hex_value h) 16 a in
    let y : hex_value m < 16 = ltb-true (hex_value m) 16 b in
    let p : (16 * hex_value h + hex_value m) / 16 ≡ hex_value h = omega arith in
    let q : (16 * hex_value h + hex_value m) % 16 ≡ hex_value m = omega arith in
    rw (p, q, digit_value h a, digit_value m b) (ap (λ (r : List ℕ). upper h ∷ upper m ∷ r) (digits-bytes k ds (omega arith) (and_r _ _ (and_r _ _ e))))

-- ---- element by element

pub bytes-at : (i : ℕ) (ds : List ℕ) → 2 * i + 1 < length ds
    → get_or (bytes_of ds) i 0 ≡ 16 * hex_value (get_or ds (2 * i) 0) + hex_value (get_or ds (2 * i + 1) 0)
unfolding bytes_of
bytes-at i [] h = absurd (omega arith)
bytes-at i (d ∷ []) h = absurd (omega arith)
bytes-at zero (d ∷ e ∷ ds) h = refl
bytes-at (suc i) (d ∷ e ∷ ds) h =
    let a : 2 * suc i ≡ suc (suc (2 * i)) = omega arith in
    let b : 2 * suc i + 1 ≡ suc (suc (2 * i + 1)) = omega arith in
    rw (b, a) (bytes-at i ds (omega arith))

pub high-at : (i : ℕ) (bs : List ℕ) → i < length bs → get_or (digits_of bs) (2 * i) 0 ≡ hex_digit_of (get_or bs i 0 / 16)
unfolding digits_of
high-at i [] h = absurd (omega arith)
high-at zero (b ∷ bs) h = refl
high-at (suc i) (b ∷ bs) h = let a : 2 * suc i ≡ suc (suc (2 * i)) = omega arith in rw a (high-at i bs (omega arith))

pub low-at : (i : ℕ) (bs : List ℕ) → i < length bs → get_or (digits_of bs) (2 * i + 1) 0 ≡ hex_digit_of (get_or bs i 0 % 16)
unfolding digits_of
low-at i [] h = absurd (omega arith)
low-at zero (b ∷ bs) h = refl
low-at (suc i) (b ∷ bs) h = let a : 2 * suc i + 1 ≡ suc (suc (2 * i + 1)) = omega arith in rw a (low-at i bs (omega arith))

-- one byte that is no digit
pub not_all : (ds : List ℕ) (i : ℕ) → i < length ds → is_hex_digit (get_or ds i 0) ≡ false → all is_hex_digit ds ≡ false
not_all ds i h e = go (bool_cases (all is_hex_digit ds))
  where
    go : (all is_hex_digit ds ≡ true) ⊎ (all is_hex_digit ds ≡ false) → all is_hex_digit ds ≡ false
    go (inl t) = absurd (clash (all-get is_hex_digit ds 0 t i h) e)
    go (inr n) = n

-- the first n bytes are digits
abbrev pub Digits : List ℕ → ℕ → Type 0
Digits ds n = (k : ℕ) → k < n → is_hex_digit (get_or ds k 0) ≡ true

pub two_more : (ds : List ℕ) (i : ℕ) → is_hex_digit (get_or ds (2 * i) 0) ≡ true → is_hex_digit (get_or ds (2 * i + 1) 0) ≡ true → Digits ds (2 * i)
    → Digits ds (2 * (i + 1))
two_more ds i p q f k h = go (cases_lt k (2 * i))
  where
    at : {j : ℕ} → j ≡ k → is_hex_digit (get_or ds j 0) ≡ true → is_hex_digit (get_or ds k 0) ≡ true
    at e t = rw (← e) t

    last : (2 * i ≡ k) ⊎ (2 * i ≡ k → ⊥) → 2 * i ≤ k → is_hex_digit (get_or ds k 0) ≡ true
    last (inl e) l = at e p
    last (inr n) l = at (omega (arith, n)) q

    go : (k < 2 * i) ⊎ (2 * i ≤ k) → is_hex_digit (get_or ds k 0) ≡ true
    go (inl l) = f k l
    go (inr l) = last (cases_eq (2 * i) k) l

pub all_digits : (ds : List ℕ) (n : ℕ) → length ds ≤ n → Digits ds n → all is_hex_digit ds ≡ true
all_digits ds n h f = all-make is_hex_digit ds 0 (λ i l. f i (omega arith))

-- both digits of byte i of 16 are put in place
pub digits-on : (bs a : List ℕ) (i u v : ℕ) → length bs ≡ 16 → i < 16 → u ≡ hex_digit_of (get_or bs i 0 / 16) → v ≡ hex_digit_of (get_or bs i 0 % 16)
    → Filled 32 (digits_of bs) a (2 * i) → Filled 32 (digits_of bs) (set (set a (2 * i) u) (2 * i + 1) v) (2 * (i + 1))
digits-on bs a i u v l h p q f =
    let n : length (digits_of bs) ≡ 32 = length_digits bs ∙ omega arith in
    let e : 2 * i + 1 + 1 ≡ 2 * (i + 1) = omega arith in
    let b : Filled 32 (digits_of bs) (set a (2 * i) u) (2 * i + 1) = filled_on u n (omega arith) (high-at i bs (omega arith) ∙ sym p) f in
    subst (λ (k : ℕ). Filled 32 (digits_of bs) (set (set a (2 * i) u) (2 * i + 1) v) k) e
    (filled_on v n (omega arith) (low-at i bs (omega arith) ∙ sym q) b)
