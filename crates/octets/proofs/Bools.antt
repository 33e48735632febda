-- Laws of conjunction, disjunction and Option.
use mathlib.Core.Path.{◌≡◌, refl, sym, ◌∙◌}
use mathlib.Core.Logic.{◌⊎◌, inl, inr}
use mathlib.Core.Bool.{Bool, true, false, cond, not, true≢false, false≢true}
use mathlib.Core.Option.{Option, none, some}
use Prim.Native.Nat.{ℕ}
use native.Mathlib.Omega.{arith}
use Rattle.octets.specs.Tests.{◌and◌, ◌or◌}

pub and_l : (a b : Bool) → (a and b) ≡ true → a ≡ true
unfolding ◌and◌
and_l true b e = refl
and_l false b e = e

pub and_r : (a b : Bool) → (a and b) ≡ true → b ≡ true
unfolding ◌and◌
and_r true b e = e
and_r false b e = absurd (false≢true e)

pub and_i : (a b : Bool) → a ≡ true → b ≡ true → (a and b) ≡ true
unfolding ◌and◌
and_i true b p q = q
and_i false b p q = p

pub or_cases : (a b : Bool) → (a or b) ≡ true → (a ≡ true) ⊎ (b ≡ true)
unfolding ◌or◌
or_cases true b e = inl refl
or_cases false b e = inr e

pub or-il : (a b : Bool) → a ≡ true → (a or b) ≡ true
unfolding ◌or◌
or-il true b p = refl
or-il false b p = absurd (false≢true p)

pub or-ir : (a b : Bool) → b ≡ true → (a or b) ≡ true
unfolding ◌or◌
or-ir true b p = refl
or-ir false b p = p

pub or-false-l : (a b : Bool) → (a or b) ≡ false → a ≡ false
unfolding ◌or◌
or-false-l true b e = absurd (true≢false e)
or-false-l false b e = refl

pub or-false-r : (a b : Bool) → (a or b) ≡ false → b ≡ false
unfolding ◌or◌
or-false-r true b e = absurd (true≢false e)
or-false-r false b e = e

pub or-false-i : (a b : Bool) → a ≡ false → b ≡ false → (a or b) ≡ false
unfolding ◌or◌
or-false-i true b p q = absurd (true≢false p)
or-false-i false b p q = q

pub or-skip : (a b : Bool) → a ≡ false → (a or b) ≡ true → b ≡ true
unfolding ◌or◌
or-skip true b p q = absurd (true≢false p)
or-skip false b p q = q

pub and-false-l : (a b : Bool) → a ≡ false → (a and b) ≡ false
unfolding ◌and◌
and-false-l true b p = absurd (true≢false p)
and-false-l false b p = refl

pub and_false_r : (a b : Bool) → b ≡ false → (a and b) ≡ false
unfolding ◌and◌
and_false_r true b e = e
and_false_r false b e = refl

pub and-skip : (a b : Bool) → a ≡ true → (a and b) ≡ false → b ≡ false
unfolding ◌and◌
and-skip true b p q = q
and-skip false b p q = absurd (false≢true p)

pub bool_cases : (a : Bool) → (a ≡ true) ⊎ (a ≡ false)
bool_cases true = inl refl
bool_cases false = inr refl

pub not_t : (a : Bool) → not a ≡ true → a ≡ false
not_t true e = absurd (false≢true e)
not_t false e = refl

pub not_f : (a : Bool) → not a ≡ false → a ≡ true
not_f true e = refl
not_f false e = absurd (true≢false e)

pub eq-from : (a b : Bool) → (a ≡ true → b ≡ true) → (b ≡ true → a ≡ true) → a ≡ b
eq-from true b f g = sym (f refl)
eq-from false true f g = g refl
eq-from false false f g = refl

pub clash : {a : Bool} → a ≡ true → a ≡ false → ⊥
clash p q = true≢false (sym p ∙ q)

pub some-none : {A : Type 0} {a : A} → some a ≡ none → ⊥
some-none {A} {a} e = let z : ◌≡◌ {A = ℕ} 0 1 = cc in omega arith

pub option_cases : (o : Option ℕ) → (o ≡ none) ⊎ ((s : ℕ) × (o ≡ some s))
option_cases none = inl refl
option_cases (some s) = inr (s, refl)

-- ---- an answer along a row of tests: the first test decides, or it is passed over

pub and-f : {a : Bool} (b : Bool) → a ≡ false → false ≡ (a and b)
unfolding ◌and◌
and-f {a} b e = rw e

pub and-t : {a b r : Bool} → a ≡ true → r ≡ b → r ≡ (a and b)
unfolding ◌and◌
and-t {a} {b} {r} e f = rw e f

pub or-t : {a : Bool} (b : Bool) → a ≡ true → true ≡ (a or b)
unfolding ◌or◌
or-t {a} b e = rw e

pub or-f : {a b r : Bool} → a ≡ false → r ≡ b → r ≡ (a or b)
unfolding ◌or◌
or-f {a} {b} {r} e f = rw e f

-- what holds of each of two values where the test takes it holds of the choice
pub choice : {A : Type 0} (P : A → Type 0) (b : Bool) (x y : A) → (b ≡ true → P x) → (b ≡ false → P y) → P (cond b x y)
choice P true x y p q = p refl
choice P false x y p q = q refl
