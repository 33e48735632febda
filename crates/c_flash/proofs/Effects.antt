-- Laws of what C gets of a flash map call.
use mathlib.Core.Path.{◌≡◌, refl, sym, ap, ◌∙◌}
use mathlib.Core.List.{List}
use mathlib.Core.Logic.{◌≢◌, ◌⊎◌, inl, inr}
use mathlib.Core.Bool.{true, false}
use mathlib.Core.Option.{Option, none}
use Prim.Native.Nat.{ℕ, ◌≤◌, ◌<◌}
use native.Mathlib.Omega.{arith}
use lib.ListN.{length}
use lib.Dec.{ltb}
use borrow.Author.Tests.{eq-eqb, ne_eqb, lt-ltb, le-ltb, ltb-true, ltb-false}
use Rattle.octets.proofs.Bools.{bool_cases}
use Rattle.octets.specs.Rows.{code_of}
use Rattle.octets.specs.Bytes.{put}
use Rattle.octets.proofs.Puts.{put_all}
use Rattle.fmap_rules.specs.Written.{area_bytes}
use Rattle.fmap_carry.specs.Carry.{Outcome}
use Rattle.fmap.specs.Find.{Reply, accepted, refused, number_of, found_reply}
use Rattle.fmap.specs.Faults.{fault_reply, fault_at}
use Rattle.fmap.specs.Carry.{carried_number}
use Rattle.fmap.proofs.Places.{rule-some, fault-behind}
use Rattle.fmap.specs.Areas.{Looked, looked, lookup_reply, index_reply}
use Rattle.std.specs.Result.{OkIff, result_unwrap_or}
use Rattle.std.specs.Prelude.{Result, Ok, Err, Option as Maybe, Some, None}
use Rattle.fmap_rules.specs.declared.ImagePosition.{ImagePosition}
use Rattle.fmap_rules.specs.declared.Area.{Area}
use Rattle.fmap.specs.declared.NoMap.{NoMap}
use Rattle.fmap.specs.declared.MapFault.{MapFault}
use Rattle.fmap.specs.declared.CarryRefusal.{CarryRefusal}
use Rattle.fmap.specs.declared.NoMap.TheVariants as missing
use Rattle.fmap.specs.declared.MapFault.TheVariants as fault
use Rattle.fmap.specs.declared.CarryRefusal.TheVariants as carried
use Rattle.fmap_carry.specs.declared.Conflict.TheVariants as conflict
use Rattle.c_flash.specs.Effects.{BufferEffect, position_of, fault_effect, looked_effect, area_effect, carry_effect}
use Rattle.c_flash.specs.Claims.{NoneIsZero}

position-low : (n : ℕ) → n < 4294967295 → n ≡ position_of n
unfolding position_of
position-low n h = rw (lt-ltb n 4294967295 h)

position-high : (n : ℕ) → 4294967295 ≤ n → 4294967295 ≡ position_of n
unfolding position_of
position-high n h = rw (le-ltb n 4294967295 h)

-- a number as one of 32 bits, or the highest of them
pub position-by : {E : Type 0} (r : Result ℕ E) (n : ℕ) → OkIff r (n < 4294967296) n → result_unwrap_or r 4294967295 ≡ position_of n
position-by (Ok x) n (h, e) = go (bool_cases (ltb n 4294967295))
  where
    go : (ltb n 4294967295 ≡ true) ⊎ (ltb n 4294967295 ≡ false) → x ≡ position_of n
    go (inl w) = e ∙ position-low n (ltb-true _ _ w)
    go (inr w) = let l : 4294967295 ≤ n = ltb-false _ _ w in omega (arith, e, h, position-high n l)
position-by (Err d) n f = go (bool_cases (ltb n 4294967295))
  where
    go : (ltb n 4294967295 ≡ true) ⊎ (ltb n 4294967295 ≡ false) → 4294967295 ≡ position_of n
    go (inl w) = let l : n < 4294967295 = ltb-true _ _ w in absurd (f (omega arith))
    go (inr w) = position-high n (ltb-false _ _ w)

-- the answer at the position r that n stands for
pub fault-tells : (old : ℕ) (image : List ℕ) (n r : ℕ) (x : Reply (Option ℕ)) → r ≡ position_of n → x ≡ fault_at image r
    → fault_effect old x ≡ fault_effect old (fault_at image n)
fault-tells old image n r x p e = ap (fault_effect old) (e ∙ go (bool_cases (ltb n 4294967295)))
  where
    go : (ltb n 4294967295 ≡ true) ⊎ (ltb n 4294967295 ≡ false) → fault_at image r ≡ fault_at image n
    go (inl w) = ap (fault_at image) (p ∙ sym (position-low n (ltb-true _ _ w)))
    go (inr w) = let h : 4294967295 ≤ n = ltb-false _ _ w in fault-behind image r n (omega (arith, p, position-high n h)) (omega arith)

-- the bytes of an area that is there
pub area-tells : (old new : List ℕ) (r : Result (Maybe Area) NoMap) (o : Maybe Area) (a : Area) → r ≡ Ok o → o ≡ Some a → length old ≡ 42
    → (new ≡ put 0 (area_bytes a) old) × (length (area_bytes a) ≡ 42) → record { result = 0; buffer = new } ≡ looked_effect old (looked r)
area-tells old new r o a p q h (e, l) =
    ap (λ (b : List ℕ). record { result = 0; buffer = b }) (e ∙ put_all (area_bytes a) old (l ∙ sym h))
    ∙ ap (λ (x : Result (Maybe Area) NoMap). looked_effect old (looked x)) (sym (p ∙ ap (λ (x : Maybe Area). Ok x) q))

pub area-wrong : (old : List ℕ) (l : Looked) → length old ≢ 42 → record { result = 1; buffer = old } ≡ area_effect old l
unfolding area_effect
area-wrong old l h = rw (ne_eqb (length old) 42 h)

pub area-right : (old : List ℕ) (l m : Looked) (t : BufferEffect) → length old ≡ 42 → t ≡ looked_effect old l → l ≡ m → t ≡ area_effect old m
unfolding area_effect
area-right old l m t h p q = rw (eq-eqb (length old) 42 h) (p ∙ ap (looked_effect old) q)

pub carry-tells : (n : Option ℕ) (r : ℕ) (b : List ℕ) (o : Outcome) → record { answer = n; image = b } ≡ o → r ≡ code_of n
    → ◌≡◌ {A = BufferEffect} (record { result = r; buffer = b }) (carry_effect o)
carry-tells n r b o e q = ap (λ (k : ℕ). record { result = k; buffer = b }) q ∙ ap carry_effect e

-- ---- no refusal's number is 0

abbrev number_in : {A : Type 0} → Reply A → ℕ
number_in (accepted a) = 1
number_in (refused k) = k

some-number : (e : NoMap) → number_of e ≡ 0 → ⊥
some-number missing.WrongLength q = omega arith
some-number missing.NoSignature q = omega arith
some-number missing.NoGoodMap q = omega arith

found_none : (f : Result ImagePosition NoMap) → found_reply f ≡ refused 0 → ⊥
found_none (Ok p) e = omega (arith, ap number_in e)
found_none (Err n) e = some-number n (ap number_in e)

fault-refused : (f : Result (Unit {0}) MapFault) → fault_reply f ≡ refused 0 → ⊥
fault-refused (Ok u) e = omega (arith, ap number_in e)
fault-refused (Err (fault.Breaks k)) e = omega (arith, ap number_in e)
fault-refused (Err fault.WrongLength) e = omega (arith, ap number_in e)

lookup-none : (a : Result (Maybe Area) NoMap) → lookup_reply a ≡ refused 0 → ⊥
lookup-none (Ok (Some a)) e = omega (arith, ap number_in e)
lookup-none (Ok None) e = omega (arith, ap number_in e)
lookup-none (Err n) e = some-number n (ap number_in e)

index-none : (a : Result (Maybe ℕ) NoMap) → index_reply a ≡ refused 0 → ⊥
index-none (Ok (Some k)) e = omega (arith, ap number_in e)
index-none (Ok None) e = omega (arith, ap number_in e)
index-none (Err n) e = some-number n (ap number_in e)

carried_none : (c : Result (Unit {0}) CarryRefusal) → code_of (carried_number c) ≡ 0 → carried_number c ≡ none
carried_none (Ok u) e = refl
carried_none (Err (carried.Map n)) e = absurd (some-number n e)
carried_none (Err (carried.Areas conflict.Missing)) e = absurd (omega arith)
carried_none (Err (carried.Areas conflict.OtherSize)) e = absurd (omega arith)
carried_none (Err (carried.Areas conflict.Shared)) e = absurd (omega arith)
carried_none (Err (carried.Areas conflict.OnMap)) e = absurd (omega arith)

pub none_is_zero : NoneIsZero
none_is_zero = record { find = found_none; fault = fault-refused; rule = rule-some; area = lookup-none; named = index-none; carry = carried_none }
