-- What it is that no row holds.
use mathlib.Core.Path.{◌≡◌, refl, ap}
use mathlib.Core.Bool.{true, false, false≢true}
use mathlib.Core.List.{List}
use mathlib.Core.Option.{Option, none, some}
use Prim.Native.Nat.{ℕ}
use lib.Dec.{eqb}
use Rattle.octets.specs.Tests.{◌and◌, ◌or◌, any}
use Rattle.octets.specs.Rows.{Row, refusal}
use Rattle.std.specs.Prelude.{Result, Ok, Err, is_ok}
use Rattle.fmap_rules.specs.declared.MapRule.{MapRule}
use Rattle.fmap_rules.specs.Rules.{broken}
use Rattle.fmap_rules.specs.Map.{is_none, none_holds, map_rows}

-- ---- no row holds

pub holds-none : (rows : List Row) → none_holds rows ≡ true → refusal rows ≡ none
unfolding none_holds
holds-none rows e = go (refusal rows) e
  where
    go : (o : Option ℕ) → is_none o ≡ true → o ≡ none
    go none q = refl
    go (some k) q = absurd (false≢true q)

pub none-holds : (rows : List Row) → refusal rows ≡ none → none_holds rows ≡ true
unfolding none_holds
none-holds rows e = ap is_none e

pub ok-none : (r : Result (Unit {0}) MapRule) → is_ok r ≡ is_none (broken r)
ok-none (Ok u) = refl
ok-none (Err e) = refl

-- ---- no row of a map has the number 0

pub map-no-zero : (image : List ℕ) (at : ℕ) → any (λ r. eqb 0 r.number and r.holds) (map_rows image at) ≡ false
unfolding ◌and◌ ◌or◌
map-no-zero image at = refl
