-- The signature: where it can stand, and how its bytes are compared.
use mathlib.Core.Path.{◌≡◌, refl, ap, ◌∙◌}
use mathlib.Core.Bool.{Bool, true, false, ◌&&◌}
use mathlib.Core.List.{List, [], ◌∷◌}
use Prim.Native.Nat.{ℕ, ◌<◌}
use native.Mathlib.Nat.{add-zero}
use native.Mathlib.Omega.{arith}
use lib.Dec.{eqb}
use Rattle.std.proofs.lemmas.Bool.Decides.{nat_tests}
use lib.Pointwise.{pointwise}
use lib.ListN.{length, drop, length-take}
use Rattle.octets.specs.Bytes.{part, rest, same}
use Rattle.octets.specs.Tests.{◌and◌}
use Rattle.octets.proofs.Parts.{part-of-rest}
use Rattle.octets.proofs.Equal.{same_length}
use Rattle.fmap_rules.specs.Map.{signature, signed}

pub signed_part : (image : List ℕ) (at : ℕ) → signed (rest at image) ≡ same (part at 8 image) signature
unfolding signed
signed_part image at = ap (λ (l : List ℕ). same l signature) (part-of-rest 0 8 at image ∙ ap (λ (k : ℕ). part k 8 image) (add-zero at))

pub short-unsigned : (m : List ℕ) → length m < 8 → signed m ≡ false
unfolding signed part
short-unsigned m h = same_length (part 0 8 m) signature (λ e. let l = length-take 8 (drop 0 m) in omega (arith, e, l))

-- `starts_with` compares what it looks for with the first bytes
eqb-turned : (x y : ℕ) → eqb x y ≡ eqb y x
eqb-turned x y = grind (arith, nat_tests)

pub pointwise-same : (xs ys : List ℕ) → pointwise eqb xs ys ≡ same ys xs
unfolding same ◌and◌
pointwise-same [] [] = refl
pointwise-same [] (y ∷ ys) = refl
pointwise-same (x ∷ xs) [] = refl
pointwise-same (x ∷ xs) (y ∷ ys) = rw (eqb-turned x y) (go (eqb y x) (pointwise-same xs ys))
  where
    go : (t : Bool) → pointwise eqb xs ys ≡ same ys xs → (t && pointwise eqb xs ys) ≡ (t and same ys xs)
    go true e = e
    go false e = refl
