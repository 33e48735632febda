-- Laws of numbers as text: how many digits there are, and what `io` puts.
use mathlib.Core.Path.{◌≡◌, refl, ap, ◌∙◌, subst}
use mathlib.Core.Bool.{cond}
use mathlib.Core.List.{List, [], ◌∷◌}
use Prim.Native.Nat.{ℕ, zero, suc, ◌+◌, ◌-◌, ◌/◌, ◌%◌, ◌^◌, ◌≤◌, ◌<◌, min, max}
use native.Mathlib.Nat.{pow-le-pow_right}
use native.Mathlib.Numerals.{add-one}
use native.Mathlib.Omega.{arith}
use borrow.Author.Tests.{ltb-true, ltb-false}
use lib.Dec.{ltb}
use lib.ListN.{length, take, length-append}
use Rattle.io.specs.Digits.{hex_digit_ascii, last_digits, IsDigitCount}
use Rattle.octets.proofs.Bools.{choice}
use Rattle.text_out.specs.Text.{hex_digits, decimal_digits}

length_digits : (b k n : ℕ) → length (last_digits b k n) ≡ k
length_digits b zero n = refl
length_digits b (suc k) n =
    length-append (last_digits b k (n / b)) (hex_digit_ascii (n % b) ∷ []) ∙ ap (λ (i : ℕ). i + 1) (length_digits b k (n / b)) ∙ add-one k

no_more : (b least n k w : ℕ) → 0 < b → IsDigitCount b least n k → IsDigitCount b least n w → k < w → ⊥
no_more b least n k w p f g h =
    let up : b ^ k ≤ b ^ (w - 1) = pow-le-pow_right p (omega arith) in
    let low : b ^ (w - 1) ≤ n = g.2 (omega (arith, f.0)) in
    omega (arith, f.1)

-- the fewest digits are so many and no other number
pub fewest-one : (b least n k w : ℕ) → 0 < b → IsDigitCount b least n k → IsDigitCount b least n w → k ≡ w
fewest-one b least n k w p f g = omega (arith, no_more b least n k w p f g, no_more b least n w k p g f)

pub length-hex : (width n : ℕ) → length (hex_digits width n) ≡ width
unfolding hex_digits
length-hex width n = length_digits 16 width n

-- what `io::hex` puts of a number that has no more digits than asked
pub hex-is : (width n k : ℕ) (text : List ℕ) → (1 ≤ width) × (width ≤ 16) × (n < 16 ^ width) → IsDigitCount 16 (min (max width 1) 16) n k
    → take k text ≡ last_digits 16 k n → take k text ≡ hex_digits width n
unfolding hex_digits
hex-is width n k text p f e =
    let m : min (max width 1) 16 ≡ width = omega arith in
    let g : IsDigitCount 16 width n k = subst (λ (l : ℕ). IsDigitCount 16 l n k) m f in
    e ∙ ap (λ (j : ℕ). last_digits 16 j n) (fewest-one 16 width n k width (omega arith) g (omega arith, p.2, λ h. absurd (omega arith)))

places-fewest : (n : ℕ) → n < 1000 → IsDigitCount 10 1 n (cond (ltb n 10) 1 (cond (ltb n 100) 2 3))
places-fewest n h =
    choice (IsDigitCount 10 1 n) (ltb n 10) 1 (cond (ltb n 100) 2 3)
    (λ e. let l = ltb-true n 10 e in (omega arith, omega arith, λ p. absurd (omega arith)))
    (λ e. let l = ltb-false n 10 e in choice (IsDigitCount 10 1 n) (ltb n 100) 2 3
    (λ d. let m = ltb-true n 100 d in (omega arith, omega arith, λ p. omega arith))
    (λ d. let m = ltb-false n 100 d in (omega arith, omega arith, λ p. omega arith)))

pub length-decimal : (n : ℕ) → length (decimal_digits n) ≤ 3
unfolding decimal_digits
length-decimal n =
    let l = length_digits 10 (cond (ltb n 10) 1 (cond (ltb n 100) 2 3)) n in
    let w : cond (ltb n 10) 1 (cond (ltb n 100) 2 3) ≤ 3 =
    choice (λ (i : ℕ). i ≤ 3) (ltb n 10) 1 (cond (ltb n 100) 2 3) (λ e. omega arith)
    (λ e. choice (λ (i : ℕ). i ≤ 3) (ltb n 100) 2 3 (λ d. omega arith) (λ d. omega arith)) in
    omega arith

-- what `io::decimal` puts
pub decimal-is : (n k : ℕ) (text : List ℕ) → n < 1000 → IsDigitCount 10 1 n k → take k text ≡ last_digits 10 k n → take k text ≡ decimal_digits n
unfolding decimal_digits
decimal-is n k text h f e = e ∙ ap (λ (j : ℕ). last_digits 10 j n) (fewest-one 10 1 n k _ (omega arith) f (places-fewest n h))
