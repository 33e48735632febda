-- Multiples of m, and the lowest from a block on: what a walk that places at an alignment cites.
use mathlib.Core.Path.{◌≡◌, ap, ◌∙◌}
use mathlib.Core.Logic.{◌≢◌}
use Prim.Native.Nat.{ℕ, suc, ◌+◌, ◌-◌, ◌/◌, ◌%◌, ◌≤◌, ◌<◌}
use native.Mathlib.Nat.{mod-lt, div-add-mod, mul-suc, mul-le-mul_left, mul-mod_right}
use native.Mathlib.Decide.{dec_le}
use native.Mathlib.Omega.{arith}
use Rattle.gpt_model.specs.Ranges.{MultipleOf}

pub multiple-mod : (m s : ℕ) → MultipleOf m s → s % m ≡ 0
multiple-mod m s w = ap (λ (x : ℕ). x % m) w.1 ∙ mul-mod_right m w.0

pub mod-multiple : (m s : ℕ) → s % m ≡ 0 → MultipleOf m s
mod-multiple m s e = let d = div-add-mod s m in (s / m, omega arith)

-- what is missing to the next multiple is added
pub next_multiple : (m a : ℕ) → 0 < m → a % m ≢ 0 → MultipleOf m (a + (m - a % m))
next_multiple m a pos ne =
    let l = mod-lt a pos in
    let d = div-add-mod a m in
    let k = mul-suc m (a / m) in
    (suc (a / m), omega arith)

-- u is the lowest multiple of m from a on
pub record Up (m a u : ℕ) : Type 0 where
  pub past : a ≤ u
  pub multiple : MultipleOf m u
  pub least : (c : ℕ) → a ≤ c → MultipleOf m c → u ≤ c

-- it lies less than m past a
pub up_is : (m a u : ℕ) → a ≤ u → MultipleOf m u → u < a + m → Up m a u
up_is m a u h w l = record { past = h; multiple = w; least = λ c p v. go c p v (dec_le w.0 v.0) }
  where
    go : (c : ℕ) → a ≤ c → (v : MultipleOf m c) → Dec (w.0 ≤ v.0) → u ≤ c
    go c p v (yes k) = let x = w.1 in let y = v.1 in let z = mul-le-mul_left m k in omega arith
    go c p v (no k) =
        let x = w.1 in
        let y = v.1 in
        let j : suc v.0 ≤ w.0 = omega arith in
        let z = mul-le-mul_left m j in
        let r = mul-suc m v.0 in
        absurd (omega arith)
