use mathlib.Core.Path.{◌≡◌, refl, ap, ap₂, ◌∙◌}
use Prim.Native.Nat.{ℕ, ◌+◌, ◌-◌, ◌*◌, ◌/◌, ◌^◌}
use native.Mathlib.Nat.{mul-zero, div-one}
use native.Mathlib.Omega.{arith}
use Rattle.crc_lanes.specs.Tables.{sum_of}
use Rattle.crc_lanes.proofs.Digits.{sum_turn, sum_none}
use Rattle.crc_lanes.proofs.sum_of.Goals as goal

pub loop-j-init : goal.loop-j-init
loop-j-init g c = sum_none _ _ _

pub loop-j-preserved : goal.loop-j-preserved
loop-j-preserved g c =
    let b = g.row.BITS in
    let t = c.args.t.now in
    let x = c.args.x in
    let j = c.loop-j.j in
    let d = g.row.DIGITS - 1 - j in
    let here : g.row.DIGITS - (j + 1) ≡ d = omega arith in
    let before : g.row.DIGITS - j ≡ d + 1 = omega arith in
    rw (here, c.requires.digit.1)
    (sum_turn b t x d j c.loop-j.sum (c.loop-j.invariant ∙ ap (λ (n : ℕ). sum_of (2 ^ b) t j (x / 2 ^ (b * n))) before) refl)

pub returns : goal.returns
returns g c =
    let b = g.row.BITS in
    let x = c.args.x in
    let j = c.loop-j.j in
    let none : g.row.DIGITS - j ≡ 0 = omega arith in
    let all : j ≡ g.row.DIGITS = omega arith in
    let whole : x / 2 ^ (b * (g.row.DIGITS - j)) ≡ x = rw (none, mul-zero) (div-one x) in
    rw c.requires.digit.1 (c.loop-j.invariant ∙ ap₂ (sum_of (2 ^ b) c.args.t.now) all whole)
