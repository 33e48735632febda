-- Where header and table lie in head and tail: inside the lent bytes, and clear of each other.
use mathlib.Core.Path.{◌≡◌, refl, sym, ap, ap₂, ◌∙◌}
use mathlib.Core.List.{List}
use Prim.Native.Nat.{ℕ, ◌+◌, ◌-◌, ◌≤◌}
use native.Mathlib.Omega.{arith}
use lib.ListN.{length, take, drop}
use borrow.Rule.Slice.Shared.{by_byte}
use Rattle.octets.specs.Bytes.{part}
use Rattle.octets.proofs.Parts.{length_part, part-part}
use Rattle.gpt_model.specs.Disk.{Shape, Side, lent_bytes, header_at, entries_at, guid_in}
use Rattle.gpt_model.proofs.Copies.{header-inside, block_inside, entries-inside}
use Rattle.gpt_places.specs.Invariants.{Legal}
use Rattle.gpt_places.specs.Sides.{behind}

module _ (g : Shape) (ok : Legal g) where
  pub wide : 92 ≤ g.block
  wide = omega arith

  pub header-end : (side : Side) → header_at g side + 92 ≤ lent_bytes g side
  header-end side = header-inside g wide side

  pub block-end : (side : Side) → header_at g side + g.block ≤ lent_bytes g side
  block-end side = block_inside g wide side

  pub entries-end : (side : Side) → entries_at g side + 16384 ≤ lent_bytes g side
  entries-end side = entries-inside g wide side

-- ---- a part that is cut out by a start and an end

pub cut : (xs : List ℕ) (at a k e : ℕ) → at ≡ a → e ≡ at + k → take (e - at) (drop at xs) ≡ part a k xs
unfolding part
cut xs at a k e p q =
    let w : e - at ≡ k = omega arith in
    ap₂ (λ (m i : ℕ). take m (drop i xs)) w p

pub cut-guid : (g : Shape) (xs : List ℕ) (side : Side) (at e : ℕ) → at ≡ header_at g side + 56 → e ≡ at + 16 → take (e - at) (drop at xs) ≡ guid_in g side xs
cut-guid g xs side at e p q = cut xs at _ 16 e p q ∙ sym (part-part 56 16 (header_at g side) 92 xs (omega arith))

pub length_cut : (xs : List ℕ) (at k e : ℕ) → e ≡ at + k → e ≤ length xs → length (take (e - at) (drop at xs)) ≡ k
length_cut xs at k e q h = ap length (cut xs at at k e refl q) ∙ length_part xs at k (omega arith)

-- the place of a part of bytes
pub part-behind : (p : ℕ × ℕ) (at k : ℕ) → at ≡ k → (p.0, by_byte at p.1) ≡ behind k p
part-behind p at k e = let w : by_byte at p.1 ≡ p.1 + k = omega arith in ap (λ (m : ℕ). (p.0, m)) w
