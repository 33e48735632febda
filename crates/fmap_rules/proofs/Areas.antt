-- Laws of the areas that bytes hold.
use mathlib.Core.Path.{◌≡◌, refl, ap, ◌∙◌}
use mathlib.Core.List.{List, [], ◌∷◌, map}
use Prim.Native.Nat.{ℕ, zero, suc, ◌+◌, ◌-◌, ◌*◌, ◌/◌, ◌≤◌, ◌<◌}
use native.Mathlib.Omega.{arith}
use native.Mathlib.Nat.{mul_comm}
use lib.ListN.{length, get_or, take, drop, length-map}
use Rattle.octets.specs.Bytes.{part, chunks}
use Rattle.octets.proofs.Tests.{get_d_map}
use Rattle.octets.proofs.Parts.{length_part}
use Rattle.octets.proofs.Chunks.{length-chunks, chunk_part}
use Rattle.std.specs.Simd.{first_chunks}
use Rattle.fmap_rules.specs.Map.{area_of, areas_in, areas_of, blank_area, count_of, map_size}

pub length-areas : (xs : List ℕ) → length (areas_in xs) ≡ length xs / 42
unfolding areas_in
length-areas xs = length-map (chunks 42 (length xs / 42) xs) area_of ∙ length-chunks 42 (length xs / 42) xs

pub area-part : (xs : List ℕ) (i : ℕ) → i < length xs / 42 → get_or (areas_in xs) i blank_area ≡ area_of (part (42 * i) 42 xs)
unfolding areas_in
area-part xs i h =
    let l = length-chunks 42 (length xs / 42) xs in
    get_d_map area_of (chunks 42 (length xs / 42) xs) i blank_area [] (omega arith)
    ∙ ap area_of (chunk_part 42 (length xs / 42) i xs h ∙ ap (λ (k : ℕ). part k 42 xs) (mul_comm i 42))

-- ---- the areas behind a header, as a list of arrays

chunks-first : (n k : ℕ) (xs : List ℕ) → first_chunks n k xs ≡ chunks n k xs
unfolding chunks
chunks-first n zero xs = refl
chunks-first n (suc k) xs = ap (λ (l : List (List ℕ)). take n xs ∷ l) (chunks-first n k (drop n xs))

pub areas-behind : (m : List ℕ) (n : ℕ) (xs : List ℕ) (areas : List (List ℕ)) → n ≡ count_of m → map_size (count_of m) ≤ length m
    → xs ≡ take (56 + 42 * n - 56) (drop 56 m) → areas ≡ first_chunks 42 (length xs / 42) xs → length areas ≡ length xs / 42
    → (map area_of areas ≡ areas_of m) × (length areas ≡ count_of m)
unfolding areas_of areas_in part
areas-behind m n xs areas e h p q l =
    let k : 56 + 42 * n - 56 ≡ 42 * count_of m = omega arith in
    let r : xs ≡ part 56 (42 * count_of m) m = p ∙ ap (λ (k : ℕ). take k (drop 56 m)) k in
    let z = length_part m 56 (42 * count_of m) (omega arith) in
    (ap (map area_of) (q ∙ chunks-first 42 (length xs / 42) xs) ∙ ap areas_in r, omega (arith, ap length r))
