-- The header that is written, a copy that is written and read back, and what each state says of head and tail.
use mathlib.Core.Path.{◌≡◌, refl, ap, ◌∙◌}
use mathlib.Core.Logic.{◌⊎◌, inl, inr}
use mathlib.Core.Bool.{true}
use mathlib.Core.List.{List, []}
use Prim.Native.Nat.{ℕ, suc, ◌+◌, ◌≤◌, ◌<◌}
use native.Mathlib.Omega.{arith}
use lib.ListN.{length, get_or, drop}
use Rattle.octets.specs.Tests.{◌and◌}
use Rattle.octets.specs.Bytes.{part, put, zeros}
use Rattle.octets.proofs.Bools.{and_i}
use Rattle.octets.proofs.Parts.{length_part, length-zeros}
use Rattle.octets.proofs.Puts.{length-put, part-put-out}
use Rattle.octets.proofs.Equal.{same_refl}
use Rattle.gpt_model.specs.Table.{good_table}
use Rattle.gpt_model.specs.Disk.{Shape, last_usable, Side, primary, backup, lent_bytes, header_at, entries_at, header_in, guid_in, entries_in}
use Rattle.gpt_model.specs.Disk.{header_fields, header_with, header_crc, header, good_copy, with_table}
use Rattle.gpt_model.proofs.Fields.{part-put-at, length-write_all, behind, field-reads}

-- ---- the header

module _ (g : Shape) (n : ℕ) (side : Side) (guid es : List ℕ) where
  pub length-header_with : (crc : ℕ) → length (header_with g n side guid es crc) ≡ 92
  unfolding header_with
  length-header_with crc = length-write_all (header_fields g n side guid es crc) (zeros 92) ∙ length-zeros 92

  pub length-header : length (header g n side guid es) ≡ 92
  unfolding header
  length-header = length-header_with (header_crc g n side guid es)

  -- a named field of the header, by its place in the list: what stands at its byte position
  pub header-reads : (crc i at k : ℕ) (vs : List ℕ) → i < 14 → get_or (header_fields g n side guid es crc) i (0, []) ≡ (at, vs)
      → behind (at + k) (drop (suc i) (header_fields g n side guid es crc)) ≡ true → length vs ≡ k → at + k ≤ 92
      → part at k (header_with g n side guid es crc) ≡ vs
  unfolding header_with
  header-reads crc i at k vs h e b l r = field-reads (header_fields g n side guid es crc) (zeros 92) i at k vs h e b l (omega (arith, length-zeros 92))

  pub header-guid : length guid ≡ 16 → part 56 16 (header g n side guid es) ≡ guid
  unfolding header ◌and◌
  header-guid e = header-reads (header_crc g n side guid es) 9 56 16 guid (omega arith) refl refl e (omega arith)

-- ---- places in head and tail

module _ (g : Shape) (wide : 92 ≤ g.block) where
  pub header-inside : (side : Side) → header_at g side + 92 ≤ lent_bytes g side
  header-inside primary = omega arith
  header-inside backup = omega arith

  pub block_inside : (side : Side) → header_at g side + g.block ≤ lent_bytes g side
  block_inside primary = omega arith
  block_inside backup = omega arith

  pub entries-inside : (side : Side) → entries_at g side + 16384 ≤ lent_bytes g side
  entries-inside primary = omega arith
  entries-inside backup = omega arith

  pub places-apart : (side : Side) → (header_at g side + 92 ≤ entries_at g side) ⊎ (entries_at g side + 16384 ≤ header_at g side)
  places-apart primary = inl (omega arith)
  places-apart backup = inr (omega arith)

  pub length-guid : (side : Side) (b : List ℕ) → length b ≡ lent_bytes g side → length (guid_in g side b) ≡ 16
  length-guid side b l =
      let i = header-inside side in length_part _ 56 16 (omega (arith, length_part b (header_at g side) 92 (omega arith)))

  pub length-entries : (side : Side) (b : List ℕ) → length b ≡ lent_bytes g side → length (entries_in g side b) ≡ 16384
  length-entries side b l = let i = entries-inside side in length_part b _ 16384 (omega arith)

-- ---- a copy that is written

module _ (g : Shape) (wide : 92 ≤ g.block) (n : ℕ) (side : Side) (guid es b : List ℕ) (le' : length es ≡ 16384) (lb : length b ≡ lent_bytes g side) where
  pub length-with_table : length (with_table g n side guid es b) ≡ lent_bytes g side
  unfolding with_table
  length-with_table = length-put _ _ _ ∙ length-put _ _ _ ∙ lb

  -- demand 2: what is written reads back
  pub written-header : header_in g side (with_table g n side guid es b) ≡ header g n side guid es
  unfolding with_table
  written-header =
      part-put-at (header g n side guid es) _ (header_at g side) 92 (length-header g n side guid es)
      (let h = header-inside g wide side in omega (arith, length-put (entries_at g side) es b))

  pub written-entries : entries_in g side (with_table g n side guid es b) ≡ es
  unfolding with_table
  written-entries =
      part-put-out (header g n side guid es) (put (entries_at g side) es b) (entries_at g side) 16384 (header_at g side) (clear (places-apart g wide side))
      ∙ part-put-at es b (entries_at g side) 16384 le' (let h = entries-inside g wide side in omega arith)
    where
      clear : (header_at g side + 92 ≤ entries_at g side) ⊎ (entries_at g side + 16384 ≤ header_at g side)
          → (header_at g side + length (header g n side guid es) ≤ entries_at g side) ⊎ (entries_at g side + 16384 ≤ header_at g side)
      clear (inl h) = inl (let l = length-header g n side guid es in omega arith)
      clear (inr h) = inr h

  module _ (lg : length guid ≡ 16) where
    pub written-guid : guid_in g side (with_table g n side guid es b) ≡ guid
    written-guid = ap (part 56 16) written-header ∙ header-guid g n side guid es lg

    pub written-good : good_table g.first (last_usable g n) es ≡ true → good_copy g n side (with_table g n side guid es b) ≡ true
    unfolding good_copy
    written-good k = rw (written-header, written-entries, header-guid g n side guid es lg) (and_i _ _ (same_refl (header g n side guid es)) k)
