-- What code that writes a copy cites: a header filled field by field, its CRC stored last, one entry copied into its place, a formatted head and tail.
use mathlib.Core.Path.{◌≡◌, refl, sym, ap, ◌∙◌}
use mathlib.Core.List.{List, [], ◌∷◌, ◌++◌, map}
use Prim.Native.Nat.{ℕ, ◌+◌, ◌-◌, ◌*◌, ◌≤◌, ◌<◌}
use native.Mathlib.Omega.{arith}
use lib.ListN.{length, take, drop, length-append}
use Rattle.octets.specs.Tests.{◌and◌}
use Rattle.octets.specs.Bytes.{le, part, put, zeros, put_chunk, flat}
use Rattle.octets.proofs.Numbers.{length-le}
use Rattle.octets.proofs.Parts.{length-zeros, part-zeros}
use Rattle.octets.proofs.Puts.{put-put, put_all, put-over, put-inside, put_self, part-put-below}
use Rattle.octets.proofs.Chunks.{put_chunk-put}
use Rattle.gpt_model.specs.Table.{write_all}
use Rattle.gpt_model.specs.Disk.{Shape, Side, primary, backup, lent_bytes, header_at, entries_at, entries_in, header_fields, header_with, header_crc}
use Rattle.gpt_model.specs.Disk.{header, with_table, block0, fresh_head, fresh_tail}
use Rattle.gpt_model.proofs.Fields.{length-write_all, put-before}
use Rattle.gpt_model.proofs.Copies.{entries-inside, length-entries}

-- ---- a header

-- fields that follow one another with no gap, from at on
abbrev Joined : ℕ → List (ℕ × List ℕ) → Type 0
Joined at [] = Unit
Joined at (f ∷ fs) = (f.0 ≡ at) × Joined (at + length f.1) fs

nothing : (at : ℕ) (xs : List ℕ) → xs ≡ put at [] xs
unfolding put
nothing at xs = refl

joined-flat : (fs : List (ℕ × List ℕ)) (xs : List ℕ) (at : ℕ) → Joined at fs → write_all fs xs ≡ put at (flat (map (λ f. f.1) fs)) xs
joined-flat [] xs at j = nothing at xs
joined-flat (f ∷ fs) xs at j =
    joined-flat fs (put f.0 f.1 xs) (at + length f.1) j.1
    ∙ ap (λ (k : ℕ). put (at + length f.1) (flat (map (λ f. f.1) fs)) (put k f.1 xs)) j.0
    ∙ put-put f.1 (flat (map (λ f. f.1) fs)) xs at

module _ (g : Shape) (n : ℕ) (side : Side) (guid es : List ℕ) (lg : length guid ≡ 16) where
  -- the fields fill all 92 bytes, whatever stood there
  pub header-over : (crc : ℕ) (xs : List ℕ) → length xs ≡ 92 → write_all (header_fields g n side guid es crc) xs ≡ header_with g n side guid es crc
  unfolding header_with le
  header-over crc xs l = whole xs l ∙ sym (whole (zeros 92) (length-zeros 92))
    where
      whole : (xs : List ℕ) → length xs ≡ 92 → write_all (header_fields g n side guid es crc) xs ≡ flat (map (λ f. f.1) (header_fields g n side guid es crc))
      whole xs l =
          joined-flat (header_fields g n side guid es crc) xs 0
          (refl, (refl, (refl, (refl, (refl, (refl, (refl, (refl, (refl, (refl, (omega arith, (omega arith, (omega arith, (omega arith, tt))))))))))))))
          ∙ put_all _ xs (simp (length-append, lg) (omega arith))

-- another CRC in its field
pub crc-put : (g : Shape) (n : ℕ) (side : Side) (guid es : List ℕ) (old crc : ℕ)
    → put 16 (le 4 crc) (header_with g n side guid es old) ≡ header_with g n side guid es crc
unfolding header_with ◌and◌
crc-put g n side guid es old crc =
    let front = write_all (take 3 (header_fields g n side guid es old)) (zeros 92) in
    let rest = drop 4 (header_fields g n side guid es old) in
    put-before rest (le 4 crc) (put 16 (le 4 old) front) 16 4 (length-le 4 crc) refl
    ∙ ap (write_all rest) (put-over (le 4 old) (le 4 crc) front 16 (length-le 4 _ ∙ sym (length-le 4 _)))

-- its CRC is stored last
pub header-stored : (g : Shape) (n : ℕ) (side : Side) (guid es : List ℕ)
    → put 16 (le 4 (header_crc g n side guid es)) (header_with g n side guid es 0) ≡ header g n side guid es
unfolding header
header-stored g n side guid es = crc-put g n side guid es 0 (header_crc g n side guid es)

-- ---- one entry

module _ (g : Shape) (wide : 92 ≤ g.block) (side : Side) (b : List ℕ) (lb : length b ≡ lent_bytes g side)
    (i : ℕ) (hi : i < 128) (e : List ℕ) (le' : length e ≡ 128) where
  entry-put : put_chunk 128 i e (entries_in g side b) ≡ put (i * 128) e (entries_in g side b)
  entry-put = put_chunk-put 128 128 i e (entries_in g side b) le' hi (length-entries g wide side b lb)

  -- the table with entry i replaced, written whole, is a copy of 128 bytes
  pub entry-written : put (entries_at g side) (put_chunk 128 i e (entries_in g side b)) b ≡ put (entries_at g side + i * 128) e b
  entry-written =
      let h = entries-inside g wide side in
      ap (λ (x : List ℕ). put (entries_at g side) x b) entry-put ∙ put-inside e b (entries_at g side) 16384 (i * 128) (omega arith) (omega arith)

-- ---- a formatting: no entry byte need be written on zeros

module _ (g : Shape) (wide : 92 ≤ g.block) (n : ℕ) (guid : List ℕ) where
  pub fresh-tail : fresh_tail g n guid (zeros 16384) ≡ put (header_at g backup) (header g n backup guid (zeros 16384)) (zeros (lent_bytes g backup))
  unfolding with_table
  fresh-tail =
      ap (put (header_at g backup) (header g n backup guid (zeros 16384)))
      (ap (λ (x : List ℕ). put 0 x (zeros (lent_bytes g backup))) (sym (part-zeros 0 16384 (lent_bytes g backup) (omega arith)))
      ∙ put_self (zeros (lent_bytes g backup)) 0 16384 (omega (arith, length-zeros (lent_bytes g backup))))

  -- where block 0 and the header's block have 512 bytes together, or more
  pub fresh-head : 256 ≤ g.block
      → fresh_head g n guid (zeros 16384) ≡ put (header_at g primary) (header g n primary guid (zeros 16384))
      (write_all (block0 n) (zeros (lent_bytes g primary)))
  unfolding with_table
  fresh-head h =
      let z = zeros (lent_bytes g primary) in
      let b = write_all (block0 n) (zeros (lent_bytes g primary)) in
      let r = (0 ∷ 0 ∷ 2 ∷ 0 ∷ 0xEE ∷ 0xFF ∷ 0xFF ∷ 0xFF ∷ []) ++ (le 4 1 ++ le 4 (n - 1)) in
      let clear : part (entries_at g primary) 16384 b ≡ zeros 16384 =
      part-put-below (0x55 ∷ 0xAA ∷ []) (put 446 r z) (2 * g.block) 16384 510 (omega arith)
      ∙ part-put-below r z (2 * g.block) 16384 446 (omega (arith, length-append (le 4 1) (le 4 (n - 1)), length-le 4 1, length-le 4 (n - 1)))
      ∙ part-zeros (2 * g.block) 16384 (lent_bytes g primary) (omega arith) in
      ap (put (header_at g primary) (header g n primary guid (zeros 16384)))
      (ap (λ (x : List ℕ). put (entries_at g primary) x b) (sym clear)
      ∙ put_self b (entries_at g primary) 16384 (omega (arith, length-write_all (block0 n) z, length-zeros (lent_bytes g primary))))
