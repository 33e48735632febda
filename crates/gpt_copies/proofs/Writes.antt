-- What the writers' steps leave is what gpt_model says.
use mathlib.Core.Path.{◌≡◌, refl, sym, ap, ap₂, ◌∙◌}
use mathlib.Core.Logic.{◌⊎◌, inl, inr}
use mathlib.Core.List.{List, [], ◌∷◌, ◌++◌, append_assoc}
use Prim.Native.Nat.{ℕ, ◌+◌, ◌-◌, ◌*◌, ◌≤◌, ◌<◌}
use native.Mathlib.Omega.{arith}
use lib.Bits.{bit_xor}
use lib.ListN.{length, take, drop, replicate, length-drop}
use lib.Seq.{take_all}
use Rattle.octets.specs.Bytes.{le, part, put, zeros, put_chunk}
use Rattle.octets.proofs.Numbers.{length-le}
use Rattle.octets.proofs.Parts.{length-zeros, part-zeros}
use Rattle.octets.proofs.Puts.{then, put-eq, put_back, part-put-out}
use Rattle.octets.proofs.Chunks.{length_put_chunk, put_chunk-put}
use Rattle.crc_lanes.specs.Crc.{crc_update, crc32}
use Rattle.crc_lanes.proofs.Parts.{crc-parts}
use Rattle.gpt_model.specs.Table.{write_all}
use Rattle.gpt_model.specs.Disk.{Shape, Side, primary, backup, lent_bytes, header_at, entries_at, guid_in, entries_in, header, with_table}
use Rattle.gpt_model.specs.Disk.{lent, with_copy}
use Rattle.gpt_model.specs.Disk.{block0, fresh_head, fresh_tail}
use Rattle.gpt_model.proofs.Copies.{places-apart, length-entries}
use Rattle.gpt_model.proofs.Writes.{entry-written, fresh-head, fresh-tail}
use Rattle.gpt_places.specs.Invariants.{Legal}
use Rattle.gpt_places.proofs.Places.{wide, block-end, length_cut}

-- a list filled with zeros
pub filled : (xs : List ℕ) (k : ℕ) → length xs ≡ k → replicate (length xs) 0 ≡ zeros k
unfolding zeros
filled xs k e = ap (λ (m : ℕ). replicate m 0) e

-- what is written into a part that was cut out by a start and an end
pub back : (xs ys : List ℕ) (at a k e : ℕ) → at ≡ a → e ≡ at + k → a + k ≤ length xs → length ys ≡ k
    → take at xs ++ (ys ++ drop (e - at) (drop at xs)) ≡ put a ys xs
back xs ys at a k e p q h l =
    let w : e - at ≡ k = omega arith in
    ap₂ (λ (m i : ℕ). take i xs ++ (ys ++ drop m (drop i xs))) w p ∙ put_back xs ys a k h l

module _ (g : Shape) (ok : Legal g) (side : Side) (b : List ℕ) (lb : length b ≡ lent_bytes g side) where
  -- ---- the header

  -- its block set to zero
  pub block-cleared : (zs : List ℕ) (at : ℕ) → at ≡ header_at g side → zs ≡ replicate (length (take (at + g.block - at) (drop at b))) 0
      → take at b ++ (zs ++ drop (at + g.block - at) (drop at b)) ≡ put (header_at g side) (zeros g.block) b
  block-cleared zs at p q =
      let h = block-end g ok side in
      let w : zs ≡ zeros g.block = q ∙ filled (take (at + g.block - at) (drop at b)) g.block (length_cut b at g.block (at + g.block) refl (omega arith)) in
      ap (λ (x : List ℕ). take at b ++ (x ++ drop (at + g.block - at) (drop at b))) w
      ∙ back b (zeros g.block) at _ g.block _ p refl (omega arith) (length-zeros g.block)

  -- ---- the table

  pub entry-put : (i at : ℕ) (e : List ℕ) → i < 128 → length e ≡ 128 → at ≡ entries_at g side
      → put (at + i * 128) e b ≡ put (entries_at g side) (put_chunk 128 i e (entries_in g side b)) b
  entry-put i at e hi le' p = ap (λ (a : ℕ). put (a + i * 128) e b) p ∙ sym (entry-written g (wide g ok) side b lb i hi e le')

  pub guid-kept : (es : List ℕ) → length es ≡ 16384 → guid_in g side (put (entries_at g side) es b) ≡ guid_in g side b
  guid-kept es l = ap (part 56 16) (part-put-out es b (header_at g side) 92 (entries_at g side) (clear (places-apart g (wide g ok) side)))
    where
      clear : (header_at g side + 92 ≤ entries_at g side) ⊎ (entries_at g side + 16384 ≤ header_at g side)
          → (entries_at g side + length es ≤ header_at g side) ⊎ (header_at g side + 92 ≤ entries_at g side)
      clear (inl h) = inr h
      clear (inr h) = inl (omega arith)

  pub length-changed : (i : ℕ) (e : List ℕ) → i < 128 → length e ≡ 128 → length (put_chunk 128 i e (entries_in g side b)) ≡ 16384
  length-changed i e hi le' = length_put_chunk 128 128 i e (entries_in g side b) le' hi (length-entries g (wide g ok) side b lb)

  -- a table set, and the header anew
  pub table-put : (n : ℕ) (es b1 b2 : List ℕ) → length es ≡ 16384 → b1 ≡ put (entries_at g side) es b
      → b2 ≡ put (header_at g side) (header g n side (guid_in g side b1) es) b1 → b2 ≡ with_table g n side (guid_in g side b) es b
  unfolding with_table
  table-put n es b1 b2 l p q =
      q
      ∙ ap (λ (x : List ℕ). put (header_at g side) (header g n side (guid_in g side x) es) x) p
      ∙ ap (λ (d : List ℕ). put (header_at g side) (header g n side d es) (put (entries_at g side) es b)) (guid-kept es l)

  pub copy-put : (n : ℕ) (guid es b1 b2 b3 : List ℕ) (at : ℕ) → b1 ≡ put (header_at g side) (zeros g.block) b → at ≡ entries_at g side
      → b2 ≡ put at es b1 → b3 ≡ put (header_at g side) (header g n side guid es) b2 → b3 ≡ with_copy g n side guid es b
  unfolding with_table
  copy-put n guid es b1 b2 b3 at p a q r =
      r ∙ ap (put (header_at g side) (header g n side guid es)) (q ∙ ap₂ (λ (k : ℕ) (x : List ℕ). put k es x) a p)

  pub with-table : (n : ℕ) (guid es b1 b2 : List ℕ) (at : ℕ) → at ≡ entries_at g side → b1 ≡ put at es b
      → b2 ≡ put (header_at g side) (header g n side guid es) b1 → b2 ≡ with_table g n side guid es b
  unfolding with_table
  with-table n guid es b1 b2 at a q r = r ∙ ap (put (header_at g side) (header g n side guid es)) (q ∙ ap (λ (k : ℕ). put k es b) a)

-- ---- the CRC of a table with one entry replaced

pub crc-changed : (t e : List ℕ) (i x y z : ℕ) → length t ≡ 16384 → i < 128 → length e ≡ 128
    → x ≡ crc_update 0xFFFF_FFFF (take (i * 128 - 0) t) → y ≡ crc_update x e → z ≡ crc_update y (take (16384 - (i * 128 + 128)) (drop (i * 128 + 128) t))
    → bit_xor z 0xFFFF_FFFF ≡ crc32 (put_chunk 128 i e t)
crc-changed t e i x y z lt hi le' p q r =
    let whole : take (16384 - (i * 128 + 128)) (drop (i * 128 + 128) t) ≡ drop (i * 128 + 128) t =
    take_all (16384 - (i * 128 + 128)) (drop (i * 128 + 128) t) (omega (arith, length-drop (i * 128 + 128) t, lt)) in
    let whole0 : i * 128 - 0 ≡ i * 128 = omega arith in
    crc-parts (take (i * 128) t) e (drop (i * 128 + 128) t) (p ∙ ap (λ (k : ℕ). crc_update 0xFFFF_FFFF (take k t)) whole0) q (r ∙ ap (crc_update y) whole)
    ∙ ap crc32
    (sym (put_chunk-put 128 128 i e t le' hi (lt ∙ omega arith)
    ∙ put-eq (i * 128) e t (omega arith)
    ∙ append_assoc (take (i * 128) t) e (drop (i * 128 + length e) t)
    ∙ ap (λ (k : ℕ). take (i * 128) t ++ (e ++ drop (i * 128 + k) t)) le'))

-- ---- a fresh disk

-- the record in one write, as its three parts are written one after the other
pub block0-put : (n : ℕ) (h h1 h2 h3 h4 : List ℕ) → h1 ≡ put 446 (0 ∷ 0 ∷ 2 ∷ 0 ∷ 0xEE ∷ 0xFF ∷ 0xFF ∷ 0xFF ∷ []) h → h2 ≡ put 454 (le 4 1) h1
    → h3 ≡ put 458 (le 4 (n - 1)) h2 → h4 ≡ put 510 (0x55 ∷ 0xAA ∷ []) h3 → h4 ≡ write_all (block0 n) h
block0-put n h h1 h2 h3 h4 p q r s =
    let head : List ℕ = 0 ∷ 0 ∷ 2 ∷ 0 ∷ 0xEE ∷ 0xFF ∷ 0xFF ∷ 0xFF ∷ [] in
    let w : h3 ≡ put 446 (head ++ le 4 1 ++ le 4 (n - 1)) h =
    then h (head ++ le 4 1) h2 (le 4 (n - 1)) h3 446 458 (then h head h1 (le 4 1) h2 446 454 p q refl) r (omega (arith, length-le 4 1)) in
    s ∙ ap (put 510 (0x55 ∷ 0xAA ∷ [])) (w ∙ ap (λ (v : List ℕ). put 446 v h) (append_assoc head (le 4 1) (le 4 (n - 1))))

-- zeros, block 0, the header
pub head-fresh : (g : Shape) (ok : Legal g) (n : ℕ) (guid h1 h2 h3 es : List ℕ) (crc : ℕ) → h1 ≡ zeros (lent_bytes g primary)
    → es ≡ entries_in g primary h1 → crc ≡ crc32 es → h2 ≡ write_all (block0 n) h1
    → ((es : List ℕ) → crc ≡ crc32 es → h3 ≡ put (header_at g primary) (header g n primary guid es) h2)
    → h3 ≡ fresh_head g n guid (zeros 16384)
head-fresh g ok n guid h1 h2 h3 es crc p r c q f =
    let z : es ≡ zeros 16384 = r ∙ ap (entries_in g primary) p ∙ part-zeros (entries_at g primary) 16384 (lent_bytes g primary) (omega arith) in
    f (zeros 16384) (c ∙ ap crc32 z)
    ∙ ap (put (header_at g primary) (header g n primary guid (zeros 16384))) (q ∙ ap (write_all (block0 n)) p)
    ∙ sym (fresh-head g (wide g ok) n guid (omega arith))

-- zeros, the header
pub tail-fresh : (g : Shape) (ok : Legal g) (n : ℕ) (guid t1 t2 es : List ℕ) (crc : ℕ) → t1 ≡ zeros (lent_bytes g backup) → es ≡ entries_in g backup t1
    → crc ≡ crc32 es
    → ((es : List ℕ) → crc ≡ crc32 es → t2 ≡ put (header_at g backup) (header g n backup guid es) t1)
    → t2 ≡ fresh_tail g n guid (zeros 16384)
tail-fresh g ok n guid t1 t2 es crc p r c f =
    let z : es ≡ zeros 16384 = r ∙ ap (entries_in g backup) p ∙ part-zeros 0 16384 (lent_bytes g backup) (omega arith) in
    f (zeros 16384) (c ∙ ap crc32 z)
    ∙ ap (put (header_at g backup) (header g n backup guid (zeros 16384))) p
    ∙ sym (fresh-tail g (wide g ok) n guid)

-- ---- by side: zeros, block 0 in the head, and the copy

module _ (g : Shape) (n : ℕ) (guid : List ℕ) where
  pub fresh : Legal g → (side : Side) (b0 b1 b2 es : List ℕ) (crc : ℕ) → b0 ≡ zeros (lent_bytes g side) → es ≡ entries_in g side b0 → crc ≡ crc32 es
      → b1 ≡ lent side (write_all (block0 n) b0) b0
      → ((es : List ℕ) → crc ≡ crc32 es → b2 ≡ put (header_at g side) (header g n side guid es) b1)
      → b2 ≡ lent side (fresh_head g n guid (zeros 16384)) (fresh_tail g n guid (zeros 16384))
  fresh ok primary b0 b1 b2 es crc p r c q f = head-fresh g ok n guid b0 b1 b2 es crc p r c q f
  fresh ok backup b0 b1 b2 es crc p r c q f =
      tail-fresh g ok n guid b0 b2 es crc p r c (λ es e. f es e ∙ ap (put (header_at g backup) (header g n backup guid es)) q)

  pub built : (side : Side) (es b0 b1 b2 : List ℕ) → b0 ≡ zeros (lent_bytes g side) → b1 ≡ lent side (write_all (block0 n) b0) b0
      → b2 ≡ with_table g n side guid es b1 → b2 ≡ lent side (fresh_head g n guid es) (fresh_tail g n guid es)
  built primary es b0 b1 b2 p q r = r ∙ ap (with_table g n primary guid es) (q ∙ ap (write_all (block0 n)) p)
  built backup es b0 b1 b2 p q r = r ∙ ap (with_table g n backup guid es) (q ∙ p)
