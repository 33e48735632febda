-- A resize to the present size: it is accepted, and no byte changes.
use mathlib.Core.Path.{◌≡◌, refl, sym, ap, ap₂, subst, ◌∙◌}
use mathlib.Core.Logic.{◌⊎◌, inl, inr, ◌≢◌}
use mathlib.Core.Bool.{true, false, not}
use mathlib.Core.List.{List, [], ◌∷◌}
use mathlib.Core.Option.{none}
use Prim.Native.Nat.{ℕ, suc, ◌+◌, ◌-◌, ◌*◌, ◌/◌, ◌%◌, ◌≤◌, ◌<◌}
use native.Mathlib.Decide.{dec_lt, ℕ_discrete}
use native.Mathlib.Omega.{arith}
use lib.Dec.{ltb}
use lib.ListN.{length, get_or, set, length-set, get_or-eq_default}
use lib.Seq.{get_or-set_same, get_or-set_other}
use borrow.Author.Tests.{leb-true, ltb-true, ne_eqb}
use Rattle.octets.specs.Tests.{◌and◌}
use Rattle.octets.specs.Rows.{refusal}
use Rattle.octets.specs.Bytes.{le, unle, part, put, put_chunk}
use Rattle.octets.proofs.Bools.{and_l, and_r, or_cases, bool_cases, not_f}
use Rattle.octets.proofs.Rows.{rows_from, pick-false, passes, refusal-append}
use Rattle.octets.proofs.Tests.{any_false}
use Rattle.octets.proofs.Parts.{length_part, get_d_part}
use Rattle.octets.proofs.Puts.{put_self}
use Rattle.octets.proofs.Chunks.{chunk_part, put_chunk-put}
use Rattle.gpt_model.specs.Table.{first_of, last_of, unused, BlockRange, no_blocks, spans, range_of, apart, ranges_of, good_table}
use Rattle.gpt_model.specs.Disk.{Shape, last_usable, Side, primary, backup, lent_bytes, header_at, entries_at, guid_in, entries_in, good_copy, table_of}
use Rattle.gpt_model.specs.Disk.{with_table}
use Rattle.gpt_model.specs.Ranges.{block_in}
use Rattle.gpt_model.specs.Calls.{delete, resize, edit, accepted, outcome, fits_at, edited, rows_of}
use Rattle.gpt_model.specs.Claims.{ResizeToSame}
use Rattle.gpt_model.proofs.Room.{block_in-get, not-in-none, room-make}
use Rattle.gpt_model.proofs.Entries.{range-unused, range-used, Used, ok-used, get_or-range, length-ranges_of, entry_at, good-at, good-pair}
use Rattle.gpt_model.proofs.Copies.{header-inside, entries-inside, length-entries}
use Rattle.gpt_model.proofs.States.{good-header, one-good, one-primary, one-backup, readable-good}
use Rattle.gpt_model.proofs.Outcomes.{step-accepted, row1, open-common, row11, edit-open}

-- bytes are those of the number that they stand for
le-unle : (xs : List ℕ) → ((i : ℕ) → get_or xs i 0 < 256) → le (length xs) (unle xs) ≡ xs
unfolding le unle
le-unle [] f = refl
le-unle (x ∷ xs) f =
    let a : x < 256 = f 0 in
    let u = unle xs in
    let lo : (x + 256 * u) % 256 ≡ x = omega arith in
    let hi : (x + 256 * u) / 256 ≡ u = omega arith in
    ap₂ ◌∷◌ lo (ap (le (length xs)) hi ∙ le-unle xs (λ i. f (suc i)))

part_bytes : (xs : List ℕ) (at k : ℕ) → at + k ≤ length xs → ((i : ℕ) → get_or xs i 0 < 256) → (i : ℕ) → get_or (part at k xs) i 0 < 256
part_bytes xs at k h f i = go (dec_lt i k)
  where
    go : Dec (i < k) → get_or (part at k xs) i 0 < 256
    go (yes l) = subst (λ (x : ℕ). x < 256) (sym (get_d_part xs at k i l)) (f (at + i))
    go (no l) = subst (λ (x : ℕ). x < 256) (sym (get_or-eq_default (part at k xs) 0 (omega (arith, length_part xs at k h)))) (omega arith)

-- a block of one range lies in no range apart from it
outside : (f l b : ℕ) (u : BlockRange) → apart (spans f l) u ≡ true → f ≤ b → b ≤ l → block_in b u ≡ false
unfolding apart
outside f l b no_blocks a p q = not-in-none b
outside f l b (spans g m) a p q = go (bool_cases (block_in b (spans g m))) (or_cases _ _ a)
  where
    go : (block_in b (spans g m) ≡ true) ⊎ (block_in b (spans g m) ≡ false) → (ltb l g ≡ true) ⊎ (ltb m f ≡ true) → block_in b (spans g m) ≡ false
    go (inr w) c = w
    go (inl w) (inl c) = let r = block_in-get b g m w in absurd (omega (arith, ltb-true l g c))
    go (inl w) (inr c) = let r = block_in-get b g m w in absurd (omega (arith, ltb-true m f c))

-- a used entry of a good table has room for its own blocks
module _ (first last : ℕ) (es : List ℕ) (good : good_table first last es ≡ true) (k : ℕ) (lo : 1 ≤ k) (hi : k ≤ 128)
    (used : unused (entry_at es (k - 1)) ≡ false) where
  abbrev e : List ℕ
  e = entry_at es (k - 1)

  own : Used first last e
  own = ok-used first last e (good-at first last es good (k - 1) (omega arith)) used

  other-range : (b j : ℕ) → j < 128 → j ≢ k - 1 → first_of e ≤ b → b ≤ last_of e → block_in b (range_of (entry_at es j)) ≡ false
  other-range b j h ne p q = go (bool_cases (unused (entry_at es j)))
    where
      go : (unused (entry_at es j) ≡ true) ⊎ (unused (entry_at es j) ≡ false) → block_in b (range_of (entry_at es j)) ≡ false
      go (inl w) = ap (block_in b) (range-unused (entry_at es j) w) ∙ not-in-none b
      go (inr w) =
          outside (first_of e) (last_of e) b (range_of (entry_at es j))
          (subst (λ (s : BlockRange). apart s (range_of (entry_at es j)) ≡ true) (range-used e used)
          (good-pair first last es good (k - 1) j (omega arith) h (λ z. ne (sym z)) used w).1) p q

  range-free : (b j : ℕ) → j < 128 → first_of e ≤ b → b ≤ last_of e → Dec (j ≡ k - 1)
      → block_in b (get_or (set (ranges_of es) (k - 1) no_blocks) j no_blocks) ≡ false
  range-free b j h p q (yes z) =
      ap (block_in b) (ap (λ (x : ℕ). get_or (set (ranges_of es) (k - 1) no_blocks) x no_blocks) z
      ∙ get_or-set_same (ranges_of es) (k - 1) no_blocks no_blocks (omega (arith, length-ranges_of es)))
      ∙ not-in-none b
  range-free b j h p q (no z) = ap (block_in b) (get_or-set_other (ranges_of es) (k - 1) j no_blocks no_blocks z ∙ get_or-range es j) ∙ other-range b j h z p q

  pub own_room : fits_at last es k (suc (last_of e) - first_of e) ≡ true
  own_room =
      let u = own in
      let m = u.mid in
      let t = u.high in
      room-make (set (ranges_of es) (k - 1) no_blocks) last (suc (last_of e) - first_of e) (first_of e) (
        omega arith,
        λ b p q. any_false (block_in b) (set (ranges_of es) (k - 1) no_blocks) no_blocks
            (λ j h. range-free b j (omega (arith, length-set (ranges_of es) (k - 1) no_blocks, length-ranges_of es)) p (omega arith) (ℕ_discrete j (k - 1))),
      )

  -- and its last block, written again, changes nothing
  module _ (long : length es ≡ 16384) (bytes : (i : ℕ) → get_or es i 0 < 256) where
    chunk : e ≡ part ((k - 1) * 128) 128 es
    chunk = chunk_part 128 128 (k - 1) es (omega arith)

    length-e : length e ≡ 128
    length-e = ap length chunk ∙ length_part es ((k - 1) * 128) 128 (omega arith)

    last-bytes : le 8 (last_of e) ≡ part 40 8 e
    last-bytes =
        ap (λ (w : ℕ). le w (last_of e)) (sym (length_part e 40 8 (omega (arith, length-e))))
        ∙ le-unle (part 40 8 e)
        (part_bytes e 40 8 (omega (arith, length-e))
        (λ i. subst (λ (x : List ℕ). get_or x i 0 < 256) (sym chunk) (part_bytes es ((k - 1) * 128) 128 (omega arith) bytes i)))

    pub written_same : edited first last es (resize k (suc (last_of e) - first_of e)) ≡ es
    written_same =
        let m = own.mid in
        let l : first_of e + (suc (last_of e) - first_of e) - 1 ≡ last_of e = omega arith in
        let p : put 40 (le 8 (first_of e + (suc (last_of e) - first_of e) - 1)) e ≡ e =
        ap (λ (x : ℕ). put 40 (le 8 x) e) l ∙ ap (λ (x : List ℕ). put 40 x e) last-bytes ∙ put_self e 40 8 (omega (arith, length-e)) in
        ap (λ (x : List ℕ). put_chunk 128 (k - 1) x es) p
        ∙ put_chunk-put 128 128 (k - 1) e es length-e (omega arith) long
        ∙ ap (λ (x : List ℕ). put ((k - 1) * 128) x es) chunk
        ∙ put_self es ((k - 1) * 128) 128 (omega arith)

-- a good copy, written again from its own parts, is as it was
copy-again : (g : Shape) → 92 ≤ g.block → (n : ℕ) (side : Side) (b : List ℕ) → length b ≡ lent_bytes g side → good_copy g n side b ≡ true
    → with_table g n side (guid_in g side b) (entries_in g side b) b ≡ b
unfolding with_table
copy-again g wide n side b l good =
    ap₂ (put (header_at g side)) (sym (good-header g n side b good)) (put_self b (entries_at g side) 16384 (omega (arith, entries-inside g wide side)))
    ∙ put_self b (header_at g side) 92 (omega (arith, header-inside g wide side))

pub resize_to_same : ResizeToSame
resize_to_same g n h t k wide bytes e =
    let o = edit-open g n h t (delete k) e in
    let one = row11 g n h t (delete k) o in
    let len = row1 g n h t true (open-common g n h t (delete k) o) in
    let first = g.first in
    let last = last_usable g n in
    let es = table_of g n h t in
    let size = suc (last_of (entry_at es (k - 1))) - first_of (entry_at es (k - 1)) in
    let num = not_f _ (passes 12 (rows_of g n h t (edit (delete k))) e) in
    let lo = leb-true 1 k (and_l _ _ num) in
    let hi = leb-true k 128 (and_r _ _ num) in
    let used = passes 13 (rows_of g n h t (edit (delete k))) e in
    let good = readable-good g n h t (λ z. omega (arith, one, z)) in
    let both = one-good g n h t one in
    let head-table = one-primary g n h t one in
    let long : length es ≡ 16384 = ap length head-table ∙ length-entries g wide primary h len.0 in
    let u = own first last es good k lo hi used in
    let m = u.mid in
    let positive : size ≢ 0 = λ z. omega arith in
    let rows : refusal (rows_of g n h t (edit (resize k size))) ≡ none =
    refusal-append (rows_of g n h t (edit (delete k))) (rows_from 20 (rows_of g n h t (edit (resize k size)))) e
    ∙ pick-false _ 20 _ (ne_eqb _ _ positive) ∙ pick-false _ 25 _ (ap not (own_room first last es good k lo hi used)) in
    let same : edited first last es (resize k size) ≡ es =
    written_same first last es good k lo hi used long
    (λ i. subst (λ (x : List ℕ). get_or x i 0 < 256) (sym head-table)
    (part_bytes h (entries_at g primary) 16384 (omega (arith, len.0, entries-inside g wide primary)) bytes i)) in
    step-accepted g n h t (edit (resize k size)) rows
    ∙ ap₂ (λ (x y : List ℕ). outcome (accepted []) x y)
    (ap (λ (x : List ℕ). with_table g n primary (guid_in g primary h) x h) (same ∙ head-table) ∙ copy-again g wide n primary h len.0 both.0)
    (ap (λ (x : List ℕ). with_table g n backup (guid_in g backup t) x t) (same ∙ one-backup g n h t one) ∙ copy-again g wide n backup t len.1 both.1)
