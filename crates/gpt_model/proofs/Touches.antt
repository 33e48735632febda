-- An edit as three writes in each copy: 128 bytes of the entry and the two CRC fields.
use mathlib.Core.Path.{◌≡◌, refl, sym, ap, ap₂, subst, ◌∙◌}
use mathlib.Core.Logic.{◌⊎◌, inl, inr}
use mathlib.Core.Bool.{true}
use mathlib.Core.List.{List}
use Prim.Native.Nat.{ℕ, ◌+◌, ◌*◌, ◌≤◌, ◌<◌}
use native.Mathlib.Omega.{arith}
use lib.ListN.{length, get_or, take, drop}
use Rattle.octets.specs.Tests.{◌and◌}
use Rattle.octets.specs.Bytes.{le, part, put, zeros, put_chunk}
use Rattle.octets.proofs.Numbers.{length-le}
use Rattle.octets.proofs.Parts.{length_part}
use Rattle.octets.proofs.Puts.{length-put, put-over, put-inside, part-put-in, part-put-out, get_or-put-out}
use Rattle.octets.proofs.Chunks.{length_put_chunk}
use Rattle.crc_lanes.specs.Crc.{crc32}
use Rattle.gpt_model.specs.Table.{write_all}
use Rattle.gpt_model.specs.Disk.{Shape, last_usable, Side, primary, backup, lent_bytes, header_at, entries_at, guid_in, entries_in, header_fields}
use Rattle.gpt_model.specs.Disk.{header_with, header_crc, header, good_copy, lent, state, table_of, with_table}
use Rattle.gpt_model.specs.Calls.{edit, Outcome, change, lengths_of, accepted_outcome}
use Rattle.gpt_model.specs.Claims.{EditTouches}
use Rattle.gpt_model.specs.Stored.{Outside}
use Rattle.gpt_model.proofs.Fields.{put-before}
use Rattle.gpt_model.proofs.Edits.{FitsEdit}
use Rattle.gpt_model.proofs.Copies.{header-inside, places-apart, length-entries, length-with_table}
use Rattle.gpt_model.proofs.States.{good-header, one-good, one-primary, one-backup}
use Rattle.gpt_model.proofs.Writes.{entry-written}
use Rattle.gpt_model.proofs.Outcomes.{step-accepted, row1, row11, open-common, edit-open}
use Rattle.gpt_model.proofs.Steps.{edit-fits}

-- ---- the header of another table under the same disk GUID: fields 16 and 88 differ

module _ (g : Shape) (n : ℕ) (side : Side) (guid es es' : List ℕ) where
  header-anew : (crc crc' : ℕ) → header_with g n side guid es' crc' ≡ put 16 (le 4 crc') (put 88 (le 4 (crc32 es')) (header_with g n side guid es crc))
  unfolding header_with ◌and◌
  header-anew crc crc' =
      let front = write_all (take 3 (header_fields g n side guid es crc)) (zeros 92) in
      let behind = drop 4 (header_fields g n side guid es' crc') in
      sym (ap (put 16 (le 4 crc')) (put-over (le 4 (crc32 es)) (le 4 (crc32 es')) _ 88 (length-le 4 _ ∙ sym (length-le 4 _)))
      ∙ put-before behind (le 4 crc') (put 16 (le 4 crc) front) 16 4 (length-le 4 crc') refl
      ∙ ap (write_all behind) (put-over (le 4 crc) (le 4 crc') front 16 (length-le 4 _ ∙ sym (length-le 4 _))))

  pub header-changes : header g n side guid es' ≡ put 16 (le 4 (header_crc g n side guid es')) (put 88 (le 4 (crc32 es')) (header g n side guid es))
  unfolding header
  header-changes = header-anew (header_crc g n side guid es) (header_crc g n side guid es')

-- ---- one copy

-- a header written over its place b, whose fields u at i and v at j are new
two_fields : (u v b : List ℕ) (a k i j : ℕ) → a + k ≤ length b → i + length u ≤ k → j + length v ≤ k
    → put a (put i u (put j v (part a k b))) b ≡ put (a + i) u (put (a + j) v b)
two_fields u v b a k i j h p q =
    let c = put (a + j) v b in
    let lc : a + k ≤ length c = omega (arith, length-put (a + j) v b) in
    ap (λ (x : List ℕ). put a (put i u x) b) (sym (part-put-in v b a k j q))
    ∙ sym (put-over (put j v (part a k b)) (put i u (part a k c)) b a
    (length-put j v (part a k b) ∙ length_part b a k h ∙ sym (length-put i u (part a k c) ∙ length_part c a k lc)))
    ∙ ap (put a (put i u (part a k c))) (put-inside v b a k j h q)
    ∙ put-inside u c a k i lc p

module _ (g : Shape) (wide : 92 ≤ g.block) (n : ℕ) (side : Side) (b : List ℕ) (lb : length b ≡ lent_bytes g side) (good : good_copy g n side b ≡ true)
    (i : ℕ) (hi : i < 128) (e : List ℕ) (le' : length e ≡ 128) where
  abbrev es' : List ℕ
  es' = put_chunk 128 i e (entries_in g side b)

  header-stays : part (header_at g side) 92 (put (entries_at g side + i * 128) e b) ≡ header g n side (guid_in g side b) (entries_in g side b)
  header-stays = part-put-out e b (header_at g side) 92 (entries_at g side + i * 128) (clear (places-apart g wide side)) ∙ good-header g n side b good
    where
      clear : (header_at g side + 92 ≤ entries_at g side) ⊎ (entries_at g side + 16384 ≤ header_at g side)
          → (entries_at g side + i * 128 + length e ≤ header_at g side) ⊎ (header_at g side + 92 ≤ entries_at g side + i * 128)
      clear (inl h) = inr (omega arith)
      clear (inr h) = inl (omega arith)

  -- the copy with one entry replaced: three writes
  pub three-writes : with_table g n side (guid_in g side b) es' b
      ≡ put (header_at g side + 16) (le 4 (header_crc g n side (guid_in g side b) es'))
      (put (header_at g side + 88) (le 4 (crc32 es')) (put (entries_at g side + i * 128) e b))
  unfolding with_table
  three-writes =
      let c = put (entries_at g side + i * 128) e b in
      let crc = le 4 (header_crc g n side (guid_in g side b) es') in
      let new : header g n side (guid_in g side b) es' ≡ put 16 crc (put 88 (le 4 (crc32 es')) (part (header_at g side) 92 c)) =
      header-changes g n side (guid_in g side b) (entries_in g side b) es'
      ∙ ap (λ (x : List ℕ). put 16 crc (put 88 (le 4 (crc32 es')) x)) (sym header-stays) in
      ap₂ (put (header_at g side)) new (entry-written g wide side b lb i hi e le')
      ∙ two_fields (le 4 (header_crc g n side (guid_in g side b) es')) (le 4 (crc32 es')) c (header_at g side) 92 16 88
      (let h = header-inside g wide side in omega (arith, length-put (entries_at g side + i * 128) e b))
      (omega (arith, length-le 4 (header_crc g n side (guid_in g side b) es'))) (omega (arith, length-le 4 (crc32 es')))

  pub others-stay : (k : ℕ) → Outside (entries_at g side + i * 128) 128 k → Outside (header_at g side + 16) 4 k → Outside (header_at g side + 88) 4 k
      → get_or (with_table g n side (guid_in g side b) es' b) k 0 ≡ get_or b k 0
  others-stay k p q r =
      ap (λ (x : List ℕ). get_or x k 0) three-writes
      ∙ get_or-put-out _ _ (header_at g side + 16) k (subst (λ (w : ℕ). Outside (header_at g side + 16) w k) (sym (length-le 4 _)) q)
      ∙ get_or-put-out _ _ (header_at g side + 88) k (subst (λ (w : ℕ). Outside (header_at g side + 88) w k) (sym (length-le 4 _)) r)
      ∙ get_or-put-out e b (entries_at g side + i * 128) k (subst (λ (w : ℕ). Outside (entries_at g side + i * 128) w k) (sym le') p)

-- ---- both copies

-- what is to be shown of the bytes b' that stand where b stood
abbrev Stays : Shape → Side → ℕ → List ℕ → List ℕ → Type 0
Stays g side i b b' =
    (length b' ≡ length b)
    × ((k : ℕ) → Outside (entries_at g side + i * 128) 128 k → Outside (header_at g side + 16) 4 k → Outside (header_at g side + 88) 4 k
    → get_or b' k 0 ≡ get_or b k 0)

stays : (g : Shape) → 92 ≤ g.block → (n : ℕ) (side : Side) (b es : List ℕ) (i : ℕ) (e : List ℕ) → length b ≡ lent_bytes g side → good_copy g n side b ≡ true
    → es ≡ entries_in g side b → i < 128 → length e ≡ 128 → Stays g side i b (with_table g n side (guid_in g side b) (put_chunk 128 i e es) b)
stays g wide n side b es i e lb good q hi le' =
    subst (λ (x : List ℕ). Stays g side i b (with_table g n side (guid_in g side b) (put_chunk 128 i e x) b)) (sym q) (
      length-with_table g wide n side _ _ b (length_put_chunk 128 128 i e _ le' hi (length-entries g wide side b lb)) lb ∙ sym lb,
      others-stay g wide n side b lb good i hi e le',
    )

pub edit_touches : EditTouches
edit_touches g n h t d wide e =
    subst (λ (o : Outcome). (side : Side)
    → Stays g side (change g.first (last_usable g n) (table_of g n h t) d).index (lent side h t) (lent side o.head o.tail))
    (sym (step-accepted g n h t (edit d) e)) both
  where
    l : (length h ≡ lent_bytes g primary) × (length t ≡ lent_bytes g backup) × (lengths_of d ≡ true)
    l = row1 g n h t (lengths_of d) (open-common g n h t d (edit-open g n h t d e))

    one : state g n h t ≡ 1
    one = row11 g n h t d (edit-open g n h t d e)

    f : FitsEdit g.first (last_usable g n) (table_of g n h t) d
    f = edit-fits g wide n h t d e

    both : (side : Side) → Stays g side (change g.first (last_usable g n) (table_of g n h t) d).index (lent side h t)
        (lent side (accepted_outcome g n h t (edit d)).head (accepted_outcome g n h t (edit d)).tail)
    both primary = stays g wide n primary h _ _ _ l.0 (one-good g n h t one).0 (one-primary g n h t one) f.index f.len
    both backup = stays g wide n backup t _ _ _ l.1 (one-good g n h t one).1 (one-backup g n h t one) f.index f.len
