-- An entry of which another tool rewrites some bytes, in both copies and with right CRCs: where it keeps the entry rules the disk still reads as state 1.
use mathlib.Core.Path.{◌≡◌, refl, sym, ap, subst, ◌∙◌}
use mathlib.Core.Logic.{◌≢◌}
use mathlib.Core.Bool.{true}
use mathlib.Core.List.{List, [], ◌∷◌}
use mathlib.Core.Option.{none}
use Prim.Native.Nat.{ℕ, ◌+◌, ◌*◌, ◌≤◌, ◌<◌}
use native.Mathlib.Omega.{arith}
use lib.ListN.{length, set}
use lib.Seq.{set-get_or}
use Rattle.octets.specs.Rows.{refusal}
use Rattle.octets.specs.Bytes.{put, put_chunk}
use Rattle.octets.proofs.Puts.{length-put}
use Rattle.octets.proofs.Chunks.{length-chunk}
use Rattle.gpt_model.specs.Table.{no_blocks, range_of, entry_ok, ranges_of, good_table}
use Rattle.gpt_model.specs.Disk.{Shape, last_usable, in_range, primary, backup, lent_bytes, guid_in, table_of, with_table}
use Rattle.gpt_model.specs.Calls.{delete, read, accepted, Outcome, rows_of, step}
use Rattle.gpt_model.specs.Claims.{AnyBytesRead, AnyNameReads}
use Rattle.gpt_model.specs.AttributeClaims.{AnyAttributesRead}
use Rattle.gpt_model.proofs.Entries.{PairOk, ok-alike, pair-alike, behind-alike, get_or-range, entry_at, good-at, good-pair, ranges-put, good-put}
use Rattle.gpt_model.proofs.Copies.{length-entries}
use Rattle.gpt_model.proofs.States.{Holds, one-primary, readable-good, edit-holds}
use Rattle.gpt_model.proofs.Outcomes.{step-accepted, row1, row2, open-common, open_none, read_none, state-is}
use Rattle.gpt_model.proofs.StoredEdits.{within}

module _ (g : Shape) (n : ℕ) (h t : List ℕ) (wide : 92 ≤ g.block) (i : ℕ) (hi : i < 128) (one : (step g n h t read).answer ≡ accepted (1 ∷ [])) where
  abbrev first : ℕ
  first = g.first

  abbrev last : ℕ
  last = last_usable g n

  abbrev es : List ℕ
  es = table_of g n h t

  sizes : (length h ≡ lent_bytes g primary) × (length t ≡ lent_bytes g backup) × (true ≡ true)
  sizes = row1 g n h t true (read_none g n h t 1 one)

  range : in_range g n ≡ true
  range = row2 g n h t true (read_none g n h t 1 one)

  len : length es ≡ 16384
  len = ap length (one-primary g n h t (state-is g n h t 1 one)) ∙ length-entries g wide primary h sizes.0

  pub good-was : good_table first last es ≡ true
  good-was = readable-good g n h t (λ z. omega (arith, state-is g n h t 1 one))

  pub length-was : length (entry_at es i) ≡ 128
  length-was = length-chunk 128 128 i es hi len

  -- bytes from `at` on, in entry i
  module _ (bytes : List ℕ) (at : ℕ) (fit : at + length bytes ≤ 128) where
    abbrev e : List ℕ
    e = put at bytes (entry_at es i)

    abbrev es' : List ℕ
    es' = put (i * 128 + at) bytes es

    abbrev h' : List ℕ
    h' = with_table g n primary (guid_in g primary h) es' h

    abbrev t' : List ℕ
    t' = with_table g n backup (guid_in g backup t) es' t

    le' : length e ≡ 128
    le' = length-put at bytes (entry_at es i) ∙ length-was

    is : put_chunk 128 i e es ≡ es'
    is = within es len i hi bytes at fit le'

    pub reads-again : entry_ok first last e ≡ true → ((j : ℕ) → j < 128 → j ≢ i → PairOk e (entry_at es j))
        → ((step g n h' t' read).answer ≡ accepted (1 ∷ [])) × (table_of g n h' t' ≡ es') × (ranges_of es' ≡ set (ranges_of es) i (range_of e))
    reads-again ok pair = (
      ap (λ (o : Outcome). o.answer) (step-accepted g n h' t' read again) ∙ ap (λ (x : ℕ). accepted (x ∷ [])) w.reads,
      w.table,
      ap ranges_of (sym is) ∙ ranges-put first last es len i e hi le',
    )
      where
        w : Holds g n h' t' es'
        w =
            edit-holds g wide n h t sizes.0 sizes.1 es' (length-put (i * 128 + at) bytes es ∙ len)
            (subst (λ (x : List ℕ). good_table first last x ≡ true) is (good-put first last es len i e hi le' good-was ok pair)) (state-is g n h t 1 one)

        again : refusal (rows_of g n h' t' read) ≡ none
        again = open-common g n h' t' (delete 0) (open_none g n h' t' (delete 0) w.len_head w.len_tail refl range w.reads)

-- the entry rules do not look behind the last block
any-bytes : (at width : ℕ) → 48 ≤ at → at + width ≤ 128 → AnyBytesRead at width
any-bytes at width lo hi g n h t i bytes wide small len one =
    let es = table_of g n h t in
    let d = entry_at es i in
    let good = good-was g n h t wide i small one in
    let same = behind-alike d bytes at lo in
    let w = reads-again g n h t wide i small one bytes at (omega arith)
    (ok-alike g.first (last_usable g n) (put at bytes d) d same (good-at g.first (last_usable g n) es good i small))
    (λ j hj ne. pair-alike (put at bytes d) d (entry_at es j) same (good-pair g.first (last_usable g n) es good i j small hj (λ x. ne (sym x)))) in
    (w.0, w.1, w.2 ∙ ap (set (ranges_of es) i) (same.2 ∙ sym (get_or-range es i)) ∙ set-get_or (ranges_of es) i no_blocks)

pub any_name_reads : AnyNameReads
any_name_reads = any-bytes 56 72 (omega arith) (omega arith)

pub any_attributes_read : AnyAttributesRead
any_attributes_read = any-bytes 48 8 (omega arith) (omega arith)
