-- What formatting writes, by bytes: when it is accepted, both copies, their header tails, block 0.
use mathlib.Core.Path.{◌≡◌, refl, sym, ap, subst, ◌∙◌}
use mathlib.Core.Logic.{◌⊎◌, inl, inr}
use mathlib.Core.Bool.{false}
use mathlib.Core.List.{List, [], ◌∷◌, ◌++◌}
use mathlib.Core.Option.{none, some}
use Prim.Native.Nat.{ℕ, ◌+◌, ◌-◌, ◌*◌, ◌≤◌}
use native.Mathlib.Omega.{arith}
use lib.ListN.{length, length-append}
use borrow.Author.Tests.{eqb-true, leb-true, le-leb}
use Rattle.octets.specs.Rows.{refusal}
use Rattle.octets.specs.Bytes.{le, part, put, zeros, is_zero}
use Rattle.octets.proofs.Bools.{and_l, and_r, and_i, not_f, option_cases}
use Rattle.octets.proofs.Rows.{passes}
use Rattle.octets.proofs.Numbers.{length-le}
use Rattle.octets.proofs.Parts.{part-here, part-skip, part-part, part-whole, length-zeros, part-zeros}
use Rattle.octets.proofs.Puts.{length-put, part-put-below, part-put-above}
use Rattle.gpt_model.specs.Table.{write_all}
use Rattle.gpt_model.specs.Disk.{Shape, last_usable, primary, backup, lent_bytes, header, block0, with_table, fresh_head, fresh_tail}
use Rattle.gpt_model.specs.Calls.{accepted, Outcome, outcome, format_rows, format}
use Rattle.gpt_model.specs.Stored.{SizesOk, FormatSays}
use Rattle.gpt_model.specs.Claims.{FormatWrites}
use Rattle.gpt_model.proofs.Fields.{part-put-at, length-write_all}
use Rattle.gpt_model.proofs.Entries.{empty-good}
use Rattle.gpt_model.proofs.Copies.{length-header, written-guid, written-entries}
use Rattle.gpt_model.proofs.States.{fresh_holds, one-good}
use Rattle.gpt_model.proofs.Demand3.{format-refused, formatted}
use Rattle.gpt_model.proofs.StoredCopies.{good_by_bytes}

module _ (g : Shape) (wide : 512 ≤ g.block) (n : ℕ) (guid : List ℕ) where
  abbrev es : List ℕ
  es = zeros 16384

  abbrev lead : List ℕ
  lead = 0 ∷ 0 ∷ 2 ∷ 0 ∷ 0xEE ∷ 0xFF ∷ 0xFF ∷ 0xFF ∷ []

  -- the record of block 0
  abbrev entry : List ℕ
  entry = lead ++ (le 4 1 ++ le 4 (n - 1))

  abbrev blank : List ℕ
  blank = zeros (lent_bytes g primary)

  length-entry : length entry ≡ 16
  length-entry = omega (arith, length-append (le 4 1) (le 4 (n - 1)), length-le 4 1, length-le 4 (n - 1))

  -- bytes of the head before the entries that are none of the header
  module _ (a k : ℕ) (low : a + k ≤ 2 * g.block) where
    head-before : a + k ≤ g.block → part a k (fresh_head g n guid es) ≡ part a k (write_all (block0 n) blank)
    unfolding with_table
    head-before h =
        part-put-above (header g n primary guid es) _ a k g.block h
        ∙ part-put-above es (write_all (block0 n) blank) a k (2 * g.block) low

    head_tail : g.block + 92 ≤ a → part a k (fresh_head g n guid es) ≡ zeros k
    unfolding with_table
    head_tail h =
        part-put-below (header g n primary guid es) _ a k g.block (omega (arith, length-header g n primary guid es))
        ∙ part-put-above es (write_all (block0 n) blank) a k (2 * g.block) low
        ∙ part-put-below (0x55 ∷ 0xAA ∷ []) (put 446 entry blank) a k 510 (omega arith)
        ∙ part-put-below entry blank a k 446 (omega (arith, length-entry))
        ∙ part-zeros a k (lent_bytes g primary) (omega arith)

  tail-tail : (a k : ℕ) → 16384 + 92 ≤ a → a + k ≤ 16384 + g.block → part a k (fresh_tail g n guid es) ≡ zeros k
  unfolding with_table
  tail-tail a k h l =
      part-put-below (header g n backup guid es) _ a k 16384 (omega (arith, length-header g n backup guid es))
      ∙ part-put-below es (zeros (lent_bytes g backup)) a k 0 (omega (arith, length-zeros 16384))
      ∙ part-zeros a k (lent_bytes g backup) (omega arith)

  -- block 0
  zero-part : (a k : ℕ) → a + k ≤ g.block → (a + k ≤ 446) ⊎ ((462 ≤ a) × ((a + k ≤ 510) ⊎ (512 ≤ a))) → part a k (fresh_head g n guid es) ≡ zeros k
  zero-part a k l w =
      head-before a k (omega arith) l
      ∙ go w
      ∙ part-zeros a k (lent_bytes g primary) (omega arith)
    where
      go : (a + k ≤ 446) ⊎ ((462 ≤ a) × ((a + k ≤ 510) ⊎ (512 ≤ a))) → part a k (write_all (block0 n) blank) ≡ part a k blank
      go (inl h) = part-put-above (0x55 ∷ 0xAA ∷ []) (put 446 entry blank) a k 510 (omega arith) ∙ part-put-above entry blank a k 446 h
      go (inr (h, inl x)) = part-put-above (0x55 ∷ 0xAA ∷ []) (put 446 entry blank) a k 510 x
          ∙ part-put-below entry blank a k 446 (omega (arith, length-entry))
      go (inr (h, inr x)) = part-put-below (0x55 ∷ 0xAA ∷ []) (put 446 entry blank) a k 510 x
          ∙ part-put-below entry blank a k 446 (omega (arith, length-entry))

  entry-part : (at k : ℕ) → at + k ≤ 16 → part (446 + at) k (fresh_head g n guid es) ≡ part at k entry
  entry-part at k h =
      head-before (446 + at) k (omega arith) (omega arith)
      ∙ part-put-above (0x55 ∷ 0xAA ∷ []) (put 446 entry blank) (446 + at) k 510 (omega arith)
      ∙ sym (part-part at k 446 16 (put 446 entry blank) h)
      ∙ ap (part at k) (part-put-at entry blank 446 16 length-entry (omega (arith, length-zeros (lent_bytes g primary))))

  module _ (lg : length guid ≡ 16) where
    written : (h t : List ℕ) → SizesOk g n h t → FormatSays g n guid (fresh_head g n guid es) (fresh_tail g n guid es)
    written h t l =
        let w = fresh_holds g l.wide n guid es lg (length-zeros 16384) (empty-good g.first (last_usable g n)) in
        let k = one-good g n _ _ w.reads in
        let here : SizesOk g n (fresh_head g n guid es) (fresh_tail g n guid es) =
        record { wide = l.wide; head = w.len_head; tail = w.len_tail; low = l.low; high = l.high } in
        let good = good_by_bytes g n _ _ here in
        let lh : length (write_all (block0 n) blank) ≡ lent_bytes g primary = length-write_all (block0 n) blank ∙ length-zeros _ in
        let lt : length (zeros (lent_bytes g backup)) ≡ lent_bytes g backup = length-zeros _ in
        record {
          head = good.0.0 k.0;
          tail = good.1.0 k.1;
          guids = (
            sym (part-part 56 16 g.block 92 _ (omega arith)) ∙ written-guid g l.wide n primary guid es _ (length-zeros 16384) lh lg,
            sym (part-part 56 16 16384 92 _ (omega arith)) ∙ written-guid g l.wide n backup guid es _ (length-zeros 16384) lt lg,
          );
          entries = (
            written-entries g l.wide n primary guid es _ (length-zeros 16384) lh,
            written-entries g l.wide n backup guid es _ (length-zeros 16384) lt,
          );
          tails = (head_tail _ _ (omega arith) (omega arith), tail-tail _ _ (omega arith) (omega arith));
          block0 = zero-part 0 446 (omega arith) (inl (omega arith));
          at446 = entry-part 0 8 (omega arith) ∙ part-here lead (le 4 1 ++ le 4 (n - 1)) 8 refl;
          at454 = entry-part 8 4 (omega arith) ∙ part-skip lead (le 4 1 ++ le 4 (n - 1)) 8 0 4 refl ∙ part-here (le 4 1) (le 4 (n - 1)) 4 (length-le 4 1);
          at458 =
              entry-part 12 4 (omega arith) ∙ part-skip lead (le 4 1 ++ le 4 (n - 1)) 8 4 4 refl
              ∙ part-skip (le 4 1) (le 4 (n - 1)) 4 0 4 (length-le 4 1) ∙ part-whole (le 4 (n - 1)) 4 (length-le 4 (n - 1));
          at462 = zero-part 462 48 (omega arith) (inr (omega arith, inl (omega arith)));
          at510 =
              head-before 510 2 (omega arith) (omega arith)
              ∙ part-put-at (0x55 ∷ 0xAA ∷ []) (put 446 entry blank) 510 2 refl
              (omega (arith, length-put 446 entry blank, length-zeros (lent_bytes g primary)));
          at512 = zero-part 512 _ (omega arith) (inr (omega arith, inr (omega arith)));
        }

pub format_writes : FormatWrites
format_writes g n guid h t wide =
    ((to, from), λ a. let w = to a in subst (λ (o : Outcome). FormatSays g n guid o.head o.tail) (sym (done w)) (written g wide n guid w.1 h t w.0))
  where
    done : SizesOk g n h t × (length guid ≡ 16) × (is_zero guid ≡ false)
        → format g n guid h t ≡ outcome (accepted []) (fresh_head g n guid (zeros 16384)) (fresh_tail g n guid (zeros 16384))
    done w =
        let l = w.0 in
        formatted g n guid h t
        (record {
          wide = l.wide;
          range = and_i _ _ (le-leb _ _ l.low) (le-leb _ _ l.high);
          len_guid = w.1;
          nonzero = w.2;
          len_head = l.head;
          len_tail =
              l.tail;
        })

    from : SizesOk g n h t × (length guid ≡ 16) × (is_zero guid ≡ false) → (format g n guid h t).answer ≡ accepted []
    from w = ap (λ (o : Outcome). o.answer) (done w)

    to : (format g n guid h t).answer ≡ accepted [] → SizesOk g n h t × (length guid ≡ 16) × (is_zero guid ≡ false)
    to a = go (option_cases (refusal (format_rows g n guid h t)))
      where
        go : (refusal (format_rows g n guid h t) ≡ none) ⊎ ((k : ℕ) × (refusal (format_rows g n guid h t) ≡ some k)) → SizesOk g n h t × (length guid ≡ 16)
            × (is_zero guid ≡ false)
        go (inr w) =
            let b = ap (λ (o : Outcome). o.answer) (format-refused g n guid h t w.0 w.1) in
            let z : ◌≡◌ {A = ℕ} 0 1 = cc in
            absurd (omega arith)
        go (inl e) =
            let x = not_f _ (passes 1 (format_rows g n guid h t) e) in
            let r = not_f _ (passes 2 (format_rows g n guid h t) e) in (
              record {
                wide = omega arith;
                head = eqb-true _ _ (and_l _ _ (and_l _ _ x));
                tail = eqb-true _ _ (and_r _ _ (and_l _ _ x));
                low = leb-true _ _ (and_l _ _ r);
                high = leb-true _ _ (and_r _ _ r);
              },
              eqb-true _ _ (and_r _ _ x),
              passes 3 (format_rows g n guid h t) e,
            )
