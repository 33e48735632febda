-- An edit that no row refuses: the one entry that it writes keeps the table's rules, and the ledger changes as its range does.
use mathlib.Core.Path.{◌≡◌, refl, sym, ap, ap₂, subst, ◌∙◌}
use mathlib.Core.Logic.{◌≢◌}
use mathlib.Core.Bool.{true, false, not, true≢false}
use mathlib.Core.List.{List, [], map}
use mathlib.Core.Option.{Option, none, some}
use Prim.Native.Nat.{ℕ, suc, ◌+◌, ◌-◌, ◌^◌, ◌≤◌, ◌<◌}
use native.Mathlib.Omega.{arith}
use lib.Dec.{leb, eqb}
use lib.ListN.{length, get_or, set, length-set, get_or-map}
use lib.Seq.{get_or-set_other, set-get_or}
use borrow.Author.Tests.{leb-true, eqb-true, eqb-false}
use Rattle.octets.specs.Tests.{◌and◌, any}
use Rattle.octets.specs.Rows.{Row, refusal}
use Rattle.octets.specs.Bytes.{zeros, is_zero, same}
use Rattle.octets.proofs.Bools.{and_l, and_r, and-skip, or-false-l, or-false-r, clash, not_f}
use Rattle.octets.proofs.Tests.{find_ix-get, any_none}
use Rattle.octets.proofs.Parts.{length-zeros}
use Rattle.octets.proofs.Rows.{passes}
use Rattle.octets.proofs.Chunks.{length-chunks, length-chunk}
use Rattle.gpt_model.specs.Table.{BlockRange, no_blocks, spans, range_size, bounded, apart, unique_of, first_of, last_of, name_bytes, unused, range_of}
use Rattle.gpt_model.specs.Table.{entry_ok, entries, ranges_of, good_table}
use Rattle.gpt_model.specs.declared.NewPartition.{NewPartition}
use Rattle.gpt_model.specs.Calls.{Edit, add, delete, resize, rename, carries, is_none, or_zero, lowest_unused, new_entry, start_for, table_rows, change}
use Rattle.gpt_model.specs.Calls.{lengths_of}
use Rattle.gpt_model.specs.Lists.{Ledger, book_edit}
use Rattle.gpt_model.proofs.Room.{Room, room-get, start-some}
use Rattle.gpt_model.proofs.Fields.{length-new, new-type, new-unique, new-first, new-last, length-sized, sized-type, sized-unique, sized-first, sized-last}
use Rattle.gpt_model.proofs.Fields.{length-named}
use Rattle.gpt_model.proofs.Entries.{same-sym, Alike, ok-alike, pair-alike, behind-alike, range-unused, range-used, unused-type, typed-alike, unused-zeros}
use Rattle.gpt_model.proofs.Entries.{Used, ok-used, used-ok, unused-ok, ok-bounded, PairOk, get_or-range, length-ranges_of, entry_at, good-at, good-pair}
use Rattle.gpt_model.proofs.Entries.{room_apart}

pub nonzero : (x : ℕ) → eqb x 0 ≡ false → 0 < x
nonzero x e = let w : x ≢ 0 = eqb-false x 0 e in omega arith

pub some-or_zero : (o : Option ℕ) → is_none o ≡ false → o ≡ some (or_zero o)
some-or_zero none e = absurd (true≢false e)
some-or_zero (some s) e = refl

-- the entry of an accepted add is used
new-used : (p : NewPartition) (s : ℕ) → length p.kind ≡ 16 → is_zero p.kind ≡ false → unused (new_entry p s) ≡ false
new-used p s lt zt = unused-type (new_entry p s) ∙ ap is_zero (new-type p s lt) ∙ zt

-- the edit d, whose reply begins with k, writes the entry e into slot i of the table es
pub record Fits (first last : ℕ) (es : List ℕ) (d : Edit) (k i : ℕ) (e : List ℕ) : Type 0 where
  pub index : i < 128
  pub len : length e ≡ 128
  pub ok : entry_ok first last e ≡ true
  pub pair : (j : ℕ) → j < 128 → j ≢ i → PairOk e (entry_at es j)
  pub sizes : (l : Ledger) → l.sizes ≡ map range_size (ranges_of es) → (book_edit l d k).sizes ≡ set l.sizes i (range_size (range_of e))
  pub balance : (l : Ledger) → l.sizes ≡ map range_size (ranges_of es)
      → (book_edit l d k).granted + (l.back + range_size (range_of (entry_at es i))) ≡ l.granted + ((book_edit l d k).back + range_size (range_of e))

-- what the reply of d begins with
abbrev pub replied : ℕ → ℕ → List ℕ → Edit → ℕ
replied first last es d = get_or (change first last es d).values 0 0

abbrev pub FitsEdit : ℕ → ℕ → List ℕ → Edit → Type 0
FitsEdit first last es d = Fits first last es d (replied first last es d) (change first last es d).index (change first last es d).entry

module _ (first last : ℕ) (small : last < 256 ^ 8) (es : List ℕ) (len : length es ≡ 16384) (good : good_table first last es ≡ true) where
  used-at : (i : ℕ) → i < 128 → unused (entry_at es i) ≡ false → Used first last (entry_at es i)
  used-at i h u = ok-used first last (entry_at es i) (good-at first last es good i h) u

  len-at : (i : ℕ) → i < 128 → length (entry_at es i) ≡ 128
  len-at i h = length-chunk 128 128 i es h len

  bounded_at : (j : ℕ) → j < 128 → bounded first last (range_of (entry_at es j)) ≡ true
  bounded_at j h = ok-bounded first last (entry_at es j) (good-at first last es good j h)

  size-was : (l : Ledger) → l.sizes ≡ map range_size (ranges_of es) → (i : ℕ) → get_or l.sizes i 0 ≡ range_size (range_of (entry_at es i))
  size-was l e i = ap (λ (x : List ℕ). get_or x i 0) e ∙ get_or-map range_size (ranges_of es) i no_blocks ∙ ap range_size (get_or-range es i)

  slot-number : (k : ℕ) → not (leb 1 k and leb k 128) ≡ false → (1 ≤ k) × (k ≤ 128)
  slot-number k e = let c = not_f _ e in (leb-true _ _ (and_l _ _ c), leb-true _ _ (and_r _ _ c))

  -- an edit that keeps the unique GUID, and whose range is apart from the others
  kept : (i : ℕ) (e : List ℕ) → i < 128 → unused (entry_at es i) ≡ false → unique_of e ≡ unique_of (entry_at es i)
      → ((j : ℕ) → j < 128 → j ≢ i → unused (entry_at es j) ≡ false → apart (range_of e) (range_of (entry_at es j)) ≡ true)
      → (j : ℕ) → j < 128 → j ≢ i → PairOk e (entry_at es j)
  kept i e hi u q far j hj ne a b = (
    subst (λ (x : List ℕ). same x (unique_of (entry_at es j)) ≡ false) (sym q)
        (good-pair first last es good i j hi hj (λ x. ne (sym x)) u b).0,
    far j hj ne b,
  )

  deletes : (k : ℕ) → refusal (table_rows first last es (delete k)) ≡ none → FitsEdit first last es (delete k)
  deletes k e =
      let w = slot-number k (passes 12 (table_rows first last es (delete k)) e) in
      let z : range_size (range_of (zeros 128)) ≡ 0 = ap range_size (range-unused (zeros 128) (unused-zeros 128)) in
      record {
        index = omega arith;
        len = length-zeros 128;
        ok = unused-ok first last (zeros 128) (unused-zeros 128);
        pair = λ j h ne a b. absurd (clash (unused-zeros 128) a);
        sizes = λ l q. ap (set l.sizes (k - 1)) (sym z);
        balance = λ l q. omega (arith, size-was l q (k - 1));
      }

  renames : (k : ℕ) (name : List ℕ) → length name ≡ 36 → refusal (table_rows first last es (rename k name)) ≡ none → FitsEdit first last es (rename k name)
  renames k name ln z = record {
    index = hi;
    len = length-named e le' (name_bytes name);
    ok = ok-alike first last e' e alike (good-at first last es good (k - 1) hi);
    pair = λ j hj ne. pair-alike e' e (entry_at es j) alike (good-pair first last es good (k - 1) j hi hj (λ x. ne (sym x)));
    sizes = λ l q. sym (ap (set l.sizes (k - 1)) (ap range_size alike.2 ∙ sym (size-was l q (k - 1))) ∙ set-get_or l.sizes (k - 1) 0);
    balance = λ l q. omega (arith, ap range_size alike.2);
  }
    where
      hi : k - 1 < 128
      hi = let w = slot-number k (passes 12 (table_rows first last es (rename k name)) z) in omega arith

      e : List ℕ
      e = entry_at es (k - 1)

      le' : length (entry_at es (k - 1)) ≡ 128
      le' = len-at (k - 1) hi

      e' : List ℕ
      e' = (change first last es (rename k name)).entry

      alike : Alike e' e
      alike = behind-alike e (name_bytes name) 56 (omega arith)

  resizes : (k size : ℕ) → refusal (table_rows first last es (resize k size)) ≡ none → FitsEdit first last es (resize k size)
  resizes k size z = record {
    index = hi;
    len = length-sized e le' l;
    ok = used-ok first last e' used';
    pair = kept (k - 1) e' hi u (sized-unique e le' l) far;
    sizes = λ b q. ap (set b.sizes (k - 1)) (sym size-now);
    balance = λ b q. omega (arith, size-was b q (k - 1), size-now);
  }
    where
      rows : List Row
      rows = table_rows first last es (resize k size)

      u : unused (entry_at es (k - 1)) ≡ false
      u = passes 13 rows z

      hi : k - 1 < 128
      hi = let w = slot-number k (passes 12 rows z) in omega arith

      pos : 0 < size
      pos = nonzero size (passes 20 rows z)

      e : List ℕ
      e = entry_at es (k - 1)

      f : ℕ
      f = first_of (entry_at es (k - 1))

      l : ℕ
      l = first_of (entry_at es (k - 1)) + size - 1

      room : Room (set (ranges_of es) (k - 1) no_blocks) last size (first_of (entry_at es (k - 1)))
      room = room-get _ _ _ _ (not_f _ (passes 25 rows z))

      le' : length (entry_at es (k - 1)) ≡ 128
      le' = len-at (k - 1) hi

      e' : List ℕ
      e' = (change first last es (resize k size)).entry

      w : Used first last (entry_at es (k - 1))
      w = used-at (k - 1) hi u

      fits : first_of (entry_at es (k - 1)) + size - 1 < 256 ^ 8
      fits = let a = room.0 in let p = pos in omega arith

      used' : Used first last e'
      used' = record {
        used = typed-alike e' e (sized-type e le' l) ∙ u;
        unique = ap is_zero (sized-unique e le' l) ∙ w.unique;
        low = rw (sized-first e le' l) w.low;
        mid = rw (sized-first e le' l, sized-last e le' l fits) (let p = pos in omega arith);
        high = rw (sized-last e le' l fits) (let a = room.0 in let p = pos in omega arith);
      }

      range-now : range_of e' ≡ spans f l
      range-now = range-used e' used'.used ∙ ap₂ spans (sized-first e le' l) (sized-last e le' l fits)

      size-now : range_size (range_of e') ≡ size
      size-now = ap range_size range-now ∙ (let p = pos in omega arith)

      other : (j : ℕ) → j ≢ k - 1 → get_or (set (ranges_of es) (k - 1) no_blocks) j no_blocks ≡ range_of (entry_at es j)
      other j ne = get_or-set_other (ranges_of es) (k - 1) j no_blocks no_blocks ne ∙ get_or-range es j

      far : (j : ℕ) → j < 128 → j ≢ k - 1 → unused (entry_at es j) ≡ false → apart (range_of e') (range_of (entry_at es j)) ≡ true
      far j hj ne b =
          rw range-now
          (subst (λ (s : BlockRange). apart (spans f l) s ≡ true) (other j ne)
          (room_apart first last (set (ranges_of es) (k - 1) no_blocks) size f j pos room
          (omega (arith, length-set (ranges_of es) (k - 1) no_blocks, length-ranges_of es))
          (subst (λ (s : BlockRange). bounded first last s ≡ true) (sym (other j ne)) (bounded_at j hj))))

  -- a new entry in an unused slot i, at a start s with room: for add, and for a start that is given
  pub new-fits : (i s : ℕ) (p : NewPartition)
      → i < 128 → unused (entry_at es i) ≡ true → 0 < p.size → first ≤ s → Room (ranges_of es) last p.size s
      → length p.kind ≡ 16 → length p.unique ≡ 16 → is_zero p.kind ≡ false → is_zero p.unique ≡ false → any (carries unique_of p.unique) (entries es) ≡ false
      → Fits first last es (add p) (suc i) i (new_entry p s)
  new-fits i s p hi u pos low room lt lu zt zu fresh = record {
    index = hi;
    len = length-new p s;
    ok = used-ok first last e' used';
    pair = far;
    sizes = λ b q. ap₂ (set b.sizes) same-i (sym size-now);
    balance = λ b q. omega (arith, size-now, ap range_size (range-unused (entry_at es i) u));
  }
    where
      same-i : suc i - 1 ≡ i
      same-i = omega arith

      l : ℕ
      l = s + p.size - 1

      e' : List ℕ
      e' = new_entry p s

      fs : s < 256 ^ 8
      fs = let a = room.0 in omega arith

      fl : s + p.size - 1 < 256 ^ 8
      fl = let a = room.0 in omega arith

      unique-is : unique_of (new_entry p s) ≡ p.unique
      unique-is = new-unique p s lu

      first-is : first_of (new_entry p s) ≡ s
      first-is = new-first p s fs

      last-is : last_of (new_entry p s) ≡ s + p.size - 1
      last-is = new-last p s fl

      used' : Used first last e'
      used' = record {
        used = new-used p s lt zt;
        unique = ap is_zero unique-is ∙ zu;
        low = rw first-is low;
        mid = rw (first-is, last-is) (omega arith);
        high = rw last-is (let a = room.0 in omega arith);
      }

      range-now : range_of e' ≡ spans s l
      range-now = range-used e' used'.used ∙ ap₂ spans first-is last-is

      size-now : range_size (range_of e') ≡ p.size
      size-now = ap range_size range-now ∙ omega arith

      far : (j : ℕ) → j < 128 → j ≢ i → PairOk e' (entry_at es j)
      far j hj ne a b = (
        subst (λ (x : List ℕ). same x (unique_of (entry_at es j)) ≡ false) (sym unique-is)
            (same-sym _ _ (and-skip _ _ (ap not b) (any_none (carries unique_of p.unique) (entries es) [] fresh j (omega (arith, length-chunks 128 128 es))))),
        rw range-now
            (subst (λ (x : BlockRange). apart (spans s l) x ≡ true) (get_or-range es j)
            (room_apart first last (ranges_of es) p.size s j pos room (omega (arith, length-ranges_of es))
            (subst (λ (x : BlockRange). bounded first last x ≡ true) (sym (get_or-range es j)) (bounded_at j hj)))),
      )

  adds : (p : NewPartition) → lengths_of (add p) ≡ true → refusal (table_rows first last es (add p)) ≡ none → FitsEdit first last es (add p)
  adds p lens e =
      let rows = table_rows first last es (add p) in
      let w = start-some (ranges_of es) first last p.size p.alignment (or_zero (start_for first last es p)) (some-or_zero _ (passes 25 rows e)) in
      let f = find_ix-get unused (entries es) [] (not_f _ (passes 24 rows e)) in
      new-fits (lowest_unused es) (or_zero (start_for first last es p)) p (omega (arith, f.0, length-chunks 128 128 es)) f.1
      (nonzero p.size (passes 20 rows e)) w.0 w.1.1 (eqb-true _ _ (and_l _ _ (and_l _ _ lens))) (eqb-true _ _ (and_r _ _ (and_l _ _ lens)))
      (passes 21 rows e) (or-false-l _ _ (passes 22 rows e)) (or-false-r _ _ (passes 22 rows e))

  pub fits : (d : Edit) → lengths_of d ≡ true → refusal (table_rows first last es d) ≡ none → FitsEdit first last es d
  fits (add p) lens e = adds p lens e
  fits (delete k) lens e = deletes k e
  fits (resize k size) lens e = resizes k size e
  fits (rename k name) lens e = renames k name (eqb-true _ _ lens) e
