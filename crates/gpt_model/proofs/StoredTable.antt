-- A table by its bytes: which block lies in which partition, and the entry rules.
use mathlib.Core.Path.{◌≡◌, sym, ap, subst, ◌∙◌}
use mathlib.Core.Logic.{◌⊎◌, inl, inr, ◌↔◌}
use mathlib.Core.Bool.{true, false}
use mathlib.Core.List.{List}
use Prim.Native.Nat.{ℕ, ◌+◌, ◌*◌, ◌≤◌, ◌<◌}
use native.Mathlib.Omega.{arith}
use Rattle.octets.specs.Bytes.{unle, part, is_zero, same}
use Rattle.octets.proofs.Bools.{bool_cases, clash}
use Rattle.octets.proofs.Parts.{part-part}
use Rattle.octets.proofs.Equal.{same_false, same_refl}
use Rattle.octets.proofs.Tests.{any-get, any-make}
use Rattle.octets.proofs.Chunks.{chunk_part}
use Rattle.gpt_model.specs.Table.{type_of, unique_of, first_of, last_of, attributes_of, partition_name_of, unused, BlockRange, no_blocks, spans}
use Rattle.gpt_model.specs.Table.{range_of, apart, entry_ok, ranges_of, good_table}
use Rattle.gpt_model.specs.Ranges.{block_in}
use Rattle.gpt_model.specs.Stored.{EntryUsed, entry_type, entry_unique, entry_first, entry_last, entry_attributes, entry_name_bytes, EntryHolds, TableRules}
use Rattle.gpt_model.specs.Claims.{InSomeByBytes}
use Rattle.gpt_model.proofs.Room.{block_in-make, block_in-get, block_in-none}
use Rattle.gpt_model.proofs.Counts.{apart-get}
use Rattle.gpt_model.proofs.Entries.{unused-type, range-unused, range-used, Used, ok-used, used-ok, unused-ok, ok-bounded, free-apart, get_or-range}
use Rattle.gpt_model.proofs.Entries.{length-ranges_of, entry_at, good-at, good-pair, good-make}

-- ---- entry i

module _ (es : List ℕ) (i : ℕ) (h : i < 128) where
  pub entry-is : entry_at es i ≡ part (i * 128) 128 es
  entry-is = chunk_part 128 128 i es h

  field_is : (at k : ℕ) → at + k ≤ 128 → part at k (entry_at es i) ≡ part (i * 128 + at) k es
  field_is at k l = ap (part at k) entry-is ∙ part-part at k (i * 128) 128 es l

  pub type-is : type_of (entry_at es i) ≡ entry_type es i
  type-is = field_is 0 16 (omega arith) ∙ ap (λ (x : ℕ). part x 16 es) (omega arith)

  pub unique-is : unique_of (entry_at es i) ≡ entry_unique es i
  unique-is = field_is 16 16 (omega arith)

  pub first-is : first_of (entry_at es i) ≡ entry_first es i
  first-is = ap unle (field_is 32 8 (omega arith))

  pub last-is : last_of (entry_at es i) ≡ entry_last es i
  last-is = ap unle (field_is 40 8 (omega arith))

  pub attributes-is : attributes_of (entry_at es i) ≡ entry_attributes es i
  attributes-is = ap unle (field_is 48 8 (omega arith))

  pub name_is : partition_name_of (entry_at es i) ≡ entry_name_bytes es i
  name_is = field_is 56 72 (omega arith)

  pub used-is : unused (entry_at es i) ≡ is_zero (entry_type es i)
  used-is = unused-type (entry_at es i) ∙ ap is_zero type-is

  range-is : EntryUsed es i → range_of (entry_at es i) ≡ spans (entry_first es i) (entry_last es i)
  range-is u = range-used (entry_at es i) (used-is ∙ u) ∙ ap (λ (f : ℕ). spans f (last_of (entry_at es i))) first-is ∙ ap (spans (entry_first es i)) last-is

  -- a block in the range of entry i
  pub holds-is : (b : ℕ) → (block_in b (range_of (entry_at es i)) ≡ true) ↔ EntryHolds es i b
  holds-is b = (to (bool_cases (unused (entry_at es i))), λ w. ap (block_in b) (range-is w.0) ∙ block_in-make b _ _ w.1 w.2)
    where
      to : (unused (entry_at es i) ≡ true) ⊎ (unused (entry_at es i) ≡ false) → block_in b (range_of (entry_at es i)) ≡ true → EntryHolds es i b
      to (inl u) e = absurd (block_in-none b (ap (block_in b) (sym (range-unused (entry_at es i) u)) ∙ e))
      to (inr u) e =
          let used : EntryUsed es i = sym used-is ∙ u in
          let w = block_in-get b (entry_first es i) (entry_last es i) (ap (block_in b) (sym (range-is used)) ∙ e) in
          (used, w.0, w.1)

pub in_some_by_bytes : InSomeByBytes
in_some_by_bytes es b = (
  λ e. let w = any-get (block_in b) (ranges_of es) no_blocks e in
      let h : w.0 < 128 = omega (arith, w.1, length-ranges_of es) in
      (w.0, h, (holds-is es w.0 h b).0 (ap (block_in b) (sym (get_or-range es w.0)) ∙ w.2)),
  λ w. let h = w.1 in
      any-make (block_in b) (ranges_of es) no_blocks w.0 (omega (arith, length-ranges_of es))
      (ap (block_in b) (get_or-range es w.0) ∙ (holds-is es w.0 h b).1 w.2),
)

-- ---- the entry rules

module _ (first last : ℕ) (es : List ℕ) where
  rules-get : good_table first last es ≡ true → TableRules first last es
  rules-get k = record {
    unique = λ i h u. ap is_zero (sym (unique-is es i h)) ∙ (own i h u).unique;
    range = λ i h u. let w = own i h u in
        let f = first-is es i h in
        let l = last-is es i h in
        let a = w.low in
        let b = w.mid in
        let c = w.high in
        (omega arith, omega arith, omega arith);
    differ = λ i j hi hj ne u v e.
        clash (subst (λ (x : List ℕ). same (unique_of (entry_at es i)) x ≡ true) (unique-is es i hi ∙ e ∙ sym (unique-is es j hj)) (same_refl _))
        (good-pair first last es k i j hi hj ne (used-is es i hi ∙ u) (used-is es j hj ∙ v)).0;
    apart = λ i j b hi hj ne p q.
        apart-get _ _ (good-pair first last es k i j hi hj ne (used-is es i hi ∙ p.0) (used-is es j hj ∙ q.0)).1 b
        ((holds-is es i hi b).1 p) ((holds-is es j hj b).1 q);
  }
    where
      own : (i : ℕ) → i < 128 → EntryUsed es i → Used first last (entry_at es i)
      own i h u = ok-used first last (entry_at es i) (good-at first last es k i h) (used-is es i h ∙ u)

  rules-make : TableRules first last es → good_table first last es ≡ true
  rules-make r = good-make first last es (λ i h. each i h (bool_cases (unused (entry_at es i))))
      (λ i j hi hj l u v. two i j hi hj l (sym (used-is es i hi) ∙ u) (sym (used-is es j hj) ∙ v))
    where
      own : (i : ℕ) → (h : i < 128) → EntryUsed es i → Used first last (entry_at es i)
      own i h u =
          let w = r.range i h u in
          let a = w.0 in
          let b = w.1 in
          let c = w.2 in
          let f = first-is es i h in
          let l = last-is es i h in
          record {
            used = used-is es i h ∙ u;
            unique = ap is_zero (unique-is es i h) ∙ r.unique i h u;
            low = omega arith;
            mid = omega arith;
            high =
                omega arith;
          }

      each : (i : ℕ) → i < 128 → (unused (entry_at es i) ≡ true) ⊎ (unused (entry_at es i) ≡ false) → entry_ok first last (entry_at es i) ≡ true
      each i h (inl u) = unused-ok first last (entry_at es i) u
      each i h (inr u) = used-ok first last (entry_at es i) (own i h (sym (used-is es i h) ∙ u))

      two : (i j : ℕ) → i < 128 → j < 128 → i < j → EntryUsed es i → EntryUsed es j
          → (same (unique_of (entry_at es i)) (unique_of (entry_at es j)) ≡ false) × (apart (range_of (entry_at es i)) (range_of (entry_at es j)) ≡ true)
      two i j hi hj l u v = (
        same_false _ _ (λ e. r.differ i j hi hj (λ z. omega arith) u v (sym (unique-is es i hi) ∙ e ∙ unique-is es j hj)),
        subst (λ (s : BlockRange). apart s (range_of (entry_at es j)) ≡ true) (sym (range-is es i hi u))
            (free-apart first last (entry_first es i) (entry_last es i) (range_of (entry_at es j))
            (ok-bounded first last _ (used-ok first last _ (own j hj v))) (r.range i hi u).1
            (λ b p q. clear b p q (bool_cases (block_in b (range_of (entry_at es j)))))),
      )
        where
          clear : (b : ℕ) → entry_first es i ≤ b → b ≤ entry_last es i
              → (block_in b (range_of (entry_at es j)) ≡ true) ⊎ (block_in b (range_of (entry_at es j)) ≡ false)
              → block_in b (range_of (entry_at es j)) ≡ false
          clear b p q (inr e) = e
          clear b p q (inl e) = absurd (r.apart i j b hi hj (λ z. omega arith) (u, p, q) ((holds-is es j hj b).0 e))

  pub rules-iff : (good_table first last es ≡ true) ↔ TableRules first last es
  rules-iff = (rules-get, rules-make)
