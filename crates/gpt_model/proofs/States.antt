-- What each state says of head and tail, and what a write of both copies, a formatting and a repair leave: state 1 with the table that was written.
use mathlib.Core.Path.{◌≡◌, refl, sym, subst, ◌∙◌}
use mathlib.Core.Logic.{◌≢◌}
use mathlib.Core.Bool.{Bool, true, false}
use mathlib.Core.List.{List}
use Prim.Native.Nat.{ℕ, ◌≤◌}
use native.Mathlib.Decide.{ℕ_discrete}
use native.Mathlib.Omega.{arith}
use lib.ListN.{length}
use borrow.Author.Tests.{eq-eqb, ne_eqb}
use Rattle.octets.specs.Bytes.{put, zeros, same}
use Rattle.octets.proofs.Bools.{and_l, and_r, and_i}
use Rattle.octets.proofs.Parts.{length-zeros}
use Rattle.octets.proofs.Puts.{length-put}
use Rattle.octets.proofs.Equal.{same_true, same_refl}
use Rattle.gpt_model.specs.Table.{good_table}
use Rattle.gpt_model.specs.Disk.{Shape, last_usable, Side, primary, backup, lent_bytes, header_at, header_in, guid_in, entries_in, header, good_copy}
use Rattle.gpt_model.specs.Disk.{state_of, same_copies, state, table_of, with_table, with_copy, block0, fresh_head, fresh_tail}
use Rattle.gpt_model.specs.Calls.{repaired}
use Rattle.gpt_model.proofs.Fields.{length-write_all}
use Rattle.gpt_model.proofs.Copies.{length-guid, length-entries, length-with_table, written-entries, written-guid, written-good}

-- head and tail read as state 1 with the table es
pub record Holds (g : Shape) (n : ℕ) (h t es : List ℕ) : Type 0 where
  pub len_head : length h ≡ lent_bytes g primary
  pub len_tail : length t ≡ lent_bytes g backup
  pub reads : state g n h t ≡ 1
  pub table : table_of g n h t ≡ es

-- ---- states by what they say of the two copies

pub one-all : (a b s : Bool) → state_of a b s ≡ 1 → (a ≡ true) × (b ≡ true) × (s ≡ true)
one-all true true true e = (refl, refl, refl)
one-all true true false e = absurd (omega arith)
one-all true false s e = absurd (omega arith)
one-all false true s e = absurd (omega arith)
one-all false false s e = absurd (omega arith)

four-backup : (a b s : Bool) → state_of a b s ≡ 4 → b ≡ true
four-backup true true true e = absurd (omega arith)
four-backup true true false e = absurd (omega arith)
four-backup true false s e = absurd (omega arith)
four-backup false true s e = refl
four-backup false false s e = absurd (omega arith)

other-primary : (a b s : Bool) → state_of a b s ≢ 4 → state_of a b s ≢ 0 → a ≡ true
other-primary true b s p q = refl
other-primary false true s p q = absurd (p refl)
other-primary false false s p q = absurd (q refl)

pub good-table : (g : Shape) (n : ℕ) (side : Side) (b : List ℕ) → good_copy g n side b ≡ true
    → good_table g.first (last_usable g n) (entries_in g side b) ≡ true
unfolding good_copy
good-table g n side b k = and_r _ _ k

pub good-header : (g : Shape) (n : ℕ) (side : Side) (b : List ℕ) → good_copy g n side b ≡ true
    → header_in g side b ≡ header g n side (guid_in g side b) (entries_in g side b)
unfolding good_copy
good-header g n side b k = same_true _ _ (and_l _ _ k)

-- D9: Not judged on reading: .. block 0, bytes 92 to 511 of a header block. A copy is judged by its header's 92 bytes and its entries alone.
pub good-by-parts : (g : Shape) (n : ℕ) (side : Side) (b b' : List ℕ) → header_in g side b ≡ header_in g side b' → entries_in g side b ≡ entries_in g side b'
    → good_copy g n side b ≡ good_copy g n side b'
unfolding good_copy
good-by-parts g n side b b' p q = rw (p, q)

pub state-by-parts : (g : Shape) (n : ℕ) (h t h' t' : List ℕ)
    → header_in g primary h ≡ header_in g primary h' → entries_in g primary h ≡ entries_in g primary h'
    → header_in g backup t ≡ header_in g backup t' → entries_in g backup t ≡ entries_in g backup t' → state g n h t ≡ state g n h' t'
unfolding state
state-by-parts g n h t h' t' p q r s = rw (good-by-parts g n primary h h' p q, good-by-parts g n backup t t' r s, p, q, r, s)

module _ (g : Shape) (n : ℕ) (h t : List ℕ) where
  pub four : state g n h t ≡ 4 → good_copy g n backup t ≡ true
  unfolding state
  four e = four-backup (good_copy g n primary h) (good_copy g n backup t) (same_copies g h t) e

  pub not-four : state g n h t ≢ 4 → state g n h t ≢ 0 → good_copy g n primary h ≡ true
  unfolding state
  not-four p q = other-primary (good_copy g n primary h) (good_copy g n backup t) (same_copies g h t) p q

  pub table-four : state g n h t ≡ 4 → table_of g n h t ≡ entries_in g backup t
  unfolding table_of
  table-four e = rw e

  pub table-primary : state g n h t ≢ 4 → table_of g n h t ≡ entries_in g primary h
  unfolding table_of
  table-primary e = rw (ne_eqb _ _ e)

  -- state 1: both copies are good and say the same
  pub one-good : state g n h t ≡ 1 → (good_copy g n primary h ≡ true) × (good_copy g n backup t ≡ true) × (same_copies g h t ≡ true)
  unfolding state
  one-good e = one-all (good_copy g n primary h) (good_copy g n backup t) (same_copies g h t) e

  pub one-primary : state g n h t ≡ 1 → table_of g n h t ≡ entries_in g primary h
  one-primary e = table-primary (λ q. omega arith)

  pub one-backup : state g n h t ≡ 1 → table_of g n h t ≡ entries_in g backup t
  one-backup e = one-primary e ∙ same_true _ _ (and_r _ _ (one-good e).2)

  pub one-guid : state g n h t ≡ 1 → guid_in g primary h ≡ guid_in g backup t
  one-guid e = same_true _ _ (and_l _ _ (one-good e).2)

  pub readable-good : state g n h t ≢ 0 → good_table g.first (last_usable g n) (table_of g n h t) ≡ true
  readable-good e = go (ℕ_discrete (state g n h t) 4)
    where
      go : Dec (state g n h t ≡ 4) → good_table g.first (last_usable g n) (table_of g n h t) ≡ true
      go (yes q) = rw (table-four q) (good-table g n backup t (four q))
      go (no q) = rw (table-primary q) (good-table g n primary h (not-four q e))

  both_one : good_copy g n primary h ≡ true → good_copy g n backup t ≡ true → guid_in g primary h ≡ guid_in g backup t
      → entries_in g primary h ≡ entries_in g backup t → state g n h t ≡ 1
  unfolding state
  both_one p q e f =
      rw (
        p,
        q,
        and_i _ _ (subst (λ (x : List ℕ). same (guid_in g primary h) x ≡ true) e (same_refl _))
            (subst (λ (x : List ℕ). same (entries_in g primary h) x ≡ true) f (same_refl _)),
      )

-- two good copies that say the same
pub holds : (g : Shape) (n : ℕ) (h t guid es : List ℕ) → length h ≡ lent_bytes g primary → length t ≡ lent_bytes g backup
    → good_copy g n primary h ≡ true → good_copy g n backup t ≡ true → guid_in g primary h ≡ guid → guid_in g backup t ≡ guid
    → entries_in g primary h ≡ es → entries_in g backup t ≡ es → Holds g n h t es
holds g n h t guid es lh lt p q a b c d =
    let w = both_one g n h t p q (a ∙ sym b) (c ∙ sym d) in
    record { len_head = lh; len_tail = lt; reads = w; table = one-primary g n h t w ∙ c }

-- ---- writes

module _ (g : Shape) (wide : 92 ≤ g.block) (n : ℕ) where
  -- a table that keeps the rules, written into both copies under one disk GUID
  pub write-both : (guid es h t : List ℕ) → length guid ≡ 16 → length es ≡ 16384 → good_table g.first (last_usable g n) es ≡ true
      → length h ≡ lent_bytes g primary → length t ≡ lent_bytes g backup → Holds g n (with_table g n primary guid es h) (with_table g n backup guid es t) es
  write-both guid es h t lg le' k lh lt =
      holds g n _ _ guid es (length-with_table g wide n primary guid es h le' lh) (length-with_table g wide n backup guid es t le' lt)
      (written-good g wide n primary guid es h le' lh lg k) (written-good g wide n backup guid es t le' lt lg k)
      (written-guid g wide n primary guid es h le' lh lg) (written-guid g wide n backup guid es t le' lt lg)
      (written-entries g wide n primary guid es h le' lh) (written-entries g wide n backup guid es t le' lt)

  pub fresh_holds : (guid es : List ℕ) → length guid ≡ 16 → length es ≡ 16384 → good_table g.first (last_usable g n) es ≡ true
      → Holds g n (fresh_head g n guid es) (fresh_tail g n guid es) es
  fresh_holds guid es lg le' k =
      write-both guid es _ _ lg le' k (length-write_all (block0 n) (zeros (lent_bytes g primary)) ∙ length-zeros _) (length-zeros _)

  module _ (h t : List ℕ) (lh : length h ≡ lent_bytes g primary) (lt : length t ≡ lent_bytes g backup) where
    -- an edit: from state 1
    pub edit-holds : (es : List ℕ) → length es ≡ 16384 → good_table g.first (last_usable g n) es ≡ true → state g n h t ≡ 1
        → Holds g n (with_table g n primary (guid_in g primary h) es h) (with_table g n backup (guid_in g backup t) es t) es
    edit-holds es le' k e =
        subst (λ (x : List ℕ). Holds g n (with_table g n primary (guid_in g primary h) es h) (with_table g n backup x es t) es) (one-guid g n h t e)
        (write-both (guid_in g primary h) es h t (length-guid g wide primary h lh) le' k lh lt)

    length-cleared : (side : Side) (b : List ℕ) → length b ≡ lent_bytes g side → length (put (header_at g side) (zeros g.block) b) ≡ lent_bytes g side
    length-cleared side b l = length-put _ _ _ ∙ l

    -- one good copy, and the other written from it
    pub from-backup : good_copy g n backup t ≡ true
        → Holds g n (with_copy g n primary (guid_in g backup t) (entries_in g backup t) h) t (entries_in g backup t)
    from-backup k =
        let lg = length-guid g wide backup t lt in
        let le' = length-entries g wide backup t lt in
        let lc = length-cleared primary h lh in
        holds g n _ t (guid_in g backup t) _ (length-with_table g wide n primary _ _ _ le' lc) lt
        (written-good g wide n primary _ _ _ le' lc lg (good-table g n backup t k)) k
        (written-guid g wide n primary _ _ _ le' lc lg) refl (written-entries g wide n primary _ _ _ le' lc) refl

    pub from-primary : good_copy g n primary h ≡ true
        → Holds g n h (with_copy g n backup (guid_in g primary h) (entries_in g primary h) t) (entries_in g primary h)
    from-primary k =
        let lg = length-guid g wide primary h lh in
        let le' = length-entries g wide primary h lh in
        let lc = length-cleared backup t lt in
        holds g n h _ (guid_in g primary h) _ lh (length-with_table g wide n backup _ _ _ le' lc) k
        (written-good g wide n backup _ _ _ le' lc lg (good-table g n primary h k))
        refl (written-guid g wide n backup _ _ _ le' lc lg) refl (written-entries g wide n backup _ _ _ le' lc)

    -- a repair: from every state that can be read, the table that was read
    pub repair-holds : state g n h t ≢ 0 → Holds g n (repaired g n h t (state g n h t)).head (repaired g n h t (state g n h t)).tail (table_of g n h t)
    repair-holds e = go (ℕ_discrete (state g n h t) 1) (ℕ_discrete (state g n h t) 4)
      where
        go : Dec (state g n h t ≡ 1) → Dec (state g n h t ≡ 4)
            → Holds g n (repaired g n h t (state g n h t)).head (repaired g n h t (state g n h t)).tail (table_of g n h t)
        go (yes p) q = rw (eq-eqb _ _ p) (record { len_head = lh; len_tail = lt; reads = p; table = refl })
        go (no p) (yes q) = rw (ne_eqb _ _ p, eq-eqb _ _ q, table-four g n h t q) (from-backup (four g n h t q))
        go (no p) (no q) = rw (ne_eqb _ _ p, ne_eqb _ _ q, table-primary g n h t q) (from-primary (not-four g n h t q e))
