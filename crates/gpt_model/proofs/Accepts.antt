-- An edit's own rows (an add's before the one for room): none holds exactly when what `Serves` says in plain words does.
use mathlib.Core.Path.{◌≡◌, refl, sym, ap, ◌∙◌}
use mathlib.Core.Logic.{◌⊎◌, inl, inr, ⊎_elim, ◌≢◌, ◌↔◌}
use mathlib.Core.Bool.{true, false, not}
use mathlib.Core.List.{List, [], ◌∷◌, ◌++◌}
use mathlib.Core.Option.{none, some}
use Prim.Native.Nat.{ℕ, zero, suc, ◌+◌, ◌-◌, ◌≤◌, ◌<◌}
use native.Mathlib.Decide.{ℕ_discrete}
use native.Mathlib.Omega.{arith}
use lib.Dec.{eqb}
use lib.ListN.{length, get_or, set, length-set}
use lib.Seq.{get_or-set_same, get_or-set_other}
use borrow.Author.Tests.{leb-true, le-leb, eqb-true, eqb-false, eq-eqb, ne_eqb}
use Rattle.octets.specs.Tests.{◌and◌, ◌or◌, any, find_ix}
use Rattle.octets.specs.Rows.{Row, row, refusal}
use Rattle.octets.specs.Bytes.{is_zero}
use Rattle.octets.proofs.Bools.{and_l, and_r, and_i, or_cases, or-false-l, or-false-r, or-false-i, bool_cases, not_f, clash, option_cases}
use Rattle.octets.proofs.Tests.{all-make, any_none, any_false, any-make, find_ix-get}
use Rattle.octets.proofs.Rows.{rows_from, rows_before, pick-false, passes, refusal-append, refusal-before}
use Rattle.octets.proofs.Chunks.{length-chunks}
use Rattle.gpt_model.specs.Table.{unique_of, first_of, unused, BlockRange, no_blocks, entries, ranges_of}
use Rattle.gpt_model.specs.Disk.{Shape, last_usable, table_of}
use Rattle.gpt_model.specs.Ranges.{block_in, is_alignment}
use Rattle.gpt_model.specs.declared.NewPartition.{NewPartition}
use Rattle.gpt_model.specs.Calls.{Edit, resize, rename, edit, accepted, Outcome, bad_name, entry_of, carries, name_taken, other_entries}
use Rattle.gpt_model.specs.Calls.{slot_rows, add_rows, fits_at, table_rows, change, lengths_of, open_rows, rows_of, step}
use Rattle.gpt_model.specs.Stored.{unit_bytes, EntryNamed}
use Rattle.gpt_model.specs.Claims.{UsedSlot, NameOk, FitsAlone, GivenOk, NameFree, NewOk}
use Rattle.gpt_model.proofs.Room.{not-in-none, room-get, room-make}
use Rattle.gpt_model.proofs.Entries.{length-ranges_of, entry_at}
use Rattle.gpt_model.proofs.Carried.{some-carry, some-named, other-named, free-iff}
use Rattle.gpt_model.proofs.Attributes.{keeps-iff}
use Rattle.gpt_model.proofs.Outcomes.{step-refused, step-accepted, edit-decides}

-- where the rows before an edit's own do not hold, its own decide
pub edit-accepted : (g : Shape) (n : ℕ) (h t : List ℕ) (d : Edit) → refusal (open_rows g n h t (lengths_of d)) ≡ none
    → {P : Type 0} → (refusal (table_rows g.first (last_usable g n) (table_of g n h t) d) ≡ none) ↔ P
    → ((step g n h t (edit d)).answer ≡ accepted (change g.first (last_usable g n) (table_of g n h t) d).values) ↔ P
edit-accepted g n h t d e {P} w = (
  to (option_cases (refusal (rows_of g n h t (edit d)))),
  λ p. ap (λ (o : Outcome). o.answer) (step-accepted g n h t (edit d) (edit-decides g n h t d e ∙ w.1 p)),
)
  where
    to : (refusal (rows_of g n h t (edit d)) ≡ none) ⊎ ((k : ℕ) × (refusal (rows_of g n h t (edit d)) ≡ some k))
        → (step g n h t (edit d)).answer ≡ accepted (change g.first (last_usable g n) (table_of g n h t) d).values → P
    to (inl q) a = w.0 (sym (edit-decides g n h t d e) ∙ q)
    to (inr q) a =
        let b = ap (λ (o : Outcome). o.answer) (step-refused g n h t (edit d) q.0 q.1) in
        let z : ◌≡◌ {A = ℕ} 0 1 = cc in
        absurd (omega arith)

-- ---- a name

zero-name : (us : List ℕ) → is_zero us ≡ true → (j : ℕ) → get_or us j 0 ≡ 0
zero-name [] e j = refl
zero-name (u ∷ us) e zero = sym (eqb-true 0 u (and_l _ _ e))
zero-name (u ∷ us) e (suc j) = zero-name us (and_r _ _ e) j

name-zero : (us : List ℕ) → ((j : ℕ) → get_or us j 0 ≡ 0) → is_zero us ≡ true
name-zero us f = all-make (eqb 0) us 0 (λ i h. eq-eqb 0 _ (sym (f i)))

pub name-get : (name : List ℕ) → bad_name name ≡ false → NameOk name
name-get [] e i j h z = refl
name-get (u ∷ us) e i zero h z = absurd (omega arith)
name-get (u ∷ us) e zero (suc j) h z = zero-name us (not_f _ (rw (eq-eqb u 0 z) at e)) j
name-get (u ∷ us) e (suc i) (suc j) h z = go (bool_cases (eqb u 0)) (name-get us)
  where
    go : (eqb u 0 ≡ true) ⊎ (eqb u 0 ≡ false) → (bad_name us ≡ false → NameOk us) → get_or us j 0 ≡ 0
    go (inl q) ih = zero-name us (not_f _ (rw q at e)) j
    go (inr q) ih = ih (rw q at e) i j (omega arith) z

pub name-make : (name : List ℕ) → NameOk name → bad_name name ≡ false
name-make [] f = refl
name-make (u ∷ us) f = go (bool_cases (eqb u 0)) (name-make us)
  where
    go : (eqb u 0 ≡ true) ⊎ (eqb u 0 ≡ false) → (NameOk us → bad_name us ≡ false) → bad_name (u ∷ us) ≡ false
    go (inl q) ih = rw q (ap not (name-zero us (λ j. f 0 (suc j) (omega arith) (eqb-true u 0 q))))
    go (inr q) ih = rw q (ih (λ i j h z. f (suc i) (suc j) (omega arith) z))

-- ---- the rows

module _ (es : List ℕ) (k : ℕ) where
  pub slot-rows : (refusal (slot_rows es k) ≡ none) ↔ UsedSlot es k
  slot-rows = (to, λ w. pick-false _ 12 _ (ap not (and_i _ _ (le-leb _ _ w.0) (le-leb _ _ w.1))) ∙ pick-false _ 13 _ w.2)
    where
      to : refusal (slot_rows es k) ≡ none → UsedSlot es k
      to e =
          let c = not_f _ (passes 12 (slot_rows es k) e) in
          (leb-true _ _ (and_l _ _ c), leb-true _ _ (and_r _ _ c), passes 13 (slot_rows es k) e)

  -- slot rows, then other_entries
  then-rows : (qs : List Row) {P : Type 0} → (UsedSlot es k → (refusal qs ≡ none) ↔ P) → (refusal (slot_rows es k ++ qs) ≡ none) ↔ (UsedSlot es k × P)
  then-rows qs w = (
    λ e. let v = refusal-before (slot_rows es k) qs e in let u = slot-rows.0 v.0 in (u, (w u).0 v.1),
    λ v. refusal-append (slot_rows es k) qs (slot-rows.1 v.0) ∙ (w v.0).1 v.1,
  )

  -- the name is empty, or no used entry but that of slot k carries it
  abbrev pub OtherFree : List ℕ → Type 0
  OtherFree name = (is_zero (unit_bytes name) ≡ true) ⊎ ((i : ℕ) → suc i ≢ k → ¬ EntryNamed es i name)

  other-free : (name : List ℕ) → 1 ≤ k → (name_taken (other_entries es k) name ≡ false) ↔ OtherFree name
  other-free name lo =
      let w = free-iff (other_entries es k) name (other-named es name k lo) in (
        λ e. ⊎_elim (λ z. inl z) (λ f. inr (λ i ne v. f (i, ne, v))) (w.0 e),
        λ v. w.1 (⊎_elim (λ z. inl z) (λ f. inr (λ x. f x.0 x.1 x.2)) v),
      )

  pub rename-rows : (first last : ℕ) (name : List ℕ)
      → (refusal (table_rows first last es (rename k name)) ≡ none) ↔ (UsedSlot es k × (NameOk name × OtherFree name))
  rename-rows first last name =
      let rows : List Row = rows_from 23 (table_rows first last es (rename k name)) in
      then-rows rows (λ u. (
        λ e. (name-get name (passes 23 rows e), (other-free name u.0).0 (passes 26 rows e)),
        λ w. pick-false _ 23 _ (name-make name w.0) ∙ pick-false _ 26 _ ((other-free name u.0).1 w.1),
      ))

  fits-alone : (last size : ℕ) → (fits_at last es k size ≡ true) ↔ FitsAlone last es k size
  fits-alone last size = (
    λ e. let r = room-get _ _ _ _ e in
        (r.0, λ b i p q h ne. ap (block_in b) (sym (other i ne)) ∙ any_none (block_in b) rest no_blocks (r.1 b p q) i (omega (arith, long))),
    λ w. room-make _ _ _ _
        (w.0, λ b p q. any_false (block_in b) rest no_blocks (λ i h. each b i (omega (arith, long)) p q (w.1 b i p q) (ℕ_discrete i (k - 1)))),
  )
    where
      rest : List BlockRange
      rest = set (ranges_of es) (k - 1) no_blocks

      long : length (set (ranges_of es) (k - 1) no_blocks) ≡ 128
      long = length-set (ranges_of es) (k - 1) no_blocks ∙ length-ranges_of es

      other : (i : ℕ) → i ≢ k - 1 → get_or (set (ranges_of es) (k - 1) no_blocks) i no_blocks ≡ get_or (ranges_of es) i no_blocks
      other i ne = get_or-set_other (ranges_of es) (k - 1) i no_blocks no_blocks ne

      each : (b i : ℕ) → i < 128 → first_of (entry_of es k) ≤ b → b < first_of (entry_of es k) + size
          → (i < 128 → i ≢ k - 1 → block_in b (get_or (ranges_of es) i no_blocks) ≡ false) → Dec (i ≡ k - 1)
          → block_in b (get_or (set (ranges_of es) (k - 1) no_blocks) i no_blocks) ≡ false
      each b i h p q f (yes z) =
          ap (block_in b) (ap (λ (x : ℕ). get_or (set (ranges_of es) (k - 1) no_blocks) x no_blocks) z
          ∙ get_or-set_same (ranges_of es) (k - 1) no_blocks no_blocks (omega (arith, length-ranges_of es)))
          ∙ not-in-none b
      each b i h p q f (no z) = ap (block_in b) (other i z) ∙ f h z

  pub resize-rows : (first last size : ℕ)
      → (refusal (table_rows first last es (resize k size)) ≡ none) ↔ (UsedSlot es k × ((0 < size) × FitsAlone last es k size))
  resize-rows first last size =
      let rows : List Row = rows_from 20 (table_rows first last es (resize k size)) in
      then-rows rows (λ u. (
        λ e. (let w : size ≢ 0 = eqb-false size 0 (passes 20 rows e) in omega arith, (fits-alone last size).0 (not_f _ (passes 25 rows e))),
        λ w. pick-false _ 20 _ (let p = w.0 in ne_eqb size 0 (λ z. omega arith)) ∙ pick-false _ 25 _ (ap not ((fits-alone last size).1 w.1)),
      ))

-- ---- an add's rows before the one for room

-- ---- the test of row 27

pub alignment-get : (m : ℕ) → is_alignment m ≡ true → (m ≡ 1) ⊎ (m ≡ 8) ⊎ (m ≡ 2048)
alignment-get m e = ⊎_elim (λ q. low (or_cases _ _ q)) (λ q. inr (inr (eqb-true m 2048 q))) (or_cases _ _ e)
  where
    low : (eqb m 1 ≡ true) ⊎ (eqb m 8 ≡ true) → (m ≡ 1) ⊎ (m ≡ 8) ⊎ (m ≡ 2048)
    low (inl q) = inl (eqb-true m 1 q)
    low (inr q) = inr (inl (eqb-true m 8 q))

pub alignment-least : (m : ℕ) → is_alignment m ≡ true → 0 < m
alignment-least m e = go (alignment-get m e)
  where
    go : (m ≡ 1) ⊎ (m ≡ 8) ⊎ (m ≡ 2048) → 0 < m
    go (inl q) = omega arith
    go (inr (inl q)) = omega arith
    go (inr (inr q)) = omega arith

pub alignment-make : (m : ℕ) → (m ≡ 1) ⊎ (m ≡ 8) ⊎ (m ≡ 2048) → is_alignment m ≡ true
unfolding ◌or◌
alignment-make m (inl q) = ap is_alignment q
alignment-make m (inr (inl q)) = ap is_alignment q
alignment-make m (inr (inr q)) = ap is_alignment q

module _ (es : List ℕ) (p : NewPartition) where
  abbrev rows : List Row
  rows = add_rows es p

  -- the test of row 22, and what it says of each slot
  unique-free : (any (carries unique_of p.unique) (entries es) ≡ false) ↔ ((k : ℕ) → UsedSlot es k → unique_of (entry_of es k) ≢ p.unique)
  unique-free = (
    λ e k u q. let lo = u.0 in let hi = u.1 in clash ((some-carry unique_of p.unique es).1 (k - 1, omega arith, (u.2, q))) e,
    λ f. ⊎_elim (λ t. absurd (found f ((some-carry unique_of p.unique es).0 t))) (λ t. t) (bool_cases (any (carries unique_of p.unique) (entries es))),
  )
    where
      found : ((k : ℕ) → UsedSlot es k → unique_of (entry_of es k) ≢ p.unique)
          → (i : ℕ) × (i < 128) × ((unused (entry_at es i) ≡ false) × (unique_of (entry_at es i) ≡ p.unique)) → ⊥
      found f w =
          let at : entry_of es (suc w.0) ≡ entry_at es w.0 = ap (entry_at es) (omega arith) in
          let h = w.1 in
          f (suc w.0) (omega arith, omega arith, ap unused at ∙ w.2.0) (ap unique_of at ∙ w.2.1)

  -- the test of row 26
  pub name_free : (name_taken (entries es) p.name ≡ false) ↔ NameFree es p.name
  name_free =
      let w = free-iff (entries es) p.name (some-named es p.name) in (
        λ e. ⊎_elim (λ z. inl z) (λ f. inr (λ i v. f (i, v))) (w.0 e),
        λ v. w.1 (⊎_elim (λ z. inl z) (λ f. inr (λ x. f x.0 x.1)) v),
      )

  -- the rows before 26, and from it on
  abbrev pub given : List Row
  given = rows_before 26 rows

  abbrev behind : List Row
  behind = rows_from 26 rows

  pub given-rows : (refusal given ≡ none) ↔ GivenOk es p
  given-rows = (
    λ e. record {
      blocks = eqb-false _ _ (passes 20 given e);
      aligned = alignment-get p.alignment (not_f _ (passes 27 given e));
      typed = passes 21 given e;
      own = (or-false-l _ _ (passes 22 given e), unique-free.0 (or-false-r _ _ (passes 22 given e)));
      named = name-get p.name (passes 23 given e);
    },
    λ w. pick-false _ 20 _ (ne_eqb _ _ w.blocks)
        ∙ pick-false _ 27 _ (ap not (alignment-make p.alignment w.aligned))
        ∙ pick-false _ 21 _ w.typed
        ∙ pick-false _ 22 _ (or-false-i _ _ w.own.0 (unique-free.1 w.own.1))
        ∙ pick-false _ 23 _ (name-make p.name w.named),
  )

  pub new-get : (length p.kind ≡ 16) × (length p.unique ≡ 16) × (length p.name ≡ 36) → refusal (add_rows es p) ≡ none → NewOk es p
  new-get l e =
      let v = refusal-before given behind e in
      record {
        lengths = l;
        given = given-rows.0 v.0;
        single = name_free.0 (passes 26 behind v.1);
        kept = (keeps-iff p.rule p.attributes).0 (passes 28 behind v.1);
        slot =
            let f = find_ix-get unused (entries es) [] (not_f _ (passes 24 behind v.1)) in
            let h = f.0 in
            let at : suc (find_ix unused (entries es)) - 1 ≡ find_ix unused (entries es) = omega arith in (
              suc (find_ix unused (entries es)),
              omega arith,
              omega (arith, length-chunks 128 128 es),
              ap (λ (x : ℕ). unused (get_or (entries es) x [])) at
                  ∙ f.1,
            );
      }

  pub new-make : NewOk es p → refusal (add_rows es p) ≡ none
  new-make w =
      refusal-append given behind (given-rows.1 w.given)
      ∙ pick-false _ 26 _ (name_free.1 w.single)
      ∙ pick-false _ 28 _ ((keeps-iff p.rule p.attributes).1 w.kept)
      ∙ pick-false _ 24 _ (ap not (let s = w.slot in let lo = s.1 in let hi = s.2 in
      any-make unused (entries es) [] (s.0 - 1) (omega (arith, length-chunks 128 128 es)) s.3))
