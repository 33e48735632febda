-- Names: on a disk that was formatted no two used entries carry the same name, unless it is empty, and exactly when a name is refused.
use mathlib.Core.Path.{◌≡◌, refl, sym, ap, subst, ◌∙◌}
use mathlib.Core.Logic.{◌⊎◌, ⊎_elim, ◌≢◌, ◌↔◌}
use mathlib.Core.Bool.{true, false}
use mathlib.Core.List.{List}
use mathlib.Core.Option.{none, some}
use Prim.Native.Nat.{ℕ, suc, ◌-◌, ◌<◌}
use native.Mathlib.Omega.{arith}
use lib.ListN.{length}
use borrow.Author.Tests.{eqb-true}
use Rattle.octets.specs.Tests.{◌or◌}
use Rattle.octets.specs.Rows.{Row, refusal}
use Rattle.octets.specs.Bytes.{zeros, is_zero, put_chunk}
use Rattle.octets.proofs.Bools.{and_r, clash}
use Rattle.octets.proofs.Chunks.{length-chunk}
use Rattle.octets.proofs.Rows.{rows_from, rows_before, passes, pick-false, refusal-append, refusal-before, refused-by}
use Rattle.gpt_model.specs.Table.{partition_name_of, name_bytes, unused, entries}
use Rattle.gpt_model.specs.Disk.{Shape, last_usable, table_of}
use Rattle.gpt_model.specs.declared.NewPartition.{NewPartition}
use Rattle.gpt_model.specs.Calls.{Edit, add, delete, resize, rename, edit, refused, Outcome, entry_of, name_taken, other_entries, or_zero}
use Rattle.gpt_model.specs.Calls.{new_entry, start_for, slot_rows, table_rows, change, edited, lengths_of, open_rows, rows_of, step, format}
use Rattle.gpt_model.specs.Lists.{start_after}
use Rattle.gpt_model.specs.Stored.{unit_bytes, EntryNamed, NamesDiffer}
use Rattle.gpt_model.specs.Claims.{UsedSlot, NameOk, GivenOk, OneByName, OneByNameFrom, TakenNameRefused}
use Rattle.gpt_model.proofs.Fields.{length-name, new-name, sized-type, sized-name, named-name}
use Rattle.gpt_model.proofs.Entries.{typed-alike, unused-zeros, empty-unused, entry_at, two-put}
use Rattle.gpt_model.proofs.StoredTable.{name_is, used-is}
use Rattle.gpt_model.proofs.Carried.{some-carry, other-carries, some-named, other-named, taken-iff, free-iff}
use Rattle.gpt_model.proofs.Edits.{FitsEdit}
use Rattle.gpt_model.proofs.Outcomes.{step-refused, refused-row}
use Rattle.gpt_model.proofs.Accepts.{slot-rows, name-get, name-make, given, given-rows}
use Rattle.gpt_model.proofs.Steps.{holds_after}
use Rattle.gpt_model.proofs.Demand3.{formatted, format-starts, starts-kept}

-- ---- two entries, and every two of a table

abbrev Differ : List ℕ → List ℕ → Type 0
Differ e d = unused e ≡ false → unused d ≡ false → partition_name_of e ≡ partition_name_of d → is_zero (partition_name_of e) ≡ true

differ-sym : (e d : List ℕ) → Differ e d → Differ d e
differ-sym e d f u v q = ap is_zero q ∙ f v u (sym q)

abbrev AllDiffer : List ℕ → Type 0
AllDiffer es = (i j : ℕ) → i < 128 → j < 128 → i ≢ j → Differ (entry_at es i) (entry_at es j)

differ-get : (es : List ℕ) → NamesDiffer es → AllDiffer es
differ-get es f i j h g ne u v q =
    ap is_zero (name_is es i h)
    ∙ f i j h g ne (sym (used-is es i h) ∙ u) (sym (used-is es j g) ∙ v) (sym (name_is es i h) ∙ q ∙ name_is es j g)

differ-make : (es : List ℕ) → AllDiffer es → NamesDiffer es
differ-make es f i j h g ne u v q =
    ap is_zero (sym (name_is es i h))
    ∙ f i j h g ne (used-is es i h ∙ u) (used-is es j g ∙ v) (name_is es i h ∙ q ∙ sym (name_is es j g))

-- ---- what every edit keeps

-- a new entry, wherever it starts, and each other one
new-differs : (es : List ℕ) (p : NewPartition) (s : ℕ) → length p.name ≡ 36 → name_taken (entries es) p.name ≡ false
    → (j : ℕ) → j < 128 → Differ (new_entry p s) (entry_at es j)
new-differs es p s len free j h u v q =
    let is = new-name p s len in
    ⊎_elim (λ z. ap is_zero is ∙ z) (λ n. absurd (n (j, h, (v, sym q ∙ is))))
    ((free-iff (entries es) p.name (some-carry partition_name_of (name_bytes p.name) es)).0 free)

pub placed-differ : (first last : ℕ) (es : List ℕ) → length es ≡ 16384 → (i : ℕ) (p : NewPartition) (s : ℕ) → i < 128 → length (new_entry p s) ≡ 128
    → length p.name ≡ 36 → name_taken (entries es) p.name ≡ false → NamesDiffer es → NamesDiffer (put_chunk 128 i (new_entry p s) es)
placed-differ first last es len i p s hi le ln free old =
    differ-make (put_chunk 128 i (new_entry p s) es)
    (two-put first last es len i (new_entry p s) hi le Differ differ-sym (differ-get es old) (λ j h ne. new-differs es p s ln free j h))

module _ (first last : ℕ) (es : List ℕ) (len : length es ≡ 16384) where
  -- the entry that an edit writes, and each other one
  edit-differs : (d : Edit) → lengths_of d ≡ true → refusal (table_rows first last es d) ≡ none → FitsEdit first last es d → AllDiffer es
      → (j : ℕ) → j < 128 → j ≢ (change first last es d).index → Differ (change first last es d).entry (entry_at es j)
  edit-differs (add p) lens e f old j h ne u v q = new-differs es p (or_zero (start_for first last es p)) (eqb-true _ _ (and_r _ _ lens))
      (passes 26 (table_rows first last es (add p)) e) j h u v q
  edit-differs (delete k) lens e f old j h ne u v q = absurd (clash (unused-zeros 128) u)
  edit-differs (resize k size) lens e f old j h ne u v q =
      let la = length-chunk 128 128 (k - 1) es f.index len in
      let is = sized-name (entry_of es k) la _ in
      ap is_zero is ∙ old (k - 1) j f.index h (λ x. ne (sym x)) (sym (typed-alike _ _ (sized-type (entry_of es k) la _)) ∙ u) v (sym is ∙ q)
  edit-differs (rename k name) lens e f old j h ne u v q =
      let la = length-chunk 128 128 (k - 1) es f.index len in
      let ln : length name ≡ 36 = eqb-true _ _ lens in
      let is = named-name (entry_of es k) la (name_bytes name) (length-name name ∙ omega arith) in
      let lo = ((slot-rows es k).0 (refusal-before (slot_rows es k) (rows_from 23 (table_rows first last es (rename k name))) e).0).0 in
      ⊎_elim (λ z. ap is_zero is ∙ z) (λ n. absurd (n (j, (λ x. ne (omega arith)), h, (v, sym q ∙ is))))
      ((free-iff (other_entries es k) name (other-carries partition_name_of (name_bytes name) es k lo)).0
      (passes 26 (table_rows first last es (rename k name)) e))

  edited-differ : (d : Edit) → lengths_of d ≡ true → refusal (table_rows first last es d) ≡ none → FitsEdit first last es d → NamesDiffer es
      → NamesDiffer (edited first last es d)
  edited-differ d lens e f old =
      let all = differ-get es old in
      differ-make (edited first last es d)
      (two-put first last es len (change first last es d).index (change first last es d).entry f.index f.len Differ differ-sym all
      (edit-differs d lens e f all))

pub one_by_name_from : OneByNameFrom
one_by_name_from g wide n es r s names cs =
    holds_after g wide n NamesDiffer (λ d. Unit {0}) (λ tb d s len lens e f p. edited-differ g.first (last_usable g n) tb len d lens e f p) cs (λ k d q. tt) r
    (starts-kept g n es r s)
    (subst NamesDiffer (sym s.table) names)

-- a table without entries has no names
pub empty-differ : NamesDiffer (zeros 16384)
empty-differ = differ-make (zeros 16384) (λ i j h k ne u v q. absurd (clash (empty-unused i) u))

pub one_by_name : OneByName
one_by_name g n guid h t f cs = (
  ap (λ (o : Outcome). o.answer) (formatted g n guid h t f),
  one_by_name_from g f.wide n (zeros 16384) (start_after (format g n guid h t)) (format-starts g n guid h t f)
      empty-differ cs,
)

-- ---- row 26 is the first to hold

module _ (g : Shape) (n : ℕ) (h t : List ℕ) where
  abbrev tab : List ℕ
  tab = table_of g n h t

  abbrev opens : Edit → List Row
  opens d = open_rows g n h t (lengths_of d)

  abbrev before : Edit → List Row
  before d = rows_before 26 (rows_of g n h t (edit d))

  refused-iff : (d : Edit) {P : Type 0} → (refusal (rows_of g n h t (edit d)) ≡ some 26) ↔ P → ((step g n h t (edit d)).answer ≡ refused 26) ↔ P
  refused-iff d w = (
    λ a. w.0 (refused-row g n h t (edit d) 26 a),
    λ p. ap (λ (o : Outcome). o.answer) (step-refused g n h t (edit d) 26 (w.1 p)),
  )

  module _ (p : NewPartition) where
    add-first : (refusal (rows_of g n h t (edit (add p))) ≡ some 26) ↔ ((refusal (before (add p)) ≡ none) × (name_taken (entries tab) p.name ≡ true))
    unfolding ◌or◌
    add-first = refused-by 26 (rows_of g n h t (edit (add p))) refl

    pub add-taken : (refusal (rows_of g n h t (edit (add p))) ≡ some 26)
        ↔ ((refusal (opens (add p)) ≡ none) × GivenOk tab p × (is_zero (unit_bytes p.name) ≡ false) × ((i : ℕ) × EntryNamed tab i p.name))
    add-taken =
        let name = taken-iff (entries tab) p.name (some-named tab p.name) in (
          λ e. let v = add-first.0 e in
              let w = refusal-before (opens (add p)) (given tab p) v.0 in
              let u = name.0 v.1 in
              (w.0, (given-rows tab p).0 w.1, u.0, u.1),
          λ w. add-first.1 (refusal-append (opens (add p)) (given tab p) w.0 ∙ (given-rows tab p).1 w.1, name.1 (w.2, w.3)),
        )

  module _ (k : ℕ) (name : List ℕ) where
    rename-first : (refusal (rows_of g n h t (edit (rename k name))) ≡ some 26)
        ↔ ((refusal (before (rename k name)) ≡ none) × (name_taken (other_entries tab k) name ≡ true))
    unfolding ◌or◌
    rename-first = refused-by 26 (rows_of g n h t (edit (rename k name))) refl

    abbrev named : List Row
    named = rows_from 23 (before (rename k name))

    pub rename-taken : (refusal (rows_of g n h t (edit (rename k name))) ≡ some 26)
        ↔ ((refusal (opens (rename k name)) ≡ none) × UsedSlot tab k × NameOk name × (is_zero (unit_bytes name) ≡ false)
        × ((i : ℕ) × (suc i ≢ k) × EntryNamed tab i name))
    rename-taken = (
      λ e. let v = rename-first.0 e in
          let w = refusal-before (opens (rename k name)) (rows_from 12 (before (rename k name))) v.0 in
          let x = refusal-before (slot_rows tab k) named w.1 in
          let slot = (slot-rows tab k).0 x.0 in
          let u = (taken-iff (other_entries tab k) name (other-named tab name k slot.0)).0 v.1 in
          (w.0, slot, name-get name (passes 23 named x.1), u.0, u.1),
      λ w. rename-first.1 (
        refusal-append (opens (rename k name)) (rows_from 12 (before (rename k name))) w.0
            ∙ refusal-append (slot_rows tab k) named ((slot-rows tab k).1 w.1)
            ∙ pick-false _ 23 _ (name-make name w.2),
        (taken-iff (other_entries tab k) name (other-named tab name k w.1.0)).1 (w.3, w.4),
      ),
    )

pub taken_name_refused : TakenNameRefused
taken_name_refused g n h t =
    (λ p. refused-iff g n h t (add p) (add-taken g n h t p), λ k name. refused-iff g n h t (rename k name) (rename-taken g n h t k name))
