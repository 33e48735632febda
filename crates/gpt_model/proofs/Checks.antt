-- The check of a table by a rule, exactly when row 28 is given, and that on a disk that was formatted no used entry offends.
use mathlib.Core.Path.{◌≡◌, refl, sym, ap, subst, ◌∙◌}
use mathlib.Core.Logic.{◌⊎◌, inl, inr, ⊎_elim, ◌↔◌}
use mathlib.Core.Bool.{true, false, not}
use mathlib.Core.List.{List, [], ◌∷◌, ◌++◌}
use mathlib.Core.Option.{none, some}
use Prim.Native.Nat.{ℕ, suc, ◌-◌, ◌%◌, ◌^◌, ◌<◌}
use native.Mathlib.Nat.{mod-lt}
use native.Mathlib.Omega.{arith}
use lib.Dec.{lit<}
use lib.ListN.{length, get_or}
use Rattle.octets.specs.Tests.{◌and◌, ◌or◌}
use Rattle.octets.specs.Rows.{Row, refusal}
use Rattle.octets.specs.Bytes.{unle, zeros, put_chunk}
use Rattle.octets.proofs.Bools.{and-false-l, and_false_r, bool_cases, option_cases}
use Rattle.octets.proofs.Numbers.{unle-le, le-mod}
use Rattle.octets.proofs.Chunks.{length-chunk}
use Rattle.octets.proofs.Rows.{rows_before, rows_from, passes, pick-false, refusal-append, refusal-before, refused-by}
use Rattle.gpt_model.specs.Table.{attributes_of, type_of}
use Rattle.gpt_model.specs.Disk.{Shape, last_usable, table_of}
use Rattle.gpt_model.specs.Attributes.{offends, used_offends, first_offending}
use Rattle.gpt_model.specs.declared.NewPartition.{NewPartition}
use Rattle.gpt_model.specs.declared.Rule.{Rule}
use Rattle.gpt_model.specs.declared.Rule.TheVariants.{Present, Earlier}
use Rattle.gpt_model.specs.Calls.{Edit, add, delete, resize, rename, Call, read, check, edit, refused, accepted, Outcome}
use Rattle.gpt_model.specs.Calls.{entry_of, or_zero, new_entry, add_rows, start_for, table_rows, change, edited, lengths_of, open_rows, rows_of, step, format}
use Rattle.gpt_model.specs.Lists.{after_all, start_after}
use Rattle.gpt_model.specs.Stored.{NoneOffends}
use Rattle.gpt_model.specs.Claims.{GivenOk, NameFree}
use Rattle.gpt_model.specs.AttributeClaims.{CheckByBytes, EarlierPassesPresent, OffendingRefused, NameEarlier, BitsStayZero, BitsStayZeroFrom}
use Rattle.gpt_model.proofs.Fields.{new-attributes, sized-type, sized-attributes, behind-type, named-attributes}
use Rattle.gpt_model.proofs.Entries.{typed-alike, unused-zeros, empty-unused, entry_at, each-put}
use Rattle.gpt_model.proofs.Attributes.{offends_by_bits, earlier-breaks, earlier-keeps, offends-low, offends-is, keeps-is, first-none, first_some}
use Rattle.gpt_model.proofs.Edits.{FitsEdit}
use Rattle.gpt_model.proofs.Outcomes.{step-refused, step-accepted, refused-row, accepted-none, read_none}
use Rattle.gpt_model.proofs.Accepts.{name_free, given, given-rows}
use Rattle.gpt_model.proofs.Steps.{holds_after}
use Rattle.gpt_model.proofs.Demand3.{formatted, format-starts, starts-kept}

-- ---- the check

module _ (g : Shape) (n : ℕ) (h t : List ℕ) (rule : Rule) where
  abbrev es : List ℕ
  es = table_of g n h t

  abbrev Reads : Type 0
  Reads = (s : ℕ) × ((step g n h t read).answer ≡ accepted (s ∷ []))

  -- an answer is the first used slot that offends, where the disk reads
  answered : (k : ℕ) → ((step g n h t (check rule)).answer ≡ accepted (k ∷ [])) ↔ (Reads × (first_offending rule es ≡ k))
  answered k = (
    λ a. let e = accepted-none g n h t (check rule) (k ∷ []) a in
        let b : accepted (first_offending rule es ∷ []) ≡ accepted (k ∷ []) = ap (λ (o : Outcome). o.answer) (sym (step-accepted g n h t (check rule) e))
        ∙ a in
        ((_, ap (λ (o : Outcome). o.answer) (step-accepted g n h t read e)), cc),
    λ w. ap (λ (o : Outcome). o.answer) (step-accepted g n h t (check rule) (read_none g n h t w.0.0 w.0.1))
        ∙ ap (λ (x : ℕ). accepted (x ∷ [])) w.1,
  )

  -- read and check have the same rows
  refused-alike : (k : ℕ) (c d : Call) → refusal (rows_of g n h t c) ≡ refusal (rows_of g n h t d) → (step g n h t c).answer ≡ refused k
      → (step g n h t d).answer ≡ refused k
  refused-alike k c d same a = ap (λ (o : Outcome). o.answer) (step-refused g n h t d k (sym same ∙ refused-row g n h t c k a))

  unchanged : ((step g n h t (check rule)).head ≡ h) × ((step g n h t (check rule)).tail ≡ t)
  unchanged = go (option_cases (refusal (rows_of g n h t (check rule))))
    where
      go : (refusal (rows_of g n h t (check rule)) ≡ none) ⊎ ((k : ℕ) × (refusal (rows_of g n h t (check rule)) ≡ some k))
          → ((step g n h t (check rule)).head ≡ h) × ((step g n h t (check rule)).tail ≡ t)
      go (inl e) = rw (step-accepted g n h t (check rule) e) (refl, refl)
      go (inr w) = rw (step-refused g n h t (check rule) w.0 w.1) (refl, refl)

pub check_by_bytes : CheckByBytes
check_by_bytes g n h t rule = record {
  stays = unchanged g n h t rule;
  refuses = λ k. (refused-alike g n h t rule k (check rule) read refl, refused-alike g n h t rule k read (check rule) refl);
  finds = λ i. (
    λ a. let w = (answered g n h t rule (suc i)).0 a in let f = (first_some rule (table_of g n h t) i).0 w.1 in (w.0, f.0, f.1),
    λ w. (answered g n h t rule (suc i)).1 (w.0, (first_some rule (table_of g n h t) i).1 (w.1, w.2)),
  );
  passes = (
    λ a. let w = (answered g n h t rule 0).0 a in (w.0, (first-none rule (table_of g n h t)).0 w.1),
    λ w. (answered g n h t rule 0).1 (w.0, (first-none rule (table_of g n h t)).1 w.1),
  );
}

-- k4: A table passing the earlier rule passes the present one.
pub earlier_passes_present : EarlierPassesPresent
earlier_passes_present = (
  earlier-keeps,
  λ g n h t a.
      let w = (check_by_bytes g n h t Earlier).passes.0 a in
      (check_by_bytes g n h t Present).passes.1 (w.0, λ i o. w.1 i (o.0, o.1, earlier-breaks _ o.2)),
)

-- ---- row 28 is the first to hold

module _ (g : Shape) (n : ℕ) (h t : List ℕ) (p : NewPartition) where
  abbrev tab : List ℕ
  tab = table_of g n h t

  abbrev opens : List Row
  opens = open_rows g n h t (lengths_of (add p))

  -- an add's own rows before 28: those before 26, and 26
  abbrev own : List Row
  own = rows_before 28 (add_rows tab p)

  abbrev named : List Row
  named = rows_from 26 own

  add-first : (refusal (rows_of g n h t (edit (add p))) ≡ some 28) ↔ ((refusal (opens ++ own) ≡ none) × (offends p.rule p.attributes ≡ true))
  unfolding ◌or◌
  add-first = refused-by 28 (rows_of g n h t (edit (add p))) refl

  own-rows : (refusal own ≡ none) ↔ (GivenOk tab p × NameFree tab p.name)
  own-rows = (
    λ e. let v = refusal-before (given tab p) named e in ((given-rows tab p).0 v.0, (name_free tab p).0 (passes 26 named v.1)),
    λ w. refusal-append (given tab p) named ((given-rows tab p).1 w.0) ∙ pick-false _ 26 _ ((name_free tab p).1 w.1),
  )

pub offending_refused : OffendingRefused
offending_refused g n h t p = (
  λ a. let v = (add-first g n h t p).0 (refused-row g n h t (edit (add p)) 28 a) in
      let w = refusal-before (opens g n h t p) (own g n h t p) v.0 in
      let u = (own-rows g n h t p).0 w.1 in
      (w.0, u.0, u.1, (offends_by_bits _ _).0 v.1),
  λ w. ap (λ (o : Outcome). o.answer) (step-refused g n h t (edit (add p)) 28
      ((add-first g n h t p).1
      (refusal-append (opens g n h t p) (own g n h t p) w.0 ∙ (own-rows g n h t p).1 (w.1, w.2), (offends_by_bits _ _).1 w.3))),
)

-- ---- what every edit keeps

-- what an add that its own rule lets pass is to keep of another rule
abbrev Keeps : Rule → Edit → Type 0
Keeps rule d = (p : NewPartition) → d ≡ add p → offends p.rule p.attributes ≡ false → offends rule p.attributes ≡ false

module _ (rule : Rule) where
  -- an entry offends by its type GUID and its attributes alone
  alike : (e d : List ℕ) → type_of e ≡ type_of d → attributes_of e ≡ attributes_of d → used_offends rule e ≡ used_offends rule d
  alike e d t a = rw (typed-alike e d t, a) refl

  new-keeps : (p : NewPartition) (s : ℕ) → offends rule p.attributes ≡ false → used_offends rule (new_entry p s) ≡ false
  new-keeps p s e =
      let is : attributes_of (new_entry p s) ≡ p.attributes % 256 ^ 8 =
      ap unle (new-attributes p s ∙ sym (le-mod 8 p.attributes)) ∙ unle-le 8 _ (mod-lt p.attributes (lit< tt)) in
      and_false_r _ _ (ap (offends rule) is ∙ offends-low rule p.attributes ∙ e)

  abbrev NoneAt : List ℕ → Type 0
  NoneAt tb = (i : ℕ) → i < 128 → used_offends rule (entry_at tb i) ≡ false

  module _ (first last : ℕ) (tb : List ℕ) (len : length tb ≡ 16384) where
    edit-keeps : (d : Edit) → Keeps rule d → refusal (table_rows first last tb d) ≡ none → FitsEdit first last tb d → NoneAt tb
        → used_offends rule (change first last tb d).entry ≡ false
    edit-keeps (add p) k e f old = new-keeps p (or_zero (start_for first last tb p)) (k p refl (passes 28 (table_rows first last tb (add p)) e))
    edit-keeps (delete k) s e f old = and-false-l _ _ (ap not (unused-zeros 128))
    edit-keeps (resize k size) s e f old =
        let la = length-chunk 128 128 (k - 1) tb f.index len in
        alike _ (entry_of tb k) (sized-type (entry_of tb k) la _) (sized-attributes (entry_of tb k) la _) ∙ old (k - 1) f.index
    edit-keeps (rename k name) s e f old =
        let la = length-chunk 128 128 (k - 1) tb f.index len in
        alike _ (entry_of tb k) (behind-type (entry_of tb k) _ 56 (omega arith)) (named-attributes (entry_of tb k) la _) ∙ old (k - 1) f.index

    none-get : NoneOffends rule tb → NoneAt tb
    none-get f i h = ⊎_elim (λ q. absurd (f i ((offends-is rule tb i h).0 q))) (λ q. q) (bool_cases (used_offends rule (entry_at tb i)))

    edited-keeps : (d : Edit) → Keeps rule d → refusal (table_rows first last tb d) ≡ none → FitsEdit first last tb d → NoneOffends rule tb
        → NoneOffends rule (edited first last tb d)
    edited-keeps d k e f old i w =
        let all = none-get old in
        keeps-is rule (edited first last tb d) i w.0
        (each-put first last tb len (change first last tb d).index (change first last tb d).entry f.index f.len (λ x. used_offends rule x ≡ false) all
        (edit-keeps d k e f all) i w.0) w

  -- a new entry, wherever it starts
  pub placed-keeps : (first last : ℕ) (tb : List ℕ) → length tb ≡ 16384 → (i : ℕ) (p : NewPartition) (s : ℕ) → i < 128 → length (new_entry p s) ≡ 128
      → offends rule p.attributes ≡ false → NoneOffends rule tb → NoneOffends rule (put_chunk 128 i (new_entry p s) tb)
  placed-keeps first last tb len i p s hi le e old k w =
      keeps-is rule (put_chunk 128 i (new_entry p s) tb) k w.0
      (each-put first last tb len i (new_entry p s) hi le (λ x. used_offends rule x ≡ false) (none-get first last tb len old) (new-keeps p s e) k w.0) w

-- the present rule is kept whichever an add names
present-kept : (d : Edit) → Keeps Present d
present-kept d p q e = go p.rule e
  where
    go : (rule : Rule) → offends rule p.attributes ≡ false → offends Present p.attributes ≡ false
    go Present e = e
    go Earlier e = earlier-keeps p.attributes e

earlier-kept : (cs : List Call) → NameEarlier cs → (k : ℕ) (d : Edit) → get_or cs k read ≡ edit d → Keeps Earlier d
earlier-kept cs names k d q p r e = subst (λ (rule : Rule). offends rule p.attributes ≡ false) (names k p (q ∙ ap edit r)) e

pub bits_stay_zero_from : BitsStayZeroFrom
bits_stay_zero_from g wide n es r s cs = (λ old. after Present (λ k d q. present-kept d) old, λ old names. after Earlier (earlier-kept cs names) old)
  where
    after : (rule : Rule) → ((k : ℕ) (d : Edit) → get_or cs k read ≡ edit d → Keeps rule d) → NoneOffends rule es
        → NoneOffends rule (table_of g n (after_all (step g n) cs r).head (after_all (step g n) cs r).tail)
    after rule such old =
        holds_after g wide n (NoneOffends rule) (Keeps rule) (λ tb d k len lens e f p. edited-keeps rule g.first (last_usable g n) tb len d k e f p) cs such r
        (starts-kept g n es r s) (subst (NoneOffends rule) (sym s.table) old)

-- a table without entries has no attributes
pub empty-keeps : (rule : Rule) → NoneOffends rule (zeros 16384)
empty-keeps rule i o = keeps-is rule (zeros 16384) i o.0 (and-false-l _ _ (ap not (empty-unused i))) o

pub bits_stay_zero : BitsStayZero
bits_stay_zero g n guid h t f cs =
    let w = bits_stay_zero_from g f.wide n (zeros 16384) (start_after (format g n guid h t)) (format-starts g n guid h t f) cs in
    (ap (λ (o : Outcome). o.answer) (formatted g n guid h t f), (w.0 (empty-keeps Present), w.1 (empty-keeps Earlier)))
