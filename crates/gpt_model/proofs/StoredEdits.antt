-- What an edit writes into the table, by bytes.
use mathlib.Core.Path.{◌≡◌, refl, sym, ap, subst, ◌∙◌}
use mathlib.Core.Logic.{◌⊎◌, inl, inr}
use mathlib.Core.Bool.{Bool, true, false}
use mathlib.Core.List.{List, [], ◌∷◌}
use mathlib.Core.Option.{none}
use Prim.Native.Nat.{ℕ, zero, suc, ◌+◌, ◌-◌, ◌*◌, ◌≤◌, ◌<◌}
use native.Mathlib.Nat.{not-suc-le-zero, le_of_suc-le-suc}
use native.Mathlib.Omega.{arith}
use lib.ListN.{length, get_or}
use borrow.Author.Tests.{eqb-true}
use Rattle.octets.specs.Tests.{find_ix}
use Rattle.octets.specs.Rows.{refusal}
use Rattle.octets.specs.Bytes.{le, part, put, zeros, put_chunk}
use Rattle.octets.proofs.Bools.{and_l, and_r, bool_cases, clash, not_f}
use Rattle.octets.proofs.Rows.{passes}
use Rattle.octets.proofs.Numbers.{length-le}
use Rattle.octets.proofs.Parts.{part-here, part-skip, part-part, length-zeros}
use Rattle.octets.proofs.Puts.{put-inside, get_or-put-out}
use Rattle.octets.proofs.Tests.{find_ix-get}
use Rattle.octets.proofs.Chunks.{length-chunks, put_chunk-put}
use Rattle.gpt_model.specs.Table.{first_of, name_bytes, unused, entries, ranges_of}
use Rattle.gpt_model.specs.Disk.{Shape, last_usable, table_of}
use Rattle.gpt_model.specs.declared.NewPartition.{NewPartition}
use Rattle.gpt_model.specs.Calls.{Edit, add, delete, resize, rename, edit, accepted, Outcome, or_zero, new_entry, start_for, table_rows, change, edited}
use Rattle.gpt_model.specs.Calls.{lengths_of}
use Rattle.gpt_model.specs.Stored.{Outside, entry_first, EntryName, StaysBut, AddSays, EditSays}
use Rattle.gpt_model.specs.Claims.{EditWrites}
use Rattle.gpt_model.proofs.Room.{start-some}
use Rattle.gpt_model.proofs.Fields.{part-put-at, length-name, length-new, new-type, new-unique, new-first-bytes, new-last-bytes, new-attributes, new-name}
use Rattle.gpt_model.proofs.Entries.{entry_at}
use Rattle.gpt_model.proofs.Edits.{FitsEdit, some-or_zero}
use Rattle.gpt_model.proofs.Outcomes.{step-accepted, edit-table}
use Rattle.gpt_model.proofs.Steps.{lens, len-table, edit-fits, edit-held}
use Rattle.gpt_model.proofs.StoredTable.{entry-is, first-is, used-is}

-- the elements before the first that passes do not pass
find_ix-before : {A : Type 0} (p : A → Bool) (xs : List A) (d : A) (i : ℕ) → i < find_ix p xs → p (get_or xs i d) ≡ false
find_ix-before p [] d i h = absurd (not-suc-le-zero h)
find_ix-before p (x ∷ xs) d i h = go (bool_cases (p x)) i h (find_ix-before p xs d)
  where
    go : (p x ≡ true) ⊎ (p x ≡ false) → (i : ℕ) → i < find_ix p (x ∷ xs) → ((i : ℕ) → i < find_ix p xs → p (get_or xs i d) ≡ false)
        → p (get_or (x ∷ xs) i d) ≡ false
    go (inl e) i h ih = absurd (not-suc-le-zero (rw (e, find_ix) at h))
    go (inr e) zero h ih = e
    go (inr e) (suc i) h ih = ih i (le_of_suc-le-suc (rw (e, find_ix) at h))

-- unit u of a name
unit-at : (name : List ℕ) (u : ℕ) → u < length name → part (2 * u) 2 (name_bytes name) ≡ le 2 (get_or name u 0)
unit-at [] u h = absurd (not-suc-le-zero h)
unit-at (x ∷ xs) zero h = part-here (le 2 x) (name_bytes xs) 2 (length-le 2 x)
unit-at (x ∷ xs) (suc u) h =
    ap (λ (k : ℕ). part k 2 (name_bytes (x ∷ xs))) two ∙ part-skip (le 2 x) (name_bytes xs) 2 (2 * u) 2 (length-le 2 x) ∙ unit-at xs u (le_of_suc-le-suc h)
  where
    two : 2 * suc u ≡ 2 + 2 * u
    two = omega arith

-- w bytes v written at a
module _ (es v : List ℕ) (a w : ℕ) (len : length v ≡ w) where
  stays : StaysBut a w es (put a v es)
  stays k o = get_or-put-out v es a k (subst (λ (x : ℕ). Outside a x k) (sym len) o)

  pub inner : (at k : ℕ) → at + k ≤ w → a + w ≤ length es → part (a + at) k (put a v es) ≡ part at k v
  inner at k h l = sym (part-part at k a w (put a v es) h) ∙ ap (part at k) (part-put-at v es a w len l)

module _ (es : List ℕ) (long : length es ≡ 16384) (i : ℕ) (hi : i < 128) where
  -- a table with entry i replaced
  replaced : (e : List ℕ) → length e ≡ 128 → put_chunk 128 i e es ≡ put (i * 128) e es
  replaced e l = put_chunk-put 128 128 i e es l hi long

  -- and with w of its bytes replaced
  pub within : (v : List ℕ) (at : ℕ) → at + length v ≤ 128 → length (put at v (entry_at es i)) ≡ 128
      → put_chunk 128 i (put at v (entry_at es i)) es ≡ put (i * 128 + at) v es
  within v at h l =
      replaced (put at v (entry_at es i)) l ∙ ap (λ (x : List ℕ). put (i * 128) (put at v x) es) (entry-is es i hi)
      ∙ put-inside v es (i * 128) 128 at (omega arith) h

  -- the name at byte 56 of entry i
  named : (name es' : List ℕ) → length name ≡ 36 → part (i * 128 + 56) 72 es' ≡ name_bytes name → EntryName es' i name
  named name es' l f u h = sym (part-part (2 * u) 2 (i * 128 + 56) 72 es' (omega arith)) ∙ ap (part (2 * u) 2) f ∙ unit-at name u (omega arith)

module _ (g : Shape) (n : ℕ) (es : List ℕ) (long : length es ≡ 16384) where
  abbrev first : ℕ
  first = g.first

  abbrev last : ℕ
  last = last_usable g n

  -- the edit d, its answer and the table that it leaves
  abbrev Says : Edit → Type 0
  Says d = EditSays g n d (accepted (change g.first (last_usable g n) es d).values) es (edited g.first (last_usable g n) es d)

  delete-says : (k : ℕ) → k - 1 < 128 → Says (delete k)
  delete-says k h =
      let q = replaced es long (k - 1) h (zeros 128) (length-zeros 128) in
      subst (λ (x : List ℕ). (accepted [] ≡ accepted []) × (part ((k - 1) * 128) 128 x ≡ zeros 128) × StaysBut ((k - 1) * 128) 128 es x) (sym q)
      (refl, part-put-at (zeros 128) es ((k - 1) * 128) 128 (length-zeros 128) (omega arith), stays es (zeros 128) ((k - 1) * 128) 128 (length-zeros 128))

  resize-says : (k size : ℕ) → (h : k - 1 < 128) → length (put 40 (le 8 (first_of (entry_at es (k - 1)) + size - 1)) (entry_at es (k - 1))) ≡ 128
      → Says (resize k size)
  resize-says k size h l =
      let v = le 8 (first_of (entry_at es (k - 1)) + size - 1) in
      let at = (k - 1) * 128 + 40 in
      let q = within es long (k - 1) h v 40 (omega (arith, length-le 8 (first_of (entry_at es (k - 1)) + size - 1))) l in
      subst (λ (x : List ℕ). (accepted [] ≡ accepted []) × (part at 8 x ≡ le 8 (entry_first es (k - 1) + size - 1)) × StaysBut at 8 es x) (sym q) (
        refl,
        part-put-at v es at 8 (length-le 8 _) (omega arith) ∙ ap (λ (f : ℕ). le 8 (f + size - 1)) (first-is es (k - 1) h),
        stays es v at 8 (length-le 8 _),
      )

  rename-says : (k : ℕ) (name : List ℕ) → length name ≡ 36 → (h : k - 1 < 128) → length (put 56 (name_bytes name) (entry_at es (k - 1))) ≡ 128
      → Says (rename k name)
  rename-says k name ln h l =
      let v = name_bytes name in
      let lv : length (name_bytes name) ≡ 72 = length-name name ∙ omega arith in
      let at = (k - 1) * 128 + 56 in
      let q = within es long (k - 1) h v 56 (omega arith) l in
      subst (λ (x : List ℕ). (accepted [] ≡ accepted []) × EntryName x (k - 1) name × StaysBut at 72 es x) (sym q)
      (refl, named es long (k - 1) h name _ ln (part-put-at v es at 72 lv (omega arith)), stays es v at 72 lv)

  add-says : (p : NewPartition) → length p.kind ≡ 16 → length p.unique ≡ 16 → length p.name ≡ 36
      → refusal (table_rows g.first (last_usable g n) es (add p)) ≡ none → Says (add p)
  add-says p lt lu ln e =
      let rows = table_rows g.first (last_usable g n) es (add p) in
      let i = find_ix unused (entries es) in
      let s = or_zero (start_for g.first (last_usable g n) es p) in
      let r = start-some (ranges_of es) g.first (last_usable g n) p.size p.alignment s (some-or_zero _ (passes 25 rows e)) in
      let f = find_ix-get unused (entries es) [] (not_f _ (passes 24 rows e)) in
      let h : i < 128 = omega (arith, f.0, length-chunks 128 128 es) in
      let new = new_entry p s in
      let ln' = length-new p s in
      let q = replaced es long i h new ln' in
      let at : (k w : ℕ) → k + w ≤ 128 → part (i * 128 + k) w (put (i * 128) new es) ≡ part k w new =
      λ k w l. inner es new (i * 128) 128 ln' k w l (omega arith) in (
        i,
        s,
        refl,
        subst (λ (x : List ℕ). AddSays g n p es x i s) (sym q) (record {
          slot = (h, λ u. clash f.1 (used-is es i h ∙ u), λ j l. sym (used-is es j (omega arith)) ∙ find_ix-before unused (entries es) [] j l);
          start = ((r.1.0, (r.0, r.1.1.0, r.1.1.1)), λ b l w. let f = w.1 in r.2 b f.0 l (w.0, (f.1, f.2)));
          type_guid = ap (λ (x : ℕ). part x 16 (put (i * 128) new es)) (omega arith) ∙ at 0 16 (omega arith) ∙ new-type p s lt;
          unique_guid = at 16 16 (omega arith) ∙ new-unique p s lu;
          first = at 32 8 (omega arith) ∙ new-first-bytes p s;
          last = at 40 8 (omega arith) ∙ new-last-bytes p s;
          bits = at 48 8 (omega arith) ∙ new-attributes p s;
          units = named es long i h p.name _ ln (at 56 72 (omega arith) ∙ new-name p s ln);
          others = stays es new (i * 128) 128 ln';
        }),
      )

  says : (d : Edit) → lengths_of d ≡ true → refusal (table_rows g.first (last_usable g n) es d) ≡ none → FitsEdit g.first (last_usable g n) es d → Says d
  says (add p) l e f =
      add-says p (eqb-true _ _ (and_l _ _ (and_l _ _ l))) (eqb-true _ _ (and_r _ _ (and_l _ _ l))) (eqb-true _ _ (and_r _ _ l)) e
  says (delete k) l e f = delete-says k f.index
  says (resize k size) l e f = resize-says k size f.index f.len
  says (rename k name) l e f = rename-says k name (eqb-true _ _ l) f.index f.len

pub edit_writes : EditWrites
edit_writes g n h t d wide e =
    let es = table_of g n h t in
    subst (λ (o : Outcome). EditSays g n d o.answer (table_of g n h t) (table_of g n o.head o.tail)) (sym (step-accepted g n h t (edit d) e))
    (subst (λ (x : List ℕ). EditSays g n d (accepted (change g.first (last_usable g n) (table_of g n h t) d).values) (table_of g n h t) x)
    (sym (edit-held g wide n h t d e).table)
    (says g n es (len-table g wide n h t d e) d (lens g wide n h t d e).2 (edit-table g n h t d e) (edit-fits g wide n h t d e)))
