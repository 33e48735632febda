-- Laws of the fields of a partition, read one after the other.
use mathlib.Core.Path.{◌≡◌, refl, sym, ap, ap₂, subst, ◌∙◌}
use mathlib.Core.Logic.{◌⊎◌, inl, inr}
use mathlib.Core.Bool.{Bool, true, false, not, cond, ◌&&◌, false≢true}
use mathlib.Core.List.{List, [], ◌∷◌, ◌++◌}
use Prim.Native.Nat.{ℕ, zero, suc, ◌<◌, ◌≤◌}
use Prim.Native.String.{String}
use native.Mathlib.Omega.{arith}
use lib.Dec.{eqb}
use lib.ListN.{length, get_or, take, drop}
use Rattle.std.specs.Prelude.{Option, None, Some, is_some, is_none, unwrap_or, option_map, MatchOption, OnSome}
use Rattle.std.specs.List.{slice_split, onto_first}
use Rattle.octets.specs.Ascii.{ascii}
use Rattle.octets.specs.Tests.{◌and◌, ◌or◌, all, any}
use Rattle.octets.specs.Bytes.{zeros, same}
use Rattle.octets.proofs.Bools.{and_l, and_r, and_i, and-false-l, and_false_r, bool_cases, not_t, not_f, and-f, and-t}
use borrow.Author.Tests.{lt-leb, le-leb}
use Rattle.guid.specs.Text.{is_guid_text, stored_of}
use Rattle.guid.specs.Types.{expand}
use Rattle.octets.proofs.Equal.{same_true}
use Rattle.gpt_string_model.specs.declared.WantedPartition.{WantedPartition}
use Rattle.gpt_string_model.specs.Text.{in_first, split, key_of, field_value, has_key, is_field, are_fields, value_in, said_or, byte_count, type_named, wanted_by}
use Rattle.gpt_string_model.specs.Text.{is_partition_name, name_units, fields_of, is_partition, wanted_of, parts_of, is_layout, disk_guid_of}
use Rattle.gpt_string_model.proofs.Asked.{data-type, name-field, size-field, uuid-field, start-field, type-field, bootable-field, is_disk, parts-alone, parts-more, disk-first}
use Rattle.gpt_string_model.proofs.Reading.{first_part, behind_first, parts-next, value-yes, value-no, value-nil, value-skip, value_before}
use Rattle.gpt_string_model.proofs.Reading.{are_complete, are_once, once-on, once-bad, once-twice, fields-are}
use Rattle.gpt_string_text.specs.declared.fields.Fields.{Fields}
use Rattle.gpt_string_text.specs.Invariants.{fields_by, fields_in, with_field, all_read, asked, wanted_from}

-- ---- the parts that std's `split` gives

pub split-parts : (c : ℕ) (xs : List ℕ) → slice_split (λ b. eqb b c) xs ≡ split c xs
unfolding split
split-parts c [] = refl
split-parts c (x ∷ xs) = go (bool_cases (eqb x c)) (split-parts c xs)
  where
    onto : (ps : List (List ℕ)) → onto_first x ps ≡ in_first x ps
    onto [] = refl
    onto (p ∷ ps) = refl

    go : (eqb x c ≡ true) ⊎ (eqb x c ≡ false) → slice_split (λ b. eqb b c) xs ≡ split c xs → slice_split (λ b. eqb b c) (x ∷ xs) ≡ split c (x ∷ xs)
    go (inl q) ih = rw (q, split) (ap (λ (ps : List (List ℕ)). [] ∷ ps) ih)
    go (inr q) ih = rw (q, split) (onto _ ∙ ap (in_first x) ih)

-- the next of them
pub next-of : {A : Type 0} (all : List A) (k : ℕ) (d : A) → k < length all → all ≡ take k all ++ (get_or all k d ∷ drop (suc k) all)
next-of [] k d h = absurd (omega arith)
next-of (x ∷ xs) zero d h = refl
next-of {A} (x ∷ xs) (suc k) d h = ap (λ (ys : List A). x ∷ ys) (next-of xs k d (omega arith))

-- ---- keys that were given

any-given : (k : List ℕ) (fs : List (List ℕ)) → any (has_key k) fs ≡ is_some (value_in k fs)
unfolding ◌or◌
any-given k [] = ap is_some (sym (value-nil k))
any-given k (f ∷ fs) = go (bool_cases (has_key k f)) (any-given k fs)
  where
    go : (has_key k f ≡ true) ⊎ (has_key k f ≡ false) → any (has_key k) fs ≡ is_some (value_in k fs)
        → any (has_key k) (f ∷ fs) ≡ is_some (value_in k (f ∷ fs))
    go (inl q) ih = rw q (ap is_some (sym (value-yes k f fs q)))
    go (inr q) ih = rw q (ih ∙ ap is_some (sym (value-no k f fs q)))

fields-same : {a b c d e g a' b' c' d' e' g' : Option (List ℕ)} → a' ≡ a → b' ≡ b → c' ≡ c → d' ≡ d → e' ≡ e → g' ≡ g
    → fields_by a b c d e g ≡ fields_by a' b' c' d' e' g'
fields-same p q r s t u = rw (p, q, r, s, t, u)

pub none_said : fields_by None None None None None None ≡ fields_in []
unfolding fields_in
none_said =
    fields-same (value-nil (ascii "name=")) (value-nil (ascii "size=")) (value-nil (ascii "uuid=")) (value-nil (ascii "start=")) (value-nil (ascii "type="))
    (value-nil (ascii "bootable"))

-- ---- one field more: f, with the key k

module _ (fs : List (List ℕ)) (f k : List ℕ) (q : key_of f ≡ k) where
  -- the value of the key w, with that of f
  abbrev pub with_value : String → Option (List ℕ)
  with_value w = cond (same k (ascii w)) (Some (field_value f)) (value_in (ascii w) fs)

  value_on : is_some (value_in k fs) ≡ false → (j : List ℕ) → value_in j (fs ++ (f ∷ [])) ≡ cond (same k j) (Some (field_value f)) (value_in j fs)
  value_on n j = go (bool_cases (same k j))
    where
      go : (same k j ≡ true) ⊎ (same k j ≡ false) → value_in j (fs ++ (f ∷ [])) ≡ cond (same k j) (Some (field_value f)) (value_in j fs)
      go (inl e) =
          let s = sym (same_true k j e) in
          rw e
          (value-skip j fs (f ∷ []) (any-given j fs ∙ ap (λ (x : List ℕ). is_some (value_in x fs)) s ∙ n)
          ∙ value-yes j f [] (ap (λ (x : List ℕ). same x j) q ∙ e))
      go (inr e) = rw e (value_before j f fs (ap (λ (x : List ℕ). same x j) q ∙ e))

  field-on : is_field f ≡ true → is_some (value_in k fs) ≡ false
      → with_field fs f
      ≡ Some (fields_by (with_value "name=") (with_value "size=") (with_value "uuid=") (with_value "start=") (with_value "type=") (with_value "bootable"))
  unfolding with_field fields_in
  field-on t n =
      rw (q, and_i (is_field f) (not (is_some (value_in k fs))) t (ap not n))
      (sym (ap Some
      (fields-same (value_on n (ascii "name=")) (value_on n (ascii "size=")) (value_on n (ascii "uuid=")) (value_on n (ascii "start="))
      (value_on n (ascii "type=")) (value_on n (ascii "bootable")))))

  field-twice : is_some (value_in k fs) ≡ true → with_field fs f ≡ None
  unfolding with_field
  field-twice e = rw (q, and_false_r (is_field f) (not (is_some (value_in k fs))) (ap not e))

  field-bad : is_field f ≡ false → with_field fs f ≡ None
  unfolding with_field
  field-bad e = rw (and-false-l (is_field f) (not (is_some (value_in (key_of f) fs))) e)

  -- what `set_once` says of the slot of the key k, which held what its value in fs says, and was offered f's
  module _ {A B : Type 0} (says : List ℕ → A) (old value new : Option A) (r : Option B) (t : Fields)
      (held : old ≡ option_map says (value_in k fs)) (offered : value ≡ cond (is_field f) (Some (says (field_value f))) None)
      (given : is_some r ≡ (is_none old && is_some value)) (set : OnSome r (new ≡ value))
      (is-t : new ≡ Some (says (field_value f))
      → t ≡ fields_by (with_value "name=") (with_value "size=") (with_value "uuid=") (with_value "start=") (with_value "type=") (with_value "bootable")) where
    by : (b : Bool) → is_field f ≡ b → (o : Option (List ℕ)) → value_in k fs ≡ o → (r : Option B)
        → is_some r ≡ (is_none (option_map says o) && is_some (cond b (Some (says (field_value f))) None))
        → OnSome r (new ≡ cond b (Some (says (field_value f))) None) → MatchOption r (with_field fs f ≡ None) (λ u. with_field fs f ≡ Some t)
    by b e (Some v) q None g s = field-twice (ap is_some q)
    by b e (Some v) q (Some u) g s = absurd (false≢true (sym g))
    by false e None q None g s = field-bad e
    by false e None q (Some u) g s = absurd (false≢true (sym g))
    by true e None q None g s = absurd (false≢true g)
    by true e None q (Some u) g s = field-on e (ap is_some q) ∙ ap Some (sym (is-t s))

    pub taken : MatchOption r (with_field fs f ≡ None) (λ u. with_field fs f ≡ Some t)
    taken =
        by (is_field f) refl (value_in k fs) refl r (given ∙ ap₂ (λ (o v : Option A). is_none o && is_some v) held offered)
        (subst (λ (v : Option A). OnSome r (new ≡ v)) offered set)

pub not-taken : (fs : List (List ℕ)) (f : List ℕ) → is_field f ≡ false → with_field fs f ≡ None
not-taken fs f e = field-bad fs f (key_of f) refl e

-- ---- what is offered for each key, of the value v of the field f

module _ (f v : List ℕ) (e : v ≡ field_value f) where
  pub name-offered : key_of f ≡ ascii "name=" → cond (is_partition_name v) (Some (name_units v)) None ≡ cond (is_field f) (Some (name_units (field_value f))) None
  name-offered q = rw (e, name-field f q)

  pub uuid-offered : key_of f ≡ ascii "uuid=" → cond (is_guid_text v) (Some (stored_of v)) None ≡ cond (is_field f) (Some (stored_of (field_value f))) None
  uuid-offered q = rw (e, uuid-field f q)

  pub type-offered : key_of f ≡ ascii "type="
      → cond (is_guid_text (expand v)) (Some (type_named v)) None ≡ cond (is_field f) (Some (type_named (field_value f))) None
  type-offered q = rw (e, type-field f q)

  some_or : (o : Option ℕ) → o ≡ cond (is_some o) (Some (unwrap_or o 0)) None
  some_or None = refl
  some_or (Some n) = refl

  pub size-offered : key_of f ≡ ascii "size=" → byte_count v ≡ cond (is_field f) (Some (unwrap_or (byte_count (field_value f)) 0)) None
  size-offered q = rw (e, size-field f q) (some_or (byte_count (field_value f)))

  pub start-offered : key_of f ≡ ascii "start=" → byte_count v ≡ cond (is_field f) (Some (unwrap_or (byte_count (field_value f)) 0)) None
  start-offered q = rw (e, start-field f q) (some_or (byte_count (field_value f)))

pub bootable-offered : (f : List ℕ) → key_of f ≡ ascii "bootable" → ◌≡◌ {A = Option ℕ} (Some 4) (cond (is_field f) (Some 4) None)
bootable-offered f q = rw (bootable-field f q)

-- ---- the fields `done`, each once, and then f

module _ (done : List (List ℕ)) (once : are_once done ≡ true) (f : List ℕ) where
  pub one-more : (t : Fields) → with_field done f ≡ Some t → (are_once (done ++ (f ∷ [])) ≡ true) × (t ≡ fields_in (done ++ (f ∷ [])))
  unfolding with_field
  one-more t e = go (bool_cases (is_field f and not (is_some (value_in (key_of f) done))))
    where
      go : ((is_field f and not (is_some (value_in (key_of f) done))) ≡ true) ⊎ ((is_field f and not (is_some (value_in (key_of f) done))) ≡ false)
          → (are_once (done ++ (f ∷ [])) ≡ true) × (t ≡ fields_in (done ++ (f ∷ [])))
      go (inl q) =
          let z : Some (fields_in (done ++ (f ∷ []))) ≡ Some t = rw q at e in
          (once-on done f once (and_l _ _ q) (any-given (key_of f) done ∙ not_t _ (and_r _ _ q)), cc)
      go (inr q) = let z : None ≡ Some t = rw q at e in cc

  pub no-more : (gs : List (List ℕ)) → with_field done f ≡ None → None ≡ all_read (done ++ (f ∷ gs))
  unfolding with_field all_read
  no-more gs e = rw (bad (bool_cases (is_field f)) (bool_cases (is_some (value_in (key_of f) done))))
    where
      bad : (is_field f ≡ true) ⊎ (is_field f ≡ false) → (is_some (value_in (key_of f) done) ≡ true) ⊎ (is_some (value_in (key_of f) done) ≡ false)
          → are_once (done ++ (f ∷ gs)) ≡ false
      bad (inr q) b = once-bad f gs done q
      bad (inl q) (inl b) = once-twice f gs done (any-given (key_of f) done ∙ b)
      bad (inl q) (inr b) =
          let z : Some (fields_in (done ++ (f ∷ []))) ≡ None = rw (and_i (is_field f) (not (is_some (value_in (key_of f) done))) q (ap not b)) at e in cc

-- f is the next of the fields gs, of which `done` are the first k
pub wrong-field : (done : List (List ℕ)) → are_once done ≡ true → (f : List ℕ) (gs : List (List ℕ)) (k : ℕ) → done ≡ take k gs → k < length gs
    → f ≡ get_or gs k f → with_field done f ≡ None → None ≡ all_read gs
wrong-field done once f gs k d l i e =
    let y : take k gs ++ (get_or gs k f ∷ drop (suc k) gs) ≡ done ++ (f ∷ drop (suc k) gs) =
    ap₂ (λ (x : List (List ℕ)) (y : List ℕ). x ++ (y ∷ drop (suc k) gs)) (sym d) (sym i) in
    no-more done once f (drop (suc k) gs) e ∙ ap all_read (sym (next-of gs k f l ∙ y))

pub once-nil : are_once [] ≡ true
once-nil = and_i _ _ refl refl

pub all-once : (fs : List (List ℕ)) → are_once fs ≡ true → Some (fields_in fs) ≡ all_read fs
unfolding all_read
all-once fs e = rw e

-- ---- the partition

start-in : (o : Option (List ℕ)) → option_map (λ v. unwrap_or (byte_count v) 0) o ≡ said_or (λ v. Some (unwrap_or (byte_count v) 0)) None o
start-in None = refl
start-in (Some v) = refl

kind-in : (d : List ℕ) (o : Option (List ℕ)) → unwrap_or (option_map type_named o) d ≡ said_or type_named d o
kind-in d None = refl
kind-in d (Some v) = refl

attributes-in : (o : Option (List ℕ)) → ◌≡◌ {A = ℕ} (unwrap_or (option_map (λ v. 4) o) 0) (said_or (λ v. 4) 0 o)
attributes-in None = refl
attributes-in (Some v) = refl

asked-in : (n s u : Option (List ℕ)) (start : Option ℕ) (kind : List ℕ) (a : ℕ)
    → asked (option_map name_units n) (option_map (λ v. unwrap_or (byte_count v) 0) s) (option_map stored_of u) start kind a
    ≡ cond (is_some n and (is_some s and (is_some u and (true and (true and (true and true))))))
    (Some (record {
      kind = kind;
      unique = said_or stored_of (zeros 16) u;
      start = start;
      size = said_or (λ v. unwrap_or (byte_count v) 0) 0 s;
      attributes = a;
      name = said_or name_units (zeros 36) n;
    })) None
unfolding ◌and◌
asked-in None s u start kind a = refl
asked-in (Some n) None u start kind a = refl
asked-in (Some n) (Some s) None start kind a = refl
asked-in (Some n) (Some s) (Some u) start kind a = refl

wanted-in : (fs : List (List ℕ)) → wanted_from (fields_in fs) ≡ cond (are_complete fs) (Some (wanted_by fs)) None
unfolding wanted_from fields_in wanted_by ◌or◌
wanted-in fs =
    rw (
      any-given (ascii "name=") fs,
      any-given (ascii "size=") fs,
      any-given (ascii "uuid=") fs,
      start-in (value_in (ascii "start=") fs),
      kind-in (type_named (ascii "data")) (value_in (ascii "type=") fs),
      attributes-in (value_in (ascii "bootable") fs),
    )
    (asked-in (value_in (ascii "name=") fs) (value_in (ascii "size=") fs) (value_in (ascii "uuid=") fs) _ _ _)

module _ (p : List ℕ) where
  pub not-read : all_read (fields_of p) ≡ None → None ≡ cond (is_partition p) (Some (wanted_of p)) None
  unfolding all_read is_partition
  not-read e = go (bool_cases (are_once (fields_of p)))
    where
      go : (are_once (fields_of p) ≡ true) ⊎ (are_once (fields_of p) ≡ false) → None ≡ cond (are_fields (fields_of p)) (Some (wanted_of p)) None
      go (inl q) = let z : Some (fields_in (fields_of p)) ≡ None = rw q at e in cc
      go (inr q) = rw (fields-are (fields_of p), and-false-l _ (are_complete (fields_of p)) q)

  pub read-wanted : (f : Fields) → all_read (fields_of p) ≡ Some f → wanted_from f ≡ cond (is_partition p) (Some (wanted_of p)) None
  unfolding all_read is_partition wanted_of ◌and◌
  read-wanted f e = go (bool_cases (are_once (fields_of p)))
    where
      go : (are_once (fields_of p) ≡ true) ⊎ (are_once (fields_of p) ≡ false)
          → wanted_from f ≡ cond (are_fields (fields_of p)) (Some (wanted_by (fields_of p))) None
      go (inl q) =
          let z : Some (fields_in (fields_of p)) ≡ Some f = rw q at e in
          let y : f ≡ fields_in (fields_of p) = cc in
          ap wanted_from y ∙ wanted-in (fields_of p) ∙ rw (fields-are (fields_of p), q)
      go (inr q) = let z : None ≡ Some f = rw q at e in cc

-- ---- the text

module _ (text : List ℕ) where
  pub layout-long : 8192 < length text → false ≡ is_layout text
  unfolding is_layout
  layout-long h = and-f _ (lt-leb _ _ h)

  pub layout-alone : length text ≤ 8192 → length (behind_first text) ≡ 0 → false ≡ is_layout text
  unfolding is_layout
  layout-alone s h = and-t (le-leb _ _ s) (sym (parts-alone text h))

  pub layout-more : length text ≤ 8192 → 0 < length (behind_first text) → (is_disk text and all is_partition (parts_of (behind_first text))) ≡ is_layout text
  unfolding is_layout
  layout-more s h = and-t (le-leb _ _ s) (sym (parts-more text h))

  module _ (s : length text ≤ 8192) (h : 0 < length (behind_first text)) (d p : List ℕ) (is-d : d ≡ first_part text) (is-p : p ≡ behind_first text)
      (r : Option (List ℕ))
      (a : r ≡ cond (has_key (ascii "uuid_disk=") d and is_guid_text (field_value d)) (Some (stored_of (field_value d))) None) where
    read-disk : r ≡ cond (is_disk text) (Some (disk_guid_of text)) None
    read-disk =
        a ∙ ap (λ (x : List ℕ). cond (has_key (ascii "uuid_disk=") x and is_guid_text (field_value x)) (Some (stored_of (field_value x))) None) is-d
        ∙ ap (λ (x : List ℕ). cond (is_disk text) (Some x) None) (sym (disk-first text))

    pub no-disk : r ≡ None → None ≡ cond (is_layout text) (Some (disk_guid_of text)) None
    unfolding ◌and◌
    no-disk n = go (bool_cases (is_disk text))
      where
        go : (is_disk text ≡ true) ⊎ (is_disk text ≡ false) → None ≡ cond (is_layout text) (Some (disk_guid_of text)) None
        go (inl q) = let z : r ≡ Some (disk_guid_of text) = rw q at read-disk in cc
        go (inr q) = rw (← layout-more s h, q)

    pub disk-read : (g : List ℕ) → r ≡ Some g → (b : Bool) → b ≡ all is_partition (parts_of p)
        → cond b (Some g) None ≡ cond (is_layout text) (Some (disk_guid_of text)) None
    unfolding ◌and◌
    disk-read g n b e = go (bool_cases (is_disk text))
      where
        go : (is_disk text ≡ true) ⊎ (is_disk text ≡ false) → cond b (Some g) None ≡ cond (is_layout text) (Some (disk_guid_of text)) None
        go (inl q) =
            let z : r ≡ Some (disk_guid_of text) = rw q at read-disk in
            let y : g ≡ disk_guid_of text = cc in
            rw (← layout-more s h, q, e, is-p, y)
        go (inr q) = let z : r ≡ None = rw q at read-disk in cc

-- ---- the partitions, one after the other

module _ (text part behind : List ℕ) (is-part : part ≡ first_part text) (is-behind : behind ≡ behind_first text) (l : 0 < length text)
    (r : Option WantedPartition) (a : r ≡ cond (is_partition part) (Some (wanted_of part)) None) where
  all-next : all is_partition (parts_of text) ≡ (is_partition part and all is_partition (parts_of behind))
  all-next =
      ap (all is_partition) (parts-next text l)
      ∙ ap₂ (λ (x y : List ℕ). is_partition x and all is_partition (parts_of y)) (sym is-part) (sym is-behind)

  none-is : (b : Bool) → r ≡ cond b (Some (wanted_of part)) None → is_none r ≡ not b
  none-is true e = rw e
  none-is false e = rw e

  pub next-wrong : is_none r ≡ true → all is_partition (parts_of text) ≡ false
  next-wrong n = all-next ∙ and-false-l _ _ (not_t _ (sym (none-is (is_partition part) a) ∙ n))

  pub next-right : is_none r ≡ false → all is_partition (parts_of text) ≡ all is_partition (parts_of behind)
  unfolding ◌and◌
  next-right n = all-next ∙ rw (not_f _ (sym (none-is (is_partition part) a) ∙ n))

-- the type of the short name data
pub data-kind : cond (is_guid_text (expand (ascii "data"))) (Some (type_named (ascii "data"))) None ≡ Some (type_named (ascii "data"))
data-kind = rw data-type
