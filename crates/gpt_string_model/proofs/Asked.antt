-- What a field takes by its key; where the partitions of a text that is taken begin, and the lengths of what it asks for.
use mathlib.Core.Path.{◌≡◌, refl, sym, ap, subst, ◌∙◌}
use mathlib.Core.Logic.{◌⊎◌, inl, inr}
use mathlib.Core.Bool.{Bool, true, false, false≢true}
use mathlib.Core.List.{List, [], ◌∷◌}
use Rattle.std.specs.Prelude.{Option, is_some}
use Prim.Native.Nat.{ℕ, ◌+◌, ◌-◌, ◌≤◌, ◌<◌}
use Prim.Native.Char.{code}
use native.Mathlib.Omega.{arith}
use lib.ListN.{length, get_or, take, drop, replicate, length-append, length-replicate, length-drop}
use lib.Dec.{ltb}
use borrow.Author.Tests.{leb-true, ltb-true, ltb-false}
use Rattle.octets.specs.Ascii.{ascii}
use Rattle.octets.specs.Tests.{◌and◌, ◌or◌, all, any}
use Rattle.octets.specs.Bytes.{part, rest, same}
use Rattle.octets.proofs.Bools.{and_l, and_r, and_i, bool_cases, clash}
use Rattle.octets.proofs.Parts.{length-zeros}
use Rattle.octets.proofs.Equal.{same_true}
use Rattle.guid.specs.Hex.{hex_value}
use Rattle.guid.specs.Text.{digits_in, dashes_in, is_guid_text, stored_of}
use Rattle.guid.specs.Types.{short_at, expand}
use Rattle.guid.proofs.Calls.{length-stored}
use Rattle.gpt_string_model.specs.declared.WantedPartition.{WantedPartition}
use Rattle.gpt_string_model.specs.Text.{key_of, field_value, byte_count, is_partition_name, keys, has_key, is_field, are_fields, value_in, said_or}
use Rattle.gpt_string_model.specs.Text.{name_units, type_named, wanted_by, fields_of, is_partition, wanted_of}
use Rattle.gpt_string_model.specs.Text.{split, closed, parts_of, are_parts, is_layout, disk_guid_of}
use Rattle.gpt_string_model.proofs.Reading.{next_in, first_part, behind_first, parts-nil, parts-next, parts-head, value-yes, value-no, value-nil}

-- ---- a field with one of the keys is one where the key takes its value

or_nothing : (a : Bool) → (a or false) ≡ a
unfolding ◌or◌
or_nothing true = refl
or_nothing false = refl

-- the field's key as a variable
unfoldable taken_by : List ℕ → List ℕ → Bool
taken_by k v = any (λ e. same k e.word and e.takes v) keys

by_key : (f k : List ℕ) → key_of f ≡ k → is_field f ≡ taken_by k (field_value f)
unfolding is_field taken_by
by_key f k q = ap (λ (x : List ℕ). any (λ e. same x e.word and e.takes (field_value f)) keys) q

module _ (f : List ℕ) where
  pub name-field : key_of f ≡ ascii "name=" → is_field f ≡ is_partition_name (field_value f)
  unfolding taken_by same ◌and◌ ◌or◌
  name-field q = by_key f (ascii "name=") q ∙ or_nothing _

  pub size-field : key_of f ≡ ascii "size=" → is_field f ≡ is_some (byte_count (field_value f))
  unfolding taken_by same ◌and◌ ◌or◌
  size-field q = by_key f (ascii "size=") q ∙ or_nothing _

  pub uuid-field : key_of f ≡ ascii "uuid=" → is_field f ≡ is_guid_text (field_value f)
  unfolding taken_by same ◌and◌ ◌or◌
  uuid-field q = by_key f (ascii "uuid=") q ∙ or_nothing _

  pub start-field : key_of f ≡ ascii "start=" → is_field f ≡ is_some (byte_count (field_value f))
  unfolding taken_by same ◌and◌ ◌or◌
  start-field q = by_key f (ascii "start=") q ∙ or_nothing _

  pub type-field : key_of f ≡ ascii "type=" → is_field f ≡ is_guid_text (expand (field_value f))
  unfolding taken_by same ◌and◌ ◌or◌
  type-field q = by_key f (ascii "type=") q ∙ or_nothing _

  pub bootable-field : key_of f ≡ ascii "bootable" → is_field f ≡ true
  unfolding taken_by same ◌and◌ ◌or◌
  bootable-field q = by_key f (ascii "bootable") q

  -- one that has none of the keys is none
  pub no_field : has_key (ascii "name=") f ≡ false → has_key (ascii "size=") f ≡ false → has_key (ascii "uuid=") f ≡ false
      → has_key (ascii "start=") f ≡ false → has_key (ascii "type=") f ≡ false → has_key (ascii "bootable") f ≡ false → is_field f ≡ false
  unfolding is_field ◌and◌ ◌or◌
  no_field n s u a t b = rw (n, s, u, a, t, b)

-- ---- what is found is a field's value

-- P holds of what the value found says, where it holds of what each field with the key k says, and of d
module _ {A : Type 0} (P : A → Type 0) (says : List ℕ → A) (k : List ℕ)
    (takes : (f : List ℕ) → is_field f ≡ true → key_of f ≡ k → P (says (field_value f))) where
  found : (fs : List (List ℕ)) → all is_field fs ≡ true → (d : A) → P d → P (said_or says d (value_in k fs))
  found [] a d p = subst (λ (o : Option (List ℕ)). P (said_or says d o)) (sym (value-nil k)) p
  found (f ∷ fs) a d p = go (bool_cases (has_key k f)) (found fs (and_r _ _ a) d p)
    where
      go : (has_key k f ≡ true) ⊎ (has_key k f ≡ false) → P (said_or says d (value_in k fs)) → P (said_or says d (value_in k (f ∷ fs)))
      go (inl q) ih = subst (λ (o : Option (List ℕ)). P (said_or says d o)) (sym (value-yes k f fs q)) (takes f (and_l _ _ a) (same_true _ _ q))
      go (inr q) ih = subst (λ (o : Option (List ℕ)). P (said_or says d o)) (sym (value-no k f fs q)) ih

-- ---- a partition

pub data-type : is_guid_text (expand (ascii "data")) ≡ true
unfolding same part rest ◌and◌ ◌or◌ hex_value digits_in dashes_in is_guid_text short_at expand
data-type = refl

pub name-length : (v : List ℕ) → is_partition_name v ≡ true → length v ≤ 36
unfolding is_partition_name
name-length v e = leb-true _ _ (and_r _ _ (and_l _ _ e))

pub length-units : (v : List ℕ) → length v ≤ 36 → length (name_units v) ≡ 36
length-units v h = length-append v (replicate (36 - length v) 0) ∙ ap (λ (k : ℕ). length v + k) (length-replicate (36 - length v) 0) ∙ omega arith

-- what a partition asks for has the lengths that its entry has, and attributes 0 or 4
pub record Formed (w : WantedPartition) : Type 0 where
  pub kind : length w.kind ≡ 16
  pub unique : length w.unique ≡ 16
  pub name : length w.name ≡ 36
  pub attributes : w.attributes ≤ 4

abbrev Long : ℕ → List ℕ → Type 0
Long k xs = length xs ≡ k

fields-formed : (fs : List (List ℕ)) → all is_field fs ≡ true → Formed (wanted_by fs)
unfolding wanted_by
fields-formed fs a = record {
  kind = found (Long 16) type_named (ascii "type=") (λ f e q. length-stored _ (sym (type-field f q) ∙ e)) fs a _ (length-stored _ data-type);
  unique = found (Long 16) stored_of (ascii "uuid=") (λ f e q. length-stored _ (sym (uuid-field f q) ∙ e)) fs a _ (length-zeros 16);
  name = found (Long 36) name_units
      (ascii "name=") (λ f e q. length-units (field_value f) (name-length _ (sym (name-field f q) ∙ e))) fs a _ (length-zeros 36);
  attributes = found (λ (x : ℕ). x ≤ 4) (λ v. 4) (ascii "bootable") (λ f e q. omega arith) fs a 0 (omega arith);
}

pub partition-formed : (p : List ℕ) → is_partition p ≡ true → Formed (wanted_of p)
unfolding is_partition are_fields wanted_of
partition-formed p e = fields-formed (fields_of p) (and_l _ _ (and_l _ _ e))

-- ---- the text

cons_head : {x y : List ℕ} {xs ys : List (List ℕ)} → x ∷ xs ≡ y ∷ ys → x ≡ y
cons_head e = cc

-- a part for the disk, then one or more partitions
pub record Parts (ps : List (List ℕ)) : Type 0 where
  pub disk : List ℕ
  pub others : List (List ℕ)
  pub are : ps ≡ disk ∷ others
  pub some : 0 < length others
  pub keyed : has_key (ascii "uuid_disk=") disk ≡ true
  pub guid : is_guid_text (field_value disk) ≡ true
  pub partitions : all is_partition others ≡ true

parts_are : (ps : List (List ℕ)) → are_parts ps ≡ true → Parts ps
parts_are [] e = absurd (false≢true e)
parts_are (d ∷ []) e = absurd (false≢true e)
parts_are (d ∷ p ∷ ps) e = record {
  disk = d;
  others = p ∷ ps;
  are = refl;
  some = omega arith;
  keyed = and_l _ _ (and_l _ _ e);
  guid = and_r _ _ (and_l _ _ e);
  partitions = and_r _ _ e;
}

-- by the part before the first semicolon, and what stands behind it: without anything behind it there is no partition
module _ (text : List ℕ) where
  abbrev pub is_disk : Bool
  is_disk = has_key (ascii "uuid_disk=") (first_part text) and is_guid_text (field_value (first_part text))

  longer : 0 < length (behind_first text) → 0 < length text
  longer h = omega (arith, length-drop (next_in (code ";") text + 1) text)

  pub parts-alone : length (behind_first text) ≡ 0 → are_parts (parts_of text) ≡ false
  parts-alone h = go text h
    where
      go : (text : List ℕ) → length (behind_first text) ≡ 0 → are_parts (parts_of text) ≡ false
      go [] h = ap are_parts (parts-nil [] refl)
      go (x ∷ xs) h =
          ap are_parts (parts-next (x ∷ xs) (omega arith) ∙ ap (λ (ps : List (List ℕ)). first_part (x ∷ xs) ∷ ps) (parts-nil (behind_first (x ∷ xs)) h))

  pub parts-more : 0 < length (behind_first text) → are_parts (parts_of text) ≡ (is_disk and all is_partition (parts_of (behind_first text)))
  parts-more h =
      let w = parts-next (behind_first text) h in
      ap are_parts (parts-next text (longer h) ∙ ap (λ (ps : List (List ℕ)). first_part text ∷ ps) w)
      ∙ ap (λ (ps : List (List ℕ)). is_disk and all is_partition ps) (sym w)

  pub disk-first : disk_guid_of text ≡ stored_of (field_value (first_part text))
  unfolding disk_guid_of
  disk-first = ap (λ (d : List ℕ). stored_of (field_value d)) (parts-head text)

module _ (text : List ℕ) (t : is_layout text ≡ true) where
  layout-are : are_parts (parts_of text) ≡ true
  unfolding is_layout
  layout-are = and_r _ _ t

  pub layout-parts : Parts (parts_of text)
  layout-parts = parts_are (parts_of text) layout-are

  pub length-disk-guid : length (disk_guid_of text) ≡ 16
  unfolding disk_guid_of
  length-disk-guid = let w = layout-parts in rw w.are (length-stored _ w.guid)

  pub layout-partitions : all is_partition (drop 1 (parts_of text)) ≡ true
  layout-partitions = let w = layout-parts in rw w.are w.partitions
