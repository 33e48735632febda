-- The fields of a partition as the code keeps them, for its proofs: no part of what is to be believed.
use Rattle.std.specs.Prelude.{◌≡◌, not, cond, List, [], ◌∷◌, ◌++◌, ℕ, Option, None, Some, is_some, unwrap_or, option_map, MatchOption}
use Rattle.octets.specs.Ascii.{ascii}
use Rattle.octets.specs.Tests.{◌and◌, all, pairs}
use Rattle.guid.specs.Text.{stored_of}
use Rattle.gpt_string_model.specs.declared.WantedPartition.{WantedPartition}
use Rattle.gpt_string_model.specs.Text.{key_of, has_key, is_field, byte_count, value_in, name_units, type_named}
use Rattle.gpt_string_text.specs.declared.fields.Fields.{Fields}

-- by the values of the six keys, where they are given
abbrev pub fields_by : (name size uuid start type bootable : Option (List ℕ)) → Fields
fields_by name size uuid start type bootable = record {
  name = option_map name_units name;
  size = option_map (λ v. unwrap_or (byte_count v) 0) size;
  unique = option_map stored_of uuid;
  start = option_map (λ v. unwrap_or (byte_count v) 0) start;
  kind = option_map type_named type;
  attributes = option_map (λ v. 4) bootable;
}

-- what the fields fs say
unfoldable pub fields_in : List (List ℕ) → Fields
fields_in fs =
    fields_by (value_in (ascii "name=") fs) (value_in (ascii "size=") fs) (value_in (ascii "uuid=") fs) (value_in (ascii "start=") fs)
    (value_in (ascii "type=") fs) (value_in (ascii "bootable") fs)

-- the fields fs and then f
unfoldable pub with_field : List (List ℕ) → List ℕ → Option Fields
with_field fs f = cond (is_field f and not (is_some (value_in (key_of f) fs))) (Some (fields_in (fs ++ (f ∷ [])))) None

-- t is what the field f adds to s, whatever fields s stands for, where it adds something
abbrev pub Takes : {A : Type 0} → List ℕ → Fields → Option A → Fields → Type 0
Takes f s r t = (fs : List (List ℕ)) → s ≡ fields_in fs → MatchOption r (with_field fs f ≡ None) (λ u. with_field fs f ≡ Some t)

-- all of the fields fs
unfoldable pub all_read : List (List ℕ) → Option Fields
all_read fs = cond (all is_field fs and pairs (λ f d. not (has_key (key_of f) d)) fs) (Some (fields_in fs)) None

-- what they ask for, where a name, a size and a unique GUID are among them
abbrev pub asked : Option (List ℕ) → Option ℕ → Option (List ℕ) → Option ℕ → List ℕ → ℕ → Option WantedPartition
asked (Some name) (Some size) (Some unique) start kind attributes =
    Some (record { kind = kind; unique = unique; start = start; size = size; attributes = attributes; name = name })
asked None size unique start kind attributes = None
asked (Some name) None unique start kind attributes = None
asked (Some name) (Some size) None start kind attributes = None

unfoldable pub wanted_from : Fields → Option WantedPartition
wanted_from f = asked f.name f.size f.unique f.start (unwrap_or f.kind (type_named (ascii "data"))) (unwrap_or f.attributes 0)
