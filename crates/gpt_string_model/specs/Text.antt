-- Layout strings of the boot loader: which texts are taken, and what each asks for. Definitions only.
use Rattle.std.specs.Prelude.{Bool, true, false, not, cond, List, [], ◌∷◌, ◌++◌, map, ℕ, ◌-◌, ◌*◌, leb, eqb, length, get_or, drop, replicate}
use Rattle.std.specs.Prelude.{Option, None, Some, is_some, unwrap_or, Ok, Err}
use Prim.Native.Char.{code}
use Prim.Native.String.{String}
use Rattle.octets.specs.Ascii.{ascii}
use Rattle.octets.specs.Tests.{◌and◌, ◌or◌, all, any, pairs}
use Rattle.octets.specs.Bytes.{zeros, same}
use Rattle.guid.specs.Text.{is_guid_text, stored_of}
use Rattle.guid.specs.Types.{expand}
use Rattle.text_words.specs.Classes.{is_graphic}
use Rattle.text_words.specs.Names.{is_sized}
use Rattle.text_words.specs.Numerals.{Begun, some_digits}
use Rattle.gpt_string_model.specs.declared.WantedPartition.{WantedPartition}

-- ---- splitting

abbrev pub in_first : ℕ → List (List ℕ) → List (List ℕ)
in_first b [] = (b ∷ []) ∷ []
in_first b (p ∷ ps) = (b ∷ p) ∷ ps

-- the parts of a text between its bytes c: one more than there are such bytes
unfoldable pub split : ℕ → List ℕ → List (List ℕ)
split c [] = [] ∷ []
split c (b ∷ bs) = elim (eqb b c) [ true ↦ [] ∷ split c bs | false ↦ in_first b (split c bs) ]

-- a field's key: up to its first `=`, and with it; a field that has none is all key
unfoldable pub key_of : List ℕ → List ℕ
key_of [] = []
key_of (b ∷ bs) = elim (eqb b (code "=")) [ true ↦ b ∷ [] | false ↦ b ∷ key_of bs ]

-- its value: what stands behind the key
unfoldable pub field_value : List ℕ → List ℕ
field_value f = drop (length (key_of f)) f

-- ---- b3: Numbers are decimal bytes, leading zeros allowed, with optional KiB, MiB or GiB.

-- what stands behind the digits: nothing, or a unit; and the factor that it is
abbrev pub units : List (List ℕ × ℕ)
units = (ascii "", 1) ∷ (ascii "KiB", 1024) ∷ (ascii "MiB", 1048576) ∷ (ascii "GiB", 1073741824) ∷ []

unfoldable pub factor_in : List (List ℕ × ℕ) → List ℕ → Option ℕ
factor_in [] u = None
factor_in (k ∷ ks) u = cond (same u k.0) (Some k.1) (factor_in ks u)

-- b5: numbers, multiplied, stay below 2^64
abbrev pub most : ℕ
most = 18446744073709551615

abbrev pub multiplied : ℕ → Option ℕ → Option ℕ
multiplied n None = None
multiplied n (Some factor) = cond (leb (n * factor) most) (Some (n * factor)) None

abbrev pub byte_count_by : Begun → List ℕ → Option ℕ
byte_count_by (Ok n) v = multiplied n.value (factor_in units (drop n.end v))
byte_count_by (Err e) v = None

-- the number of bytes that a value says; none where it is no such number
unfoldable pub byte_count : List ℕ → Option ℕ
byte_count v = byte_count_by (some_digits most 10 v 0) v

-- ---- fields

-- b5: a name has 1 to 36 bytes of 21 to 7E hex without comma or semicolon. (A field holds neither.)
unfoldable pub is_partition_name : List ℕ → Bool
is_partition_name v = is_sized 36 v and all is_graphic v

-- a key, whether it must be present, and the values that it takes
pub record Key : Type 0 where
  pub word : List ℕ
  pub must : Bool
  pub takes : List ℕ → Bool

abbrev pub key : String → Bool → (List ℕ → Bool) → Key
key s m t = record { word = ascii s; must = m; takes = t }

-- b2: Here uuid_disk, name, size and uuid must be present; start, type (GUID or short name, else data) and bootable (attribute bit 2) may be.
abbrev pub keys : List Key
keys =
    key "name=" true is_partition_name
    ∷ key "size=" true (λ v. is_some (byte_count v))
    ∷ key "uuid=" true is_guid_text
    ∷ key "start=" false (λ v. is_some (byte_count v))
    ∷ key "type=" false (λ v. is_guid_text (expand v))
    ∷ key "bootable" false (λ v. true)
    ∷ []

abbrev pub has_key : List ℕ → List ℕ → Bool
has_key k f = same (key_of f) k

-- a field has one of the keys, and a value that its key takes
unfoldable pub is_field : List ℕ → Bool
is_field f = any (λ k. has_key k.word f and k.takes (field_value f)) keys

-- ---- partitions

-- b4: fields come in any order, each once; those that must be present are
unfoldable pub are_fields : List (List ℕ) → Bool
are_fields fs =
    all is_field fs
    and pairs (λ f d. not (has_key (key_of f) d)) fs
    and all (λ k. not k.must or any (has_key k.word) fs) keys

-- the value of the field with the key k, where there is one
unfoldable pub value_in : List ℕ → List (List ℕ) → Option (List ℕ)
value_in k [] = None
value_in k (f ∷ fs) = elim (has_key k f) [ true ↦ Some (field_value f) | false ↦ value_in k fs ]

-- what a value says, where there is one, else d
module _ {A : Type 0} (says : List ℕ → A) (d : A) where
  abbrev pub said_or : Option (List ℕ) → A
  said_or None = d
  said_or (Some v) = says v

-- a name as 36 units, one for each byte, then zeros
abbrev pub name_units : List ℕ → List ℕ
name_units v = v ++ replicate (36 - length v) 0

-- the stored type of a GUID text or a short name
abbrev pub type_named : List ℕ → List ℕ
type_named v = stored_of (expand v)

-- b2: type (GUID or short name, else data) and bootable (attribute bit 2)
unfoldable pub wanted_by : List (List ℕ) → WantedPartition
wanted_by fs = record {
  kind = said_or type_named (type_named (ascii "data")) (value_in (ascii "type=") fs);
  unique = said_or stored_of (zeros 16) (value_in (ascii "uuid=") fs);
  start = said_or (λ v. Some (unwrap_or (byte_count v) 0)) None (value_in (ascii "start=") fs);
  size = said_or (λ v. unwrap_or (byte_count v) 0) 0 (value_in (ascii "size=") fs);
  attributes = said_or (λ v. 4) 0 (value_in (ascii "bootable") fs);
  name = said_or name_units (zeros 36) (value_in (ascii "name=") fs);
}

-- b1: fields by commas
abbrev pub fields_of : List ℕ → List (List ℕ)
fields_of p = split (code ",") p

unfoldable pub is_partition : List ℕ → Bool
is_partition p = are_fields (fields_of p)

unfoldable pub wanted_of : List ℕ → WantedPartition
wanted_of p = wanted_by (fields_of p)

-- ---- the text

-- b4: a last semicolon may: an empty last part does not count
abbrev pub closed : List (List ℕ) → List (List ℕ)
closed [] = []
closed (s ∷ []) = cond (same s []) [] (s ∷ [])
closed (s ∷ r ∷ rs) = s ∷ closed (r ∷ rs)

-- b1: parted by semicolons
abbrev pub parts_of : List ℕ → List (List ℕ)
parts_of text = closed (split (code ";") text)

-- b1: "uuid_disk=" first, then one or more partitions
abbrev pub are_parts : List (List ℕ) → Bool
are_parts [] = false
are_parts (d ∷ []) = false
are_parts (d ∷ p ∷ ps) = has_key (ascii "uuid_disk=") d and is_guid_text (field_value d) and all is_partition (p ∷ ps)

-- b1: at most 8,192 bytes. b4: No blanks stand in the text: none of the parts above takes one
unfoldable pub is_layout : List ℕ → Bool
is_layout text = leb (length text) 8192 and are_parts (parts_of text)

-- what a text asks for: the disk GUID, and the partitions in the text's order
unfoldable pub disk_guid_of : List ℕ → List ℕ
disk_guid_of text = stored_of (field_value (get_or (parts_of text) 0 []))

unfoldable pub wanted_in : List ℕ → List WantedPartition
wanted_in text = map wanted_of (drop 1 (parts_of text))
