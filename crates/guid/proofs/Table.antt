-- The rule of the constant table at each of its entries, from one computed test; and short names in reading.
use mathlib.Core.Path.{◌≡◌, refl, ap}
use mathlib.Core.Bool.{true, false, false≢true}
use mathlib.Core.List.{List, [], ◌∷◌, map}
use mathlib.Core.Logic.{◌⊎◌, inl, inr}
use Prim.Native.Nat.{ℕ, zero, suc, ◌<◌}
use native.Mathlib.Nat.{not-suc-le-zero, le_of_suc-le-suc}
use lib.ListN.{length, get_or}
use Rattle.std.specs.Prelude.{Option, Some, None, MatchOption}
use Rattle.std.specs.Option.{option_map}
use Rattle.std.specs.List.{find}
use Rattle.std.specs.Bool.{then_some}
use Rattle.octets.specs.Bytes.{part, same}
use Rattle.octets.specs.Tests.{◌and◌, all, find_ix}
use Rattle.octets.proofs.Bools.{and_l, and_r, bool_cases}
use Rattle.octets.proofs.Equal.{same_true}
use Rattle.guid.specs.Hex.{hex_value}
use Rattle.guid.specs.Text.{digits_in, dashes_in, is_guid_text, stored_of}
use Rattle.guid.specs.Types.{ShortName, short_names, is_named, short_at, expand}
use Rattle.guid.specs.Table.{entry_agrees, entries_agree, table_agrees}
use Rattle.guid.specs.declared.ShortType.{ShortType}

-- what the test of one entry says
pub record Entry (c : ShortType) (s : ShortName) : Type 0 where
  pub name : c.name.now ≡ s.name
  pub text : is_guid_text s.text ≡ true
  pub guid : c.guid ≡ stored_of s.text

entry : (c : ShortType) (s : ShortName) → entry_agrees c s ≡ true → Entry c s
entry c s e = record { name = same_true _ _ (and_l _ _ e); text = and_l _ _ (and_r _ _ e); guid = same_true _ _ (and_r _ _ (and_r _ _ e)) }

module _ (t : List ℕ) where
  -- an entry has the name t where the list's entry has it
  same_name : (c : ShortType) (s : ShortName) → Entry c s → same t c.name.now ≡ is_named t s
  same_name c s e = ap (same t) e.name

  -- the bytes found in the table are those of the text found in the list
  pub found_bytes : (cs : List ShortType) (ss : List ShortName) → entries_agree cs ss ≡ true
      → option_map (λ (c : ShortType). c.guid) (find (λ (c : ShortType). same t c.name.now) cs)
      ≡ option_map (λ (s : ShortName). stored_of s.text) (find (is_named t) ss)
  found_bytes [] [] e = refl
  found_bytes [] (s ∷ ss) e = absurd (false≢true e)
  found_bytes (c ∷ cs) [] e = absurd (false≢true e)
  found_bytes (c ∷ cs) (s ∷ ss) e = go (bool_cases (is_named t s)) (found_bytes cs ss (and_r _ _ e))
    where
      Found : List ShortType → List ShortName → Type 0
      Found cs ss = option_map (λ (c : ShortType). c.guid) (find (λ (c : ShortType). same t c.name.now) cs)
          ≡ option_map (λ (s : ShortName). stored_of s.text) (find (is_named t) ss)

      n : Entry c s
      n = entry c s (and_l _ _ e)

      go : (is_named t s ≡ true) ⊎ (is_named t s ≡ false) → Found cs ss → Found (c ∷ cs) (s ∷ ss)
      go (inl h) ih = rw (same_name c s n, h) (ap Some n.guid)
      go (inr h) ih = rw (same_name c s n, h) ih

  pub short_found : (cs : List ShortType) → table_agrees cs ≡ true
      → option_map (λ (c : ShortType). c.guid) (find (λ (c : ShortType). same t c.name.now) cs)
      ≡ option_map (λ (s : ShortName). stored_of s.text) (find (is_named t) short_names)
  unfolding table_agrees
  short_found cs e = found_bytes cs short_names e

-- ---- the text that t is read as: that of a name in the list, which is a GUID's, or t itself

texts : all (λ (s : ShortName). is_guid_text s.text) short_names ≡ true
unfolding is_guid_text digits_in dashes_in hex_value part same ◌and◌
texts = refl

module _ (t : List ℕ) where
  abbrev taken : List ShortName → List ℕ
  taken ss = get_or (map (λ (s : ShortName). s.text) ss) (find_ix (is_named t) ss) t

  abbrev Taken : List ShortName → Type 0
  Taken ss = MatchOption (find (is_named t) ss) (taken ss ≡ t) (λ s. (taken ss ≡ s.text) × (is_guid_text s.text ≡ true))

  take_name : (ss : List ShortName) → all (λ (s : ShortName). is_guid_text s.text) ss ≡ true → Taken ss
  take_name [] e = refl
  take_name (s ∷ ss) e = go (bool_cases (is_named t s)) (take_name ss (and_r _ _ e))
    where
      go : (is_named t s ≡ true) ⊎ (is_named t s ≡ false) → Taken ss → Taken (s ∷ ss)
      go (inl h) ih = rw (h, find_ix) (refl, and_l _ _ e)
      go (inr h) ih = rw (h, find_ix) ih

  -- a short name's bytes, or those of the text itself, are what the type is stored as
  pub type_read : {r : Option (List ℕ)} → r ≡ option_map (λ (s : ShortName). stored_of s.text) (find (is_named t) short_names)
      → MatchOption r (expand t ≡ t) (λ x. Some x ≡ then_some (is_guid_text (expand t)) (stored_of (expand t)))
  unfolding expand short_at
  type_read e = rw e (go (find (is_named t) short_names) (take_name short_names texts))
    where
      go : (o : Option ShortName) → MatchOption o (taken short_names ≡ t) (λ s. (taken short_names ≡ s.text) × (is_guid_text s.text ≡ true))
          → MatchOption (option_map (λ (s : ShortName). stored_of s.text) o) (taken short_names ≡ t)
          (λ x. Some x ≡ then_some (is_guid_text (taken short_names)) (stored_of (taken short_names)))
      go None w = w
      go (Some s) w = rw (w.0, w.1)

-- ---- the rule at each entry

entries : (cs : List ShortType) (ss : List ShortName) (c : ShortType) (s : ShortName) → entries_agree cs ss ≡ true
    → (i : ℕ) → i < length ss → Entry (get_or cs i c) (get_or ss i s)
entries cs [] c s e i h = absurd (not-suc-le-zero h)
entries [] (y ∷ ss) c s e i h = absurd (false≢true e)
entries (x ∷ cs) (y ∷ ss) c s e zero h = entry x y (and_l _ _ e)
entries (x ∷ cs) (y ∷ ss) c s e (suc i) h = entries cs ss c s (and_r _ _ e) i (le_of_suc-le-suc h)

-- what stands past the end of the table, and of the list
abbrev pub no_type : ShortType
no_type = record { name = record { ref_ptr = (0, 0); now = [] }; guid = [] }

abbrev pub no_name : ShortName
no_name = record { name = []; text = [] }

pub entry_at : (cs : List ShortType) → table_agrees cs ≡ true → (i : ℕ) → i < 5 → Entry (get_or cs i no_type) (get_or short_names i no_name)
unfolding table_agrees
entry_at cs e i h = entries cs short_names no_type no_name e i h
