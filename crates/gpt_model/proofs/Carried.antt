-- The bytes that a used entry carries in a part of it, as its unique GUID or its name: the tests of rows 22 and 26, and what they say of each entry.
use mathlib.Core.Path.{◌≡◌, sym, ap, subst, ◌∙◌}
use mathlib.Core.Logic.{◌⊎◌, inl, inr, ⊎_elim, ◌≢◌, ◌↔◌}
use mathlib.Core.Bool.{true, false, not}
use mathlib.Core.List.{List, []}
use Prim.Native.Nat.{ℕ, suc, ◌-◌, ◌≤◌, ◌<◌}
use native.Mathlib.Omega.{arith}
use lib.ListN.{length, get_or, length-set}
use lib.Seq.{get_or-set_same, get_or-set_other}
use Rattle.octets.specs.Tests.{◌and◌, any}
use Rattle.octets.specs.Bytes.{is_zero, same}
use Rattle.octets.proofs.Bools.{and_l, and_r, and_i, and-false-l, bool_cases, not_t, clash}
use Rattle.octets.proofs.Tests.{any-get, any-make}
use Rattle.octets.proofs.Equal.{same_true, same_refl}
use Rattle.octets.proofs.Chunks.{length-chunks}
use Rattle.gpt_model.specs.Table.{partition_name_of, name_bytes, unused, entries}
use Rattle.gpt_model.specs.Calls.{carries, name_taken, other_entries}
use Rattle.gpt_model.specs.Stored.{unit_bytes, EntryNamed}
use Rattle.gpt_model.proofs.Entries.{unused-nil, entry_at}
use Rattle.gpt_model.proofs.StoredTable.{used-is, name_is}

module _ (part_of : List ℕ → List ℕ) (bytes : List ℕ) where
  -- the entry e is used and carries the bytes
  abbrev Has : List ℕ → Type 0
  Has e = (unused e ≡ false) × (part_of e ≡ bytes)

  carries-get : (e : List ℕ) → carries part_of bytes e ≡ true → Has e
  carries-get e q = (not_t _ (and_l _ _ q), same_true _ _ (and_r _ _ q))

  carries-make : (e : List ℕ) → Has e → carries part_of bytes e ≡ true
  carries-make e w = and_i _ _ (ap not w.0) (subst (λ (x : List ℕ). same (part_of e) x ≡ true) w.1 (same_refl _))

  -- an empty entry carries nothing
  nil-carries : carries part_of bytes [] ≡ false
  nil-carries = and-false-l _ _ (ap not unused-nil)

  module _ (es : List ℕ) where
    pub some-carry : (any (carries part_of bytes) (entries es) ≡ true) ↔ ((i : ℕ) × (i < 128) × Has (entry_at es i))
    some-carry = (
      λ e. let w = any-get (carries part_of bytes) (entries es) [] e in (w.0, omega (arith, w.1, length-chunks 128 128 es), carries-get _ w.2),
      λ w. any-make (carries part_of bytes) (entries es) [] w.0 (omega (arith, w.1, length-chunks 128 128 es)) (carries-make _ w.2),
    )

    -- the same of the slots other than slot k
    module _ (k : ℕ) (lo : 1 ≤ k) where
      long : length (other_entries es k) ≡ 128
      long = length-set (entries es) (k - 1) [] ∙ length-chunks 128 128 es

      other : (i : ℕ) → suc i ≢ k → get_or (other_entries es k) i [] ≡ entry_at es i
      other i ne = get_or-set_other (entries es) (k - 1) i [] [] (λ x. ne (omega arith))

      own : (i : ℕ) → i < 128 → suc i ≡ k → carries part_of bytes (get_or (other_entries es k) i []) ≡ false
      own i h q =
          let at : k - 1 ≡ i = omega arith in
          ap (carries part_of bytes)
          (ap (λ (x : ℕ). get_or (other_entries es k) x []) (sym at)
          ∙ get_or-set_same (entries es) (k - 1) [] [] (omega (arith, length-chunks 128 128 es)))
          ∙ nil-carries

      pub other-carries : (any (carries part_of bytes) (other_entries es k) ≡ true) ↔ ((i : ℕ) × (suc i ≢ k) × (i < 128) × Has (entry_at es i))
      other-carries = (to, from)
        where
          to : any (carries part_of bytes) (other_entries es k) ≡ true → (i : ℕ) × (suc i ≢ k) × (i < 128) × Has (entry_at es i)
          to e =
              let w = any-get (carries part_of bytes) (other_entries es k) [] e in
              let h : w.0 < 128 = omega (arith, w.1, long) in
              let ne : suc w.0 ≢ k = λ q. clash w.2 (own w.0 h q) in
              (w.0, ne, h, carries-get _ (ap (carries part_of bytes) (sym (other w.0 ne)) ∙ w.2))

          from : (i : ℕ) × (suc i ≢ k) × (i < 128) × Has (entry_at es i) → any (carries part_of bytes) (other_entries es k) ≡ true
          from w =
              any-make (carries part_of bytes) (other_entries es k) [] w.0 (omega (arith, w.2, long))
              (ap (carries part_of bytes) (other w.0 w.1) ∙ carries-make _ w.3)

-- ---- row 26

-- an entry that carries a name, by its bytes
module _ (es name : List ℕ) where
  abbrev Named : ℕ → Type 0
  Named i = (i < 128) × Has partition_name_of (name_bytes name) (entry_at es i)

  named_get : (i : ℕ) → Named i → EntryNamed es i name
  named_get i w = (w.0, sym (used-is es i w.0) ∙ w.1.0, sym (name_is es i w.0) ∙ w.1.1)

  named-make : (i : ℕ) → EntryNamed es i name → Named i
  named-make i w = (w.0, (used-is es i w.0 ∙ w.1, name_is es i w.0 ∙ w.2))

  pub some-named : (any (carries partition_name_of (name_bytes name)) (entries es) ≡ true) ↔ ((i : ℕ) × EntryNamed es i name)
  some-named = (
    λ e. let w = (some-carry partition_name_of (name_bytes name) es).0 e in (w.0, named_get w.0 (w.1, w.2)),
    λ w. let v = named-make w.0 w.1 in (some-carry partition_name_of (name_bytes name) es).1 (w.0, v.0, v.1),
  )

  pub other-named : (k : ℕ) → 1 ≤ k
      → (any (carries partition_name_of (name_bytes name)) (other_entries es k) ≡ true) ↔ ((i : ℕ) × (suc i ≢ k) × EntryNamed es i name)
  other-named k lo = (
    λ e. let w = (other-carries partition_name_of (name_bytes name) es k lo).0 e in (w.0, w.1, named_get w.0 (w.2, w.3)),
    λ w. let v = named-make w.0 w.2 in (other-carries partition_name_of (name_bytes name) es k lo).1 (w.0, w.1, v.0, v.1),
  )

-- the test: the name is not empty, and one of those entries carries it
module _ (ds : List (List ℕ)) (name : List ℕ) {P : Type 0} (w : (any (carries partition_name_of (name_bytes name)) ds ≡ true) ↔ P) where
  pub taken-iff : (name_taken ds name ≡ true) ↔ ((is_zero (unit_bytes name) ≡ false) × P)
  taken-iff = (λ e. (not_t _ (and_l _ _ e), w.0 (and_r _ _ e)), λ v. and_i _ _ (ap not v.0) (w.1 v.1))

  pub free-iff : (name_taken ds name ≡ false) ↔ ((is_zero (unit_bytes name) ≡ true) ⊎ (¬ P))
  free-iff = (to, from)
    where
      to : name_taken ds name ≡ false → (is_zero (unit_bytes name) ≡ true) ⊎ (¬ P)
      to e = ⊎_elim (λ z. inl z) (λ z. inr (λ p. clash (taken-iff.1 (z, p)) e)) (bool_cases (is_zero (unit_bytes name)))

      from : (is_zero (unit_bytes name) ≡ true) ⊎ (¬ P) → name_taken ds name ≡ false
      from (inl z) = and-false-l _ _ (ap not z)
      from (inr n) = ⊎_elim (λ t. absurd (n (taken-iff.0 t).1)) (λ t. t) (bool_cases (name_taken ds name))
