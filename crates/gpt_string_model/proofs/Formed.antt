-- What a taken text asks for, as tests: a partition at least, and GUIDs, names and attributes that an entry has room for.
use mathlib.Core.Path.{◌≡◌, refl}
use mathlib.Core.Bool.{true, false≢true}
use mathlib.Core.List.{List, [], ◌∷◌, map}
use Prim.Native.Nat.{ℕ}
use lib.ListN.{length, drop}
use borrow.Author.Tests.{le-leb, eq-eqb}
use Rattle.octets.specs.Tests.{all}
use Rattle.octets.proofs.Bools.{and_l, and_r, and_i}
use Rattle.gpt_string_model.specs.declared.WantedPartition.{WantedPartition}
use Rattle.gpt_string_model.specs.Text.{is_partition, wanted_of, parts_of, are_parts, is_layout, disk_guid_of, wanted_in}
use Rattle.gpt_string_model.proofs.Asked.{partition-formed, length-disk-guid, layout-partitions}
use Rattle.gpt_string_model.proofs.Parts.{formed}

pub part-formed : (p : List ℕ) → is_partition p ≡ true → formed (wanted_of p) ≡ true
part-formed p e =
    let w = partition-formed p e in
    and_i _ _ (and_i _ _ (and_i _ _ (eq-eqb _ _ w.kind) (eq-eqb _ _ w.unique)) (eq-eqb _ _ w.name)) (le-leb _ _ w.attributes)

all-formed : (ps : List (List ℕ)) → all is_partition ps ≡ true → all formed (map wanted_of ps) ≡ true
all-formed [] e = refl
all-formed (p ∷ ps) e = and_i _ _ (part-formed p (and_l _ _ e)) (all-formed ps (and_r _ _ e))

pub record TextFormed (text : List ℕ) : Type 0 where
  pub partitions : all formed (wanted_in text) ≡ true
  pub guid : length (disk_guid_of text) ≡ 16
  pub some-partition : (w : WantedPartition) × ((ws : List WantedPartition) × (wanted_in text ≡ w ∷ ws))

one-partition : (ps : List (List ℕ)) → are_parts ps ≡ true → (w : WantedPartition) × ((ws : List WantedPartition) × (map wanted_of (drop 1 ps) ≡ w ∷ ws))
one-partition [] e = absurd (false≢true e)
one-partition (d ∷ []) e = absurd (false≢true e)
one-partition (d ∷ p ∷ ps) e = (wanted_of p, (map wanted_of ps, refl))

pub layout-formed : (text : List ℕ) → is_layout text ≡ true → TextFormed text
unfolding is_layout wanted_in
layout-formed text e = record {
  partitions = all-formed (drop 1 (parts_of text)) (layout-partitions text e);
  guid = length-disk-guid text e;
  some-partition = one-partition (parts_of text) (and_r _ _ e);
}
