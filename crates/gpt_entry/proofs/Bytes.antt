-- The bytes of an entry: a name written unit by unit, an entry written field by field.
use mathlib.Core.Path.{◌≡◌, refl, sym, ap, ◌∙◌}
use mathlib.Core.List.{List, [], ◌∷◌, ◌++◌, append_assoc, append-nil}
use Prim.Native.Nat.{ℕ, ◌+◌, ◌-◌, ◌*◌, ◌≤◌, ◌<◌}
use native.Mathlib.Numerals.{add-one}
use native.Mathlib.Omega.{arith}
use lib.ListN.{length, get_or, take, replicate, length-replicate}
use lib.Seq.{take-suc, take_all, length-take-le}
use Rattle.octets.specs.Bytes.{le, put, zeros}
use Rattle.octets.proofs.Puts.{put_all, then}
use Rattle.gpt_model.specs.Table.{name_bytes}
use Rattle.gpt_model.specs.declared.NewPartition.{NewPartition}
use Rattle.gpt_model.specs.Calls.{new_entry}
use Rattle.gpt_model.proofs.Fields.{length-name, length-new}

name-snoc : (us : List ℕ) (u : ℕ) → name_bytes (us ++ (u ∷ [])) ≡ name_bytes us ++ le 2 u
name-snoc [] u = append-nil (le 2 u)
name-snoc (v ∷ us) u = ap (λ (l : List ℕ). le 2 v ++ l) (name-snoc us u) ∙ sym (append_assoc (le 2 v) (name_bytes us) (le 2 u))

-- the first i units of the name stand in s, and zeros behind them
pub record Named (name s : List ℕ) (i : ℕ) : Type 0 where
  pub below : i ≤ 36
  pub units : s ≡ put 0 (name_bytes (take i name)) (replicate 72 0)

module _ {name : List ℕ} (l : length name ≡ 36) where
  pub named_none : Named name (replicate 72 0) 0
  unfolding put
  named_none = record { below = omega arith; units = refl }

  pub named-on : {s s' : List ℕ} {i : ℕ} → i < 36 → s' ≡ put (2 * i) (le 2 (get_or name i 0)) s → Named name s i → Named name s' (i + 1)
  named-on {s} {s'} {i} h q p =
      let k : i < length name = omega arith in
      let m : 0 + length (name_bytes (take i name)) ≡ 2 * i =
      ap (λ (x : ℕ). 0 + x) (length-name (take i name) ∙ ap (λ (x : ℕ). 2 * x) (length-take-le i name (omega arith))) ∙ omega arith in
      record {
        below = omega arith;
        units =
            then (replicate 72 0) (name_bytes (take i name)) s (le 2 (get_or name i 0)) s' 0 (2 * i) p.units q m
            ∙ ap (λ (x : List ℕ). put 0 x (replicate 72 0))
            (sym (ap name_bytes (ap (λ (j : ℕ). take j name) (add-one i) ∙ take-suc name i 0 k) ∙ name-snoc (take i name) (get_or name i 0)));
      }

  pub named-all : {s : List ℕ} {i : ℕ} → 36 ≤ i → Named name s i → (s ≡ name_bytes name) × (length s ≡ 72)
  named-all {s} {i} h p =
      let k : length (name_bytes name) ≡ 72 = length-name name ∙ omega arith in
      let e : s ≡ name_bytes name =
      p.units ∙ ap (λ (x : List ℕ). put 0 (name_bytes x) (replicate 72 0)) (take_all i name (omega arith))
      ∙ put_all (name_bytes name) (replicate 72 0) (k ∙ sym (length-replicate {A = ℕ} 72 0)) in
      (e, ap length e ∙ k)

-- ---- the six fields of a new entry

-- (E1) the last block of that many blocks from f on
last_of : (f size : ℕ) → 0 < size → f + (size - 1) ≡ f + size - 1
last_of f size h = omega arith

pub six-writes : (p : NewPartition) (f : ℕ) (a b c d e r : List ℕ) → 0 < p.size → a ≡ put 0 p.kind (replicate 128 0) → b ≡ put 16 p.unique a
    → c ≡ put 32 (le 8 f) b → d ≡ put 40 (le 8 (f + (p.size - 1))) c → e ≡ put 48 (le 8 p.attributes) d → r ≡ put 56 (name_bytes p.name) e
    → (r ≡ new_entry p f) × (length r ≡ 128)
unfolding zeros
six-writes p f a b c d e r h w q s t u v =
    let k : r ≡ new_entry p f = v ∙ rw (u, t, last_of, s, q, w) in
    (k, ap length k ∙ length-new p f)
