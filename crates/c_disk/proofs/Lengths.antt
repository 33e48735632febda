-- A GPT call that is lent a GUID or a name: refused with 6 or 1 where a length is wrong, else made on the arrays that hold the same.
use mathlib.Core.Path.{◌≡◌, refl, sym, ap, ◌∙◌}
use mathlib.Core.Logic.{◌≢◌}
use mathlib.Core.Bool.{false, not}
use mathlib.Core.List.{List, []}
use Rattle.std.specs.Prelude.{Option, None, Some}
use Prim.Native.Nat.{ℕ}
use lib.ListN.{length}
use borrow.Author.Tests.{ne_eqb}
use Rattle.octets.proofs.Bools.{and-false-l, and_false_r}
use Rattle.octets.proofs.Rows.{pick_true}
use Rattle.gpt_model.specs.Disk.{Shape}
use Rattle.gpt_model.specs.declared.NewPartition.{NewPartition}
use Rattle.gpt_model.specs.Calls.{Edit, add, rename, edit, Outcome, format, lengths_of, step}
use Rattle.gpt_model.specs.Sizes.{shape_of, on_shape, step_by, format_by}
use Rattle.gpt_model.proofs.Outcomes.{step-refused}
use Rattle.gpt_model.proofs.Demand3.{format-refused}
use Rattle.c_disk.specs.Effects.{GptEffect, gpt_effect, length_number}

-- what C gets where a length is wrong, by the number
abbrev pub unmade : ℕ → List ℕ → List ℕ → List ℕ → GptEffect
unmade k old h t = record { result = k; head = h; tail = t; values = old }

module _ (size n : ℕ) (h t : List ℕ) (r : ℕ) (is : r ≡ length_number (shape_of size)) where
  pub format-wrong : (guid : List ℕ) → length guid ≢ 16 → unmade r [] h t ≡ gpt_effect [] (format_by size n guid h t)
  unfolding format_by
  format-wrong guid q = ap (λ (k : ℕ). unmade k [] h t) is ∙ go (shape_of size)
    where
      go : (s : Option Shape) → unmade (length_number s) [] h t ≡ gpt_effect [] (on_shape s h t (λ g. format g n guid h t))
      go None = refl
      go (Some g) = ap (gpt_effect []) (sym (format-refused g n guid h t 1 (pick_true _ 1 _ (ap not (and_false_r _ _ (ne_eqb _ _ q))))))

  edit-wrong : (old : List ℕ) (d : Edit) → lengths_of d ≡ false → unmade r old h t ≡ gpt_effect old (step_by size n h t (edit d))
  unfolding step_by
  edit-wrong old d q = ap (λ (k : ℕ). unmade k old h t) is ∙ go (shape_of size)
    where
      go : (s : Option Shape) → unmade (length_number s) old h t ≡ gpt_effect old (on_shape s h t (λ g. step g n h t (edit d)))
      go None = refl
      go (Some g) = ap (gpt_effect old) (sym (step-refused g n h t (edit d) 1 (pick_true _ 1 _ (ap not (and_false_r _ _ q)))))

  pub rename-wrong : (slot : ℕ) (name : List ℕ) → length name ≢ 36 → unmade r [] h t ≡ gpt_effect [] (step_by size n h t (edit (rename slot name)))
  rename-wrong slot name q = edit-wrong [] (rename slot name) (ne_eqb _ _ q)

  module _ (old : List ℕ) (p : NewPartition) where
    abbrev added : GptEffect
    added = gpt_effect old (step_by size n h t (edit (add p)))

    pub kind-wrong : length p.kind ≢ 16 → unmade r old h t ≡ added
    kind-wrong q = edit-wrong old (add p) (and-false-l _ _ (and-false-l _ _ (ne_eqb _ _ q)))

    pub unique-wrong : length p.unique ≢ 16 → unmade r old h t ≡ added
    unique-wrong q = edit-wrong old (add p) (and-false-l _ _ (and_false_r _ _ (ne_eqb _ _ q)))

    pub name-wrong : length p.name ≢ 36 → unmade r old h t ≡ added
    name-wrong q = edit-wrong old (add p) (and_false_r _ _ (ne_eqb _ _ q))

module _ (size n : ℕ) (h t : List ℕ) where
  pub format-on : (d guid : List ℕ) {o : Outcome} → d ≡ guid → o ≡ format_by size n d h t → o ≡ format_by size n guid h t
  format-on d guid p e = e ∙ ap (λ (x : List ℕ). format_by size n x h t) p

  pub rename-on : (slot : ℕ) (m name : List ℕ) {o : Outcome} → m ≡ name → o ≡ step_by size n h t (edit (rename slot m))
      → o ≡ step_by size n h t (edit (rename slot name))
  rename-on slot m name p e = e ∙ ap (λ (x : List ℕ). step_by size n h t (edit (rename slot x))) p

  -- what the code adds, and what was given
  pub add-on : (q p : NewPartition) {o : Outcome} → q ≡ p → o ≡ step_by size n h t (edit (add q)) → o ≡ step_by size n h t (edit (add p))
  add-on q p w e = e ∙ ap (λ (x : NewPartition). step_by size n h t (edit (add x))) w
